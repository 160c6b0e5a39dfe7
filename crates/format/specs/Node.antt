-- The nodes of types: kinds, modes and labels, with document 01's number of each. Definitions; assumes nothing.
-- The names of the kinds are those of the Rust's `IDLType` and `PrimType`.
use Rattle.std.specs.Prelude.{List, [], ◌∷◌, ℕ, ◌+◌, ◌*◌}
use Rattle.labels.specs.declared.Label.{Label}
use Rattle.labels.specs.Label.{label_kind_of, value_of}

-- The kinds 0 to 17: types that hold no other type.
pub data PrimType : Type 0 where
  Null Bool Nat Int Nat8 Nat16 Nat32 Nat64 Int8 Int16 Int32 Int64 Float32 Float64 Text Reserved Empty Principal : PrimType

-- A function's modes.
pub data FuncMode : Type 0 where
  Oneway Query CompositeQuery : FuncMode

-- A node's kind. VarT holds the number of a name; FuncT says how many of its children are arguments, the others being results.
-- Kind 26, the init argument list, has no counterpart in the Rust.
pub data Kind : Type 0 where
  PrimT : PrimType → Kind
  VarT : (name : ℕ) → Kind
  OptT VecT RecordT VariantT : Kind
  FuncT : (arguments : ℕ) (modes : List FuncMode) → Kind
  ServT ClassT InitT : Kind

-- A child of a record or a variant and a method have a label; no other node has one.
pub data Labelled : Type 0 where
  unlabelled : Labelled
  labelled : Label → Labelled

pub record Node : Type 0 where
  pub kind : Kind
  pub label : Labelled

-- ---- The numbers of document 01
unfoldable pub prim_number : PrimType → ℕ
prim_number Null = 0
prim_number Bool = 1
prim_number Nat = 2
prim_number Int = 3
prim_number Nat8 = 4
prim_number Nat16 = 5
prim_number Nat32 = 6
prim_number Nat64 = 7
prim_number Int8 = 8
prim_number Int16 = 9
prim_number Int32 = 10
prim_number Int64 = 11
prim_number Float32 = 12
prim_number Float64 = 13
prim_number Text = 14
prim_number Reserved = 15
prim_number Empty = 16
prim_number Principal = 17

unfoldable pub kind_number : Kind → ℕ
kind_number (PrimT p) = prim_number p
kind_number (VarT n) = 18
kind_number OptT = 19
kind_number VecT = 20
kind_number RecordT = 21
kind_number VariantT = 22
kind_number (FuncT a ms) = 23
kind_number ServT = 24
kind_number ClassT = 25
kind_number InitT = 26

unfoldable pub mode_number : FuncMode → ℕ
mode_number Oneway = 1
mode_number Query = 2
mode_number CompositeQuery = 3

-- The modes as digits in base 4, the lowest first; no mode is 0.
unfoldable pub modes_number : List FuncMode → ℕ
modes_number [] = 0
modes_number (m ∷ ms) = mode_number m + 4 * modes_number ms

-- A node's value: a name's number, or a function's argument count in the low 16 bits and its modes above them, else 0.
unfoldable pub value_number : Kind → ℕ
value_number (PrimT p) = 0
value_number (VarT n) = n
value_number OptT = 0
value_number VecT = 0
value_number RecordT = 0
value_number VariantT = 0
value_number (FuncT a ms) = a + 65536 * modes_number ms
value_number ServT = 0
value_number ClassT = 0
value_number InitT = 0

-- A label's kind and its number; 0 and 0 of a node without a label.
unfoldable pub label_kind : Labelled → ℕ
label_kind unlabelled = 0
label_kind (labelled l) = label_kind_of l

unfoldable pub label_value : Labelled → ℕ
label_value unlabelled = 0
label_value (labelled l) = value_of l
