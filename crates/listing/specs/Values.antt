-- How many values a form can send, request 13 of document 02: the values that there are, and which a type has (`Has`), which knows of no count but
-- those of the primitive types; a count that runs (proofs/Values.antt joins the two), the question, and what it refuses. Definitions; assumes nothing.
use Rattle.std.specs.Prelude.{◌≡◌, ℕ, zero, suc, ◌+◌, ◌*◌, ◌≤◌, ◌<◌, cond, length, eqb, leb, Option, Some, None}
use mathlib.Core.List.{List, [], ◌∷◌, Memᴰ}
use Rattle.format.specs.Forest.{Forest, end, tree}
use Rattle.format.specs.Node.{PrimType, Null, Bool, Nat, Int, Nat8, Nat16, Nat32, Nat64, Int8, Int16, Int32, Int64, Float32, Float64, Text, Reserved, Empty, Principal, Kind, PrimT, VarT, OptT, VecT, RecordT, VariantT, FuncT, ServT, ClassT, InitT, FuncMode, Node}
use Rattle.format.specs.Book.{Definition, Book}
use Rattle.format.specs.Distinct.{Distinct}
use Rattle.judgement.specs.Environment.{Found, missing, body, find_type, main_definitions}
use Rattle.judgement.specs.WellFormed.{Defined}
use Rattle.judgement.specs.Check.{member, check}
use Rattle.judgement.specs.Rows.{CheckRow, check_rows}
use Rattle.refusals.specs.declared.Refusal.{Refusal}
use Rattle.refusals.specs.declared.Refusal.TheVariants.{Unbound}
use Rattle.refusals.specs.declared.Count.{Count}
use Rattle.refusals.specs.declared.Count.TheVariants.{Exactly, Many}
use Rattle.refusals.specs.Verdict.{passes}
use Rattle.refusals.specs.Outcome.{Outcome, refused, given, after}
use Rattle.listing.specs.Empty.{rounds}

-- ---- Values

-- A value of finite height. An atom has no parts: it is one of a primitive type, a function or a service, told from others by a number.
mutual
  pub data Value : Type 0 where
    atom : ℕ → Value
    absent : Value
    present : Value → Value
    items : Values → Value
    fields : Values → Value
    case : (place : ℕ) → Value → Value

  -- Finitely many, in order.
  pub data Values : Type 0 where
    no_more : Values
    also : Value → Values → Values

-- How many values a primitive type has; None is taken to be without end. Floats are told apart by their bits.
unfoldable pub prim_size : PrimType → Option ℕ
prim_size Null = Some 1
prim_size Reserved = Some 1
prim_size Empty = Some 0
prim_size Bool = Some 2
prim_size Nat8 = Some 256
prim_size Int8 = Some 256
prim_size Nat16 = Some 65536
prim_size Int16 = Some 65536
prim_size Nat32 = Some 4294967296
prim_size Int32 = Some 4294967296
prim_size Float32 = Some 4294967296
prim_size Nat64 = Some 18446744073709551616
prim_size Int64 = Some 18446744073709551616
prim_size Float64 = Some 18446744073709551616
prim_size Nat = None
prim_size Int = None
prim_size Text = None
prim_size Principal = None

abbrev pub InSize : Option ℕ → ℕ → Type 0
InSize None n = Unit {0}
InSize (Some size) n = n < size

-- Kinds whose values are references, of which there is no end. A class and an init list are no types of values, and taken as services are.
pub data Reference : Kind → Type 0 where
  function : {a : ℕ} {ms : List FuncMode} → Reference (FuncT a ms)
  service : Reference ServT
  class : Reference ClassT
  init : Reference InitT

-- A type, by its kind and the types within it, has this value. That of an opt, and each item of a vec, is one of the first type within it, which is
-- the only one in a book that fits.
mutual
  pub data Has (ds : List Definition) : Kind → Forest Node → Value → Type 0 where
    of_prim : {p : PrimType} {kids : Forest Node} {n : ℕ} → InSize (prim_size p) n → Has ds (PrimT p) kids (atom n)
    of_reference : {k : Kind} {kids : Forest Node} {n : ℕ} → Reference k → Has ds k kids (atom n)
    of_name : {m : ℕ} {t : Node} {kids next none : Forest Node} {v : Value} → find_type ds m ≡ body (tree t kids next) → Has ds t.kind kids v → Has ds (VarT m) none v
    of_absent : {content : Forest Node} → Has ds OptT content absent
    of_present : {t : Node} {kids next : Forest Node} {v : Value} → Has ds t.kind kids v → Has ds OptT (tree t kids next) (present v)
    of_items : {content : Forest Node} {vs : Values} → HasItems ds content vs → Has ds VecT content (items vs)
    of_fields : {types : Forest Node} {vs : Values} → HasFields ds types vs → Has ds RecordT types (fields vs)
    of_case : {types : Forest Node} {i : ℕ} {v : Value} → HasCase ds types i v → Has ds VariantT types (case i v)

  -- A finite list of values of one type,
  pub data HasItems (ds : List Definition) : Forest Node → Values → Type 0 where
    no_items : {content : Forest Node} → HasItems ds content no_more
    item : {t : Node} {kids next : Forest Node} {v : Value} {vs : Values} → Has ds t.kind kids v → HasItems ds (tree t kids next) vs → HasItems ds (tree t kids next) (also v vs)

  -- a value of each type,
  pub data HasFields (ds : List Definition) : Forest Node → Values → Type 0 where
    no_fields : HasFields ds end no_more
    field : {t : Node} {kids next : Forest Node} {v : Value} {vs : Values} → Has ds t.kind kids v → HasFields ds next vs → HasFields ds (tree t kids next) (also v vs)

  -- and a value of one type, with the place of this among them.
  pub data HasCase (ds : List Definition) : Forest Node → ℕ → Value → Type 0 where
    this_case : {t : Node} {kids next : Forest Node} {v : Value} → Has ds t.kind kids v → HasCase ds (tree t kids next) 0 v
    other_case : {t : Node} {kids next : Forest Node} {i : ℕ} {v : Value} → HasCase ds next i v → HasCase ds (tree t kids next) (suc i) v

-- ---- How many there are

-- A list holds just the values, or whatever else is counted, for which P holds.
abbrev pub Just : {A : Type 0} → (A → Type 0) → List A → Type 0
Just {A} P l = ((a : A) → Memᴰ a l → P a) × ((a : A) → P a → Memᴰ a l)

-- There are just n: a list of n different ones holds just those.
pub record Number {A : Type 0} (P : A → Type 0) (n : ℕ) : Type 0 where
  pub values : List A
  pub different : Distinct values
  pub so_many : length values ≡ n
  pub just : Just P values

-- There are more than 4,294,967,295, or there is no end: no list of at most so many holds just those.
abbrev pub Endless : (Value → Type 0) → Type 0
Endless P = (l : List Value) → length l ≤ 4294967295 → Just P l → ⊥

-- What a count says of them.
abbrev pub Counts : (Value → Type 0) → Count → Type 0
Counts P (Exactly n) = (n ≤ 4294967295) × Number P n
Counts P Many = Endless P

-- The values of a name are those of its definition.
abbrev pub HasName : List Definition → ℕ → Value → Type 0
HasName ds n = Has ds (VarT n) end

-- ---- A count that runs. 4,294,967,296 stands for many.
unfoldable pub capped : ℕ → ℕ
capped n = cond (leb n 4294967295) n 4294967296

unfoldable pub size_values : Option ℕ → ℕ
size_values None = 4294967296
size_values (Some n) = capped n

unfoldable pub sum : List ℕ → ℕ
sum [] = 0
sum (n ∷ l) = n + sum l

unfoldable pub product : List ℕ → ℕ
product [] = 1
product (n ∷ l) = n * product l

unfoldable pub first_of : List ℕ → ℕ
first_of [] = 0
first_of (n ∷ l) = n

-- A type of this kind, by the values of names and of the types within it. A record with a type that has none has none, whatever its others have.
unfoldable pub kind_values : (ℕ → ℕ) → Kind → List ℕ → ℕ
kind_values names (PrimT p) inner = size_values (prim_size p)
kind_values names (VarT m) inner = names m
kind_values names OptT inner = capped (suc (first_of inner))
kind_values names VecT inner = cond (eqb (first_of inner) 0) 1 4294967296
kind_values names RecordT inner = capped (product inner)
kind_values names VariantT inner = capped (sum inner)
kind_values names (FuncT a ms) inner = 4294967296
kind_values names ServT inner = 4294967296
kind_values names ClassT inner = 4294967296
kind_values names InitT inner = 4294967296

-- Each of the types beside each other.
unfoldable pub each_values : (ℕ → ℕ) → Forest Node → List ℕ
each_values names end = []
each_values names (tree t kids next) = kind_values names t.kind (each_values names kids) ∷ each_values names next

unfoldable pub found_values : (ℕ → ℕ) → Found → ℕ
found_values names missing = 0
found_values names (body end) = 0
found_values names (body (tree t kids next)) = kind_values names t.kind (each_values names kids)

-- A name's values, by going through at most k names more. A name that does not fill has none; one that does counts as many where this ends, since
-- then a name came twice.
unfoldable pub values_within : List Definition → (filled : List ℕ) → ℕ → ℕ → ℕ
values_within ds filled zero m = cond (member m filled) 4294967296 0
values_within ds filled (suc k) m = cond (member m filled) (found_values (values_within ds filled k) (find_type ds m)) 0

unfoldable pub name_values : List Definition → ℕ → ℕ
name_values ds m = let most = length ds in values_within ds (rounds ds most) most m

-- ---- The question
unfoldable pub count_of : ℕ → Count
count_of n = cond (leb n 4294967295) (Exactly n) Many

unfoldable pub count_found : List Definition → ℕ → Found → Outcome Count
count_found ds n missing = refused (Unbound n)
count_found ds n (body t) = given (count_of (name_values ds n))

unfoldable pub values : Book → ℕ → Outcome Count
values b n = let ds = main_definitions b in after (check b) (count_found ds n (find_type ds n))

-- Its rows: those of the check, then 3 of the name that is asked.
pub data ValuesRow (b : Book) (n : ℕ) : Refusal → Type 0 where
  checked : {r : Refusal} → CheckRow b r → ValuesRow b n r
  unbound : (check b ≡ passes) × (Defined (main_definitions b) n → ⊥) → ValuesRow b n (Unbound n)

abbrev pub values_rows : List ℕ
values_rows = check_rows
