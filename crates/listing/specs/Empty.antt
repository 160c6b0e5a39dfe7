-- Emptiness by values, request 4 of document 02: which types have a value of finite height, as a relation that knows of no walk (`Fills`) and
-- by rounds that run (proofs/Filling.antt joins the two), the question, and what it refuses. Definitions; assumes nothing.
use Rattle.std.specs.Prelude.{◌≡◌, Bool, true, false, cond, not, ℕ, zero, suc, length, eqb}
use mathlib.Core.List.{List, [], ◌∷◌, map}
use Rattle.format.specs.Forest.{Forest, end, tree}
use Rattle.format.specs.Node.{PrimType, prim_number, Kind, PrimT, VarT, OptT, VecT, RecordT, VariantT, FuncT, ServT, ClassT, InitT, Node}
use Rattle.format.specs.Book.{Definition, Book}
use Rattle.format.specs.Fits.{every}
use Rattle.format.specs.Occurs.{Beside}
use Rattle.judgement.specs.Environment.{Found, missing, body, find_type, main_definitions}
use Rattle.judgement.specs.WellFormed.{defined_name, Defined}
use Rattle.judgement.specs.Check.{member, check}
use Rattle.judgement.specs.Rows.{CheckRow, check_rows}
use Rattle.refusals.specs.declared.Refusal.{Refusal}
use Rattle.refusals.specs.declared.Refusal.TheVariants.{Short}
use Rattle.refusals.specs.Outcome.{Outcome, given, after}
use Rattle.listing.specs.Room.{ShortRow, EachOnce}
use Rattle.listing.specs.Recursive.{sorted}
use Rattle.listing.specs.Uses.{kept}

-- ---- Which types fill

-- All but `empty`, records, variants and names.
pub record AllElse (k : Kind) : Type 0 where
  pub no_empty : k ≡ PrimT PrimType.Empty → ⊥
  pub no_record : k ≡ RecordT → ⊥
  pub no_variant : k ≡ VariantT → ⊥
  pub no_name : (m : ℕ) → k ≡ VarT m → ⊥

-- A type, by its kind and the types within it, fills if it has a value of finite height. No rule is of `empty`, which has none. A value of a record
-- has one of each field, a value of a variant is one of some case, a value of a name is one of its definition; all else has a value.
pub data Fills (ds : List Definition) : Kind → Forest Node → Type 0 where
  of_fields : {fields : Forest Node} → ((f : Node) (kids : Forest Node) → Beside f kids fields → Fills ds f.kind kids) → Fills ds RecordT fields
  of_case : {c : Node} {kids cases : Forest Node} → Beside c kids cases → Fills ds c.kind kids → Fills ds VariantT cases
  of_name : {m : ℕ} {t : Node} {kids next none : Forest Node} → find_type ds m ≡ body (tree t kids next) → Fills ds t.kind kids → Fills ds (VarT m) none
  of_else : {k : Kind} {kids : Forest Node} → AllElse k → Fills ds k kids

-- A name is empty if it has a definition, and this does not fill.
pub record Empty (ds : List Definition) (n : ℕ) : Type 0 where
  pub defined : Defined ds n
  pub unfilled : Fills ds (VarT n) end → ⊥

-- ---- The same by rounds

-- Whether one is true.
unfoldable pub one_true : List Bool → Bool
one_true [] = false
one_true (b ∷ bs) = cond b true (one_true bs)

-- Of the primitive types all but `empty` fill.
unfoldable pub prim_fills : PrimType → Bool
prim_fills p = not (eqb (prim_number p) 16)

-- Whether a type of this kind fills, if the names in `known` do, and of the types within it those that are true.
unfoldable pub kind_fills : List ℕ → Kind → List Bool → Bool
kind_fills known (PrimT p) inner = prim_fills p
kind_fills known (VarT m) inner = member m known
kind_fills known OptT inner = true
kind_fills known VecT inner = true
kind_fills known RecordT inner = every (λ b. b) inner
kind_fills known VariantT inner = one_true inner
kind_fills known (FuncT a ms) inner = true
kind_fills known ServT inner = true
kind_fills known ClassT inner = true
kind_fills known InitT inner = true

-- Each of the types beside each other.
unfoldable pub each_fills : List ℕ → Forest Node → List Bool
each_fills known end = []
each_fills known (tree t kids next) = kind_fills known t.kind (each_fills known kids) ∷ each_fills known next

unfoldable pub found_fills : List ℕ → Found → Bool
found_fills known missing = false
found_fills known (body end) = false
found_fills known (body (tree t kids next)) = kind_fills known t.kind (each_fills known kids)

-- The names that fill after k rounds: before the first none does, and in each those do whose definition does by the names of the round before.
unfoldable pub rounds : List Definition → ℕ → List ℕ
rounds ds zero = []
rounds ds (suc k) = let known = rounds ds k in kept (λ n. found_fills known (find_type ds n)) (map defined_name ds)

-- With as many rounds as definitions no more follow. The names whose definition does not fill are the others.
unfoldable pub unfilled : List Definition → List ℕ
unfilled ds = let filled = rounds ds (length ds) in kept (λ n. not (member n filled)) (map defined_name ds)

-- ---- The question

-- The question's answer for a book that passes the check, ascending.
unfoldable pub empty_names : Book → List ℕ
empty_names b = sorted (unfilled (main_definitions b)) 0 (length b.names)

unfoldable pub emptiness : Book → Outcome (List ℕ)
emptiness b = after (check b) (given (empty_names b))

-- Its rows: those of the check, then 16.
pub data EmptinessRow (b : Book) (places : ℕ) : Refusal → Type 0 where
  checked : {r : Refusal} → CheckRow b r → EmptinessRow b places r
  short : {k : ℕ} → ShortRow places (emptiness b) (EachOnce (Empty (main_definitions b))) k → EmptinessRow b places (Short k)

abbrev pub emptiness_rows : List ℕ
emptiness_rows = 16 ∷ check_rows
