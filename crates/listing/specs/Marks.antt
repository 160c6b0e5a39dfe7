-- The marks over a lent list of names, in any order and with repeats. The question, what is marked, and what is refused. Definitions;
-- assumes nothing.
use Rattle.std.specs.Prelude.{◌≡◌, ◌↔◌, ℕ, length}
use mathlib.Core.List.{List, ◌∷◌, ◌++◌, Memᴰ}
use Rattle.refusals.specs.declared.Refusal.{Refusal}
use Rattle.refusals.specs.declared.Refusal.TheVariants.{Unbound, Short}
use Rattle.refusals.specs.Verdict.{passes}
use Rattle.refusals.specs.Outcome.{Outcome, refused, given, after}
use Rattle.format.specs.Book.{Definition, Book}
use Rattle.format.specs.Distinct.{Ascends}
use Rattle.judgement.specs.Environment.{main_definitions}
use Rattle.judgement.specs.Check.{check}
use Rattle.judgement.specs.WellFormed.{Defined}
use Rattle.judgement.specs.Rows.{CheckRow, check_rows}
use Rattle.listing.specs.Recursive.{Marks, marking, infer_rec, sorted}
use Rattle.listing.specs.Recursive as marks
use Rattle.listing.specs.References.{Refers}
use Rattle.listing.specs.Room.{ShortRow, EachOnce}

unfoldable pub marked : ℕ → Marks → Outcome (List ℕ)
marked names (marking seen set) = given (sorted set 0 names)
marked names (marks.unbound n) = refused (Unbound n)

unfoldable pub marks_over : Book → List ℕ → Outcome (List ℕ)
marks_over b l = after (check b) (marked (length b.names) (infer_rec (main_definitions b) l))

-- ---- What is marked

-- P of a name at some place of a list, with the names before it.
pub record AtPlace (l : List ℕ) (P : List ℕ → ℕ → Type 0) : Type 0 where
  pub before : List ℕ
  pub name : ℕ
  pub following : List ℕ
  pub parts : l ≡ before ++ (name ∷ following)
  pub holds : P before name

-- Some place of the list has n in its definition's body, and no place before it lists n. The list need not hold n.
abbrev pub MarkedBy : List Definition → List ℕ → ℕ → Type 0
MarkedBy ds l n = AtPlace l (λ xs u. Refers ds u n × (Memᴰ n xs → ⊥))

-- These are the marks, ascending.
pub record MarksOver (ds : List Definition) (l marks : List ℕ) : Type 0 where
  pub exact : (n : ℕ) → Memᴰ n marks ↔ MarkedBy ds l n
  pub ascends : Ascends marks

-- All listed names have a definition.
abbrev pub AllDefined : List Definition → List ℕ → Type 0
AllDefined ds l = (n : ℕ) → Memᴰ n l → Defined ds n

-- n is the first listed name that has none.
abbrev pub FirstUnbound : List Definition → List ℕ → ℕ → Type 0
FirstUnbound ds l n = AtPlace l (λ xs u. (u ≡ n) × (Defined ds n → ⊥) × AllDefined ds xs)

-- ---- What is refused

-- Its rows: those of the check, then 3 of a listed name and 16.
pub data MarksRow (b : Book) (l : List ℕ) (places : ℕ) : Refusal → Type 0 where
  checked : {r : Refusal} → CheckRow b r → MarksRow b l places r
  unbound : {n : ℕ} → (check b ≡ passes) × FirstUnbound (main_definitions b) l n → MarksRow b l places (Unbound n)
  short : {k : ℕ} → ShortRow places (marks_over b l) (EachOnce (MarkedBy (main_definitions b) l)) k → MarksRow b l places (Short k)

abbrev pub marks_rows : List ℕ
marks_rows = 16 ∷ check_rows
