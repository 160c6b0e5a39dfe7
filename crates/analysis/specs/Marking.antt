-- How the code holds the marks of `infer_rec`. Definitions; assumes nothing.
use Rattle.std.specs.Prelude.{◌≡◌, List, ℕ, length, Result, Ok, Err}
use Rattle.refusals.specs.declared.Refusal.{Refusal}
use Rattle.refusals.specs.declared.Refusal.TheVariants.{Unbound}
use Rattle.format.specs.Book.{Definition}
use Rattle.environment.specs.Tables.{Binds}
use Rattle.book.specs.Tables.{no_flags}
use Rattle.listing.specs.Recursive.{marking, unbound, infer_from}
use Rattle.listing.specs.Recursive as listing
use Rattle.analysis.specs.declared.recursive.Marks.{Marks}
use Rattle.analysis.specs.Flags.{Agrees}

-- The flags tell the names seen and those marked.
pub record Flagged (seen set : List ℕ) (r : Marks) : Type 0 where
  pub seen-are : Agrees r.seen seen
  pub marked-are : Agrees r.marked set
  pub seen-long : length r.seen ≡ 1024
  pub long : length r.marked ≡ 1024

-- What it comes to: marks, or the listed name without definition that stopped it.
abbrev pub MarksHold : listing.Marks → Result Marks Refusal → Type 0
MarksHold (marking seen set) (Ok r) = Flagged seen set r
MarksHold (unbound n) (Err why) = why ≡ Unbound n
MarksHold (marking seen set) (Err why) = ⊥
MarksHold (unbound n) (Ok r) = ⊥

-- No name is seen, and none marked.
unfoldable pub nothing_marked : Marks
nothing_marked = record { seen = no_flags; marked = no_flags }

-- Marks, and definitions that the table of roots is of.
pub record Begun (ns roots : List ℕ) (m : Marks) : Type 0 where
  pub definitions : List Definition
  pub binds : Binds ns roots definitions
  pub seen-by : List ℕ
  pub marked-by : List ℕ
  pub holds : Flagged seen-by marked-by m

-- From m the names of a list lead to r.
pub record InferredAs (ns roots list : List ℕ) (m : Marks) (r : Result Marks Refusal) : Type 0 where
  pub holds : (x : Begun ns roots m) → MarksHold (infer_from x.definitions list (marking x.seen-by x.marked-by)) r
