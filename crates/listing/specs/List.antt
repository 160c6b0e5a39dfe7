-- The list: what is reachable from the actor, left to right, a definition after those first met inside it. The question, and what it refuses.
-- Definitions; assumes nothing.
use Rattle.std.specs.Prelude.{List, ◌∷◌, ℕ}
use Rattle.refusals.specs.declared.Refusal.{Refusal}
use Rattle.refusals.specs.declared.Refusal.TheVariants.{Short, NoActor}
use Rattle.refusals.specs.Verdict.{and_then}
use Rattle.refusals.specs.Outcome.{Outcome, after}
use Rattle.format.specs.Book.{Book}
use Rattle.judgement.specs.Environment.{main_definitions}
use Rattle.judgement.specs.Resolve.{resolve_actor}
use Rattle.judgement.specs.Check.{check}
use Rattle.judgement.specs.Rows.{CheckRow, check_rows}
use Rattle.listing.specs.Chase.{chase_types, walked}
use Rattle.listing.specs.References.{Reachable}
use Rattle.listing.specs.Room.{needs_actor, NoActorRow, ShortRow, EachOnce}

unfoldable pub list : Book → Outcome (List ℕ)
list b = after (and_then (check b) (needs_actor (resolve_actor b))) (walked (chase_types (main_definitions b) (resolve_actor b)))

-- Its rows: those of the check, then 17 and 16.
pub data ListRow (b : Book) (places : ℕ) : Refusal → Type 0 where
  checked : {r : Refusal} → CheckRow b r → ListRow b places r
  no_actor : NoActorRow b → ListRow b places NoActor
  short : {k : ℕ} → ShortRow places (list b) (EachOnce (Reachable (main_definitions b) (resolve_actor b))) k → ListRow b places (Short k)

abbrev pub list_rows : List ℕ
list_rows = 17 ∷ 16 ∷ check_rows
