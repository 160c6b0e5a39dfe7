-- A walk that is over, from any start: what it says of a question. Assumes nothing.
use mathlib.Core.Path.{◌≡◌, ◌∙◌}
use mathlib.Core.List.{List}
use Prim.Native.Nat.{ℕ, ◌≤◌}
use lib.ListN.{length}
use Rattle.std.proofs.Common.{Result, Ok, Err}
use Rattle.refusals.specs.declared.Refusal.{Refusal}
use Rattle.refusals.specs.Outcome.{Outcome}
use Rattle.format.specs.Forest.{Forest}
use Rattle.format.specs.Node.{Node}
use Rattle.format.specs.Book.{Definition}
use Rattle.environment.specs.Tables.{Binds}
use Rattle.listing.specs.Chase.{chase_types, walked}
use Rattle.analysis.specs.declared.chase.Walk.{Walk}
use Rattle.analysis.specs.Walking.{Holds, Counted, WalkedAs}
use Rattle.analysis.proofs.hand.Laws.{hand-stopped, hand-given}
use Rattle.passed.specs.Answers.{walk_outcome}

-- The walk over these definitions, which the table of roots is of.
pub record Walks (rows roots : List ℕ) (ds : List Definition) (start : Forest Node) (w : Result Walk Refusal) : Type 0 where
  pub binds : Binds rows roots ds
  pub few : length ds ≤ 512
  pub comes : WalkedAs rows roots start w

pub counted : {rows roots : List ℕ} (ds : List Definition) → Binds rows roots ds → length ds ≤ 512 → Counted rows roots
counted ds b f = record { ds = ds; binds = b; few = f }

module _ {rows roots : List ℕ} {ds : List Definition} {start : Forest Node} {w : Result Walk Refusal} (x : Walks rows roots ds start w) where
  pub walk-says : {o : Outcome (List ℕ)} → o ≡ walked (chase_types ds start) → o ≡ walk_outcome w
  walk-says {o} e = go w (x.comes ds x.binds x.few)
    where
      go : (r : Result Walk Refusal) → Holds ds (chase_types ds start) r → o ≡ walk_outcome r
      go (Ok r) h = e ∙ hand-given ds (chase_types ds start) r h
      go (Err why) h = e ∙ hand-stopped ds (chase_types ds start) why h
