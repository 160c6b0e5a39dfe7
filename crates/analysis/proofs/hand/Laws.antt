-- What a walk that is over answers. Assumes nothing.
--     hand-stopped              the walk was stopped: the question is refused
--     hand-given                it was not: the question is answered by the names listed
use mathlib.Core.Path.{◌≡◌, sym, ap}
use mathlib.Core.List.{List}
use Rattle.std.proofs.Common.{Ok, Err}
use Rattle.format.specs.Book.{Definition}
use Rattle.refusals.specs.declared.Refusal.{Refusal}
use Rattle.listing.specs.Chase.{Walk as State, going, unbound, walked}
use Rattle.refusals.specs.Outcome.{refused, given}
use Rattle.analysis.specs.declared.chase.Walk.{Walk}
use Rattle.analysis.specs.Walking.{Holds}

pub hand-stopped : (ds : List Definition) (s : State) (why : Refusal) → Holds ds s (Err why) → walked s ≡ refused why
unfolding walked
hand-stopped ds (going seen out) why h = absurd h
hand-stopped ds (unbound n) why h = ap refused (sym h)

pub hand-given : (ds : List Definition) (s : State) (w : Walk) → Holds ds s (Ok w) → walked s ≡ given w.listed.items
unfolding walked
hand-given ds (going seen out) w h = ap given (sym h.listed)
hand-given ds (unbound n) w h = absurd h
