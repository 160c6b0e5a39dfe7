-- The name is asked just if it is among what is left. Assumes nothing.
use Rattle.std.proofs.Common.{◌≡◌}
use Rattle.methods.specs.Asked.{ended, is_among}
use Rattle.methods.specs.Left.{names_left}
use Rattle.methods.proofs.asked.is_asked.Given as goal

abbrev pub invariant-loop-one : goal.invariant-loop-one
invariant-loop-one l = is_among l.name (ended l.asked) ≡ is_among l.name (names_left l.one-iterator)
