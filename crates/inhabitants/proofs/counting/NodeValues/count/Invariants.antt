use Prim.Native.Nat.{◌-◌}
use Rattle.inhabitants.proofs.counting.Counted.{Entering, Telling}
use Rattle.inhabitants.proofs.counting.NodeValues.count.Given as goal

abbrev pub invariant-loop-n : goal.invariant-loop-n
invariant-loop-n l = Entering l.scope l.filling l.n l.counting l.self.numbers

abbrev pub invariant-loop-told : goal.invariant-loop-told
invariant-loop-told l = Telling l.scope l.filling l.told l.counting l.self.numbers

abbrev pub decreases-loop-told : goal.decreases-loop-told
decreases-loop-told l = 4096 - l.told
