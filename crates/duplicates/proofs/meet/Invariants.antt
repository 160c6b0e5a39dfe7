use Prim.Native.Nat.{◌-◌}
use Rattle.duplicates.proofs.Searching.{Search}
use Rattle.duplicates.proofs.meet.Given as goal

abbrev pub invariant-loop-at : goal.invariant-loop-at
invariant-loop-at l = Search l.keys l.links l.n l.at l.rest

abbrev pub decreases-loop-at : goal.decreases-loop-at
decreases-loop-at l = l.n - l.at
