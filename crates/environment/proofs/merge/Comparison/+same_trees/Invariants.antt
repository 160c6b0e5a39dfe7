use Prim.Native.Nat.{◌-◌}
use Rattle.environment.proofs.merge.Lockstep.{Walked}
use Rattle.environment.proofs.merge.Comparison.+same_trees.Given as goal

abbrev pub invariant-loop-i : goal.invariant-loop-i
invariant-loop-i l = Walked l.self.rows.now l.self.hashes.now l.place l.a l.b l.i-iterator l.others

abbrev pub decreases-same_trees : goal.decreases-same_trees
decreases-same_trees l = l.a.until - l.a.at
