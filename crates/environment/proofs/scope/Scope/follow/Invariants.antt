use Prim.Native.Nat.{◌-◌}
use Rattle.environment.proofs.Names.{Follows}
use Rattle.environment.proofs.scope.Scope.follow.Given as goal

abbrev pub invariant-loop-m : goal.invariant-loop-m
invariant-loop-m l = Follows l.self.rows.now l.self.roots.now l.self.names l.definitions l.n l.m l.crossed

abbrev pub decreases-loop-m : goal.decreases-loop-m
decreases-loop-m l = l.definitions - l.crossed
