use Prim.Native.Nat.{◌-◌}
use Rattle.environment.proofs.Links.{ChainLeft}
use Rattle.environment.proofs.scope.Scope.alias_end.Given as goal

abbrev pub invariant-loop-next : goal.invariant-loop-next
invariant-loop-next l = ChainLeft l.self.rows.now l.self.roots.now l.self.nodes l.left l.node l.at l.crossed l.next

abbrev pub decreases-loop-next : goal.decreases-loop-next
decreases-loop-next l = l.left - l.crossed
