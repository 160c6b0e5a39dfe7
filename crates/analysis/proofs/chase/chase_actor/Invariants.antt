use Rattle.analysis.proofs.chase.Actor.{ServicesLeft}
use Rattle.analysis.proofs.chase.chase_actor.Given as goal

abbrev pub invariant-loop-s : goal.invariant-loop-s
invariant-loop-s l = ServicesLeft l.book.scope.rows.now l.book.scope.roots.now l.fn.interface l.s-items l.walk l.s-index
