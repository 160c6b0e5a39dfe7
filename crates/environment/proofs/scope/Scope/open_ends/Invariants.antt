use Rattle.environment.specs.Tables.{Unbegun}
use Rattle.environment.proofs.scope.Scope.open_ends.Given as goal

abbrev pub invariant-loop-n : goal.invariant-loop-n
invariant-loop-n l = Unbegun l.self.roots.now l.n l.ends
