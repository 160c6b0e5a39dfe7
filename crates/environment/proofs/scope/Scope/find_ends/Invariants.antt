use Rattle.environment.proofs.Ends.{EndsLeft}
use Rattle.environment.proofs.scope.Scope.find_ends.Given as goal

abbrev pub invariant-loop-n : goal.invariant-loop-n
invariant-loop-n l = EndsLeft l.self.rows.now l.self.roots.now l.self.names l.self.nodes l.definitions l.ends l.n
