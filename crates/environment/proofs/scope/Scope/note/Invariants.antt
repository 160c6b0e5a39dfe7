use Rattle.environment.proofs.Names.{to_find, Notes}
use Rattle.environment.proofs.scope.Scope.note.Given as goal

abbrev pub invariant-loop-ends : goal.invariant-loop-ends
invariant-loop-ends l = Notes l.self.rows.now l.self.roots.now l.self.names l.self.nodes l.n l.e l.initial.ends l.ends l.m

abbrev pub decreases-loop-ends : goal.decreases-loop-ends
decreases-loop-ends l = to_find l.ends
