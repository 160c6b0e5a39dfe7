use Rattle.analysis.proofs.project.Counts.{CountsLeft}
use Rattle.analysis.proofs.project.count_asked.Given as goal

abbrev pub invariant-loop-n : goal.invariant-loop-n
invariant-loop-n l = CountsLeft l.list l.left l.n-index
