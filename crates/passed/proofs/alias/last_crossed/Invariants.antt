use Rattle.passed.proofs.alias.Laws.{Going}
use Rattle.passed.proofs.alias.last_crossed.Given as goal

abbrev pub invariant-loop-k : goal.invariant-loop-k
invariant-loop-k l = Going l.scope l.n l.crossed l.last l.k
