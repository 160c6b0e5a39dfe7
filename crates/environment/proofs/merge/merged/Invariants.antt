use Rattle.environment.proofs.merge.Tables.{MergedLeft}
use Rattle.environment.proofs.merge.merged.Given as goal

abbrev pub invariant-loop-n : goal.invariant-loop-n
invariant-loop-n l = MergedLeft l.init l.main l.both l.n
