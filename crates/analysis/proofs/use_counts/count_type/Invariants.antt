use Rattle.analysis.proofs.use_counts.Types.{NamesLeft}
use Rattle.analysis.proofs.use_counts.count_type.Given as goal

abbrev pub invariant-loop-name : goal.invariant-loop-name
invariant-loop-name l = NamesLeft l.times l.name-items l.initial.counts l.counts l.name-index
