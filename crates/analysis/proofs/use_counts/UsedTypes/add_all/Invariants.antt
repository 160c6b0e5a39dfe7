use Rattle.book.specs.Walks.{Over}
use Rattle.analysis.proofs.use_counts.Used.{UsedLeft}
use Rattle.analysis.proofs.use_counts.UsedTypes.add_all.Given as goal

abbrev pub invariant-loop-n : goal.invariant-loop-n
invariant-loop-n l = record {
  over : Over l.book.scope.rows.now l.until l.n-iterator;
  left : UsedLeft l.book.scope.rows.now l.book.scope.nodes l.from l.until l.times l.fn.self l.self l.n-iterator.at;
}
