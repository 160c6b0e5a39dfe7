use Rattle.book.specs.Walks.{Over}
use Rattle.analysis.proofs.methods.Names.{NamesLeft}
use Rattle.analysis.proofs.methods.add_names.Given as goal

abbrev pub invariant-loop-t : goal.invariant-loop-t
invariant-loop-t l = record {
  over : Over l.fn.methods.rows.now l.fn.methods.until l.t-iterator;
  left : NamesLeft l.fn.methods.rows.now l.fn.methods.at l.fn.methods.until l.initial.names.items l.names.items l.t-iterator.at;
}
