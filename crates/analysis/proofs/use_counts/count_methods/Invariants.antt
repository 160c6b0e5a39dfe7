use Prim.Native.Nat.{◌+◌}
use Rattle.format.specs.Layout.{row_at}
use Rattle.book.specs.Walks.{Over}
use Rattle.analysis.proofs.use_counts.Methods.{MethodsLeft}
use Rattle.analysis.proofs.use_counts.count_methods.Given as goal

abbrev pub invariant-loop-i : goal.invariant-loop-i
invariant-loop-i l = record {
  over : Over l.rows (l.service + (row_at l.rows l.service).size) l.i-iterator;
  left : MethodsLeft l.rows l.ends l.service l.initial.methods l.methods l.i-iterator.at;
}
