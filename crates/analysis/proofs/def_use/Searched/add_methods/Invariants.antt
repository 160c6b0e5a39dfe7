use Prim.Native.Nat.{◌+◌}
use Rattle.format.specs.Layout.{row_at}
use Rattle.book.specs.Walks.{Over}
use Rattle.analysis.proofs.methods.Positions.{MethodsLeft}
use Rattle.analysis.proofs.def_use.Searched.add_methods.Given as goal

abbrev pub invariant-loop-i : goal.invariant-loop-i
invariant-loop-i l = record {
  over : Over l.self.rows.now (l.service + (row_at l.self.rows.now l.service).size) l.i-iterator;
  left : MethodsLeft l.self.rows.now l.self.ends.now l.self.near.now l.service (l.service + (row_at l.self.rows.now l.service).size) l.first l.initial.positions.items l.positions.items l.i-iterator.at l.m;
}
