use Rattle.analysis.proofs.recursive.Rows.{GoLeft}
use Rattle.analysis.proofs.recursive.Laws.{InferLeft}
use Rattle.analysis.proofs.recursive.Marks.infer_rec.Given as goal

abbrev pub invariant-loop-k : goal.invariant-loop-k
invariant-loop-k l = GoLeft l.book.scope.rows.now l.from l.k-end l.initial.marks l.marks l.k

abbrev pub invariant-loop-name : goal.invariant-loop-name
invariant-loop-name l = InferLeft l.book.scope.rows.now l.book.scope.roots.now l.list l.fn.self l.marks l.done l.name-index
