use Rattle.analysis.proofs.use_counts.Uses.{ServicesLeft, FunctionsLeft, TypesLeft}
use Rattle.analysis.proofs.use_counts.count_uses.Given as goal

abbrev pub invariant-loop-s : goal.invariant-loop-s
invariant-loop-s l = ServicesLeft l.book.scope.rows.now l.book.scope.roots.now l.ends l.book.scope.nodes l.offer.from l.offer.until l.s-items l.methods l.s-index

abbrev pub invariant-loop-f : goal.invariant-loop-f
invariant-loop-f l = FunctionsLeft l.book.scope.rows.now l.book.scope.roots.now l.ends l.book.scope.nodes l.offer.from l.offer.until l.offer.services l.methods l.types l.f

abbrev pub invariant-loop-n : goal.invariant-loop-n
invariant-loop-n l = TypesLeft l.book.scope.rows.now l.book.scope.roots.now l.ends l.book.scope.nodes l.offer.from l.offer.until l.offer.services l.types.times l.counts l.n
