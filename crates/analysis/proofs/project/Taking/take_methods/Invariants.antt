use mathlib.Core.Path.{◌≡◌}
use Rattle.book.specs.Walks.{Over}
use Rattle.analysis.specs.Projecting.{way}
use Rattle.analysis.proofs.project.Laws.{MethodsLeft}
use Rattle.analysis.proofs.project.Taking.take_methods.Given as goal

abbrev pub invariant-loop-t : goal.invariant-loop-t
invariant-loop-t l = record {
  names : l.self.left.ghost_name ≡ l.initial.self.left.ghost_name;
  list : l.taken.out.ghost_name ≡ l.initial.taken.out.ghost_name;
  over : Over l.fn.methods.rows.now l.fn.methods.until l.t-iterator;
  left : MethodsLeft l.fn.methods.rows.now l.fn.methods.at l.fn.methods.until (way l.initial.self l.initial.taken) l.t-iterator.at (way l.self l.taken);
}
