use mathlib.Core.Path.{◌≡◌}
use Rattle.analysis.specs.Projecting.{way}
use Rattle.analysis.proofs.project.Laws.{ServicesLeft, outset}
use Rattle.analysis.proofs.project.project_methods.Given as goal

abbrev pub invariant-loop-s : goal.invariant-loop-s
invariant-loop-s l = record {
  names : l.taking.left.ghost_name ≡ l.initial.taking.left.ghost_name;
  list : l.taken.out.ghost_name ≡ l.initial.taken.out.ghost_name;
  left : ServicesLeft l.rows l.services (outset l.initial.taking.left.now l.initial.taken.out.now) l.s-index (way l.taking l.taken);
}
