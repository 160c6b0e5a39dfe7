-- `count_asked` meets its contract. Assumes nothing.
use mathlib.Core.List.{List}
use mathlib.Core.Path.{sym, subst}
use Prim.Native.Nat.{ℕ, ◌+◌}
use native.Mathlib.Omega.{arith}
use Rattle.analysis.proofs.project.Counts.{CountsLeft, counts-start, counts-few, counts-name, counts-other, counts-end}
use Rattle.analysis.proofs.project.count_asked.Goals as goal
use Rattle.analysis.proofs.project.count_asked.Goals.{then-i-lt-NAMES, else-i-lt-NAMES}

pub loop-n-init : goal.loop-n-init
loop-n-init c = counts-start _

pub overflow_add-left : goal.overflow_add-left
overflow_add-left c = omega (arith, counts-few c.loop-n.invariant c.loop-n-test.true _ c.if-i-lt-NAMES.true, c.well_formed)

pub loop-n-preserved : goal.loop-n-preserved
loop-n-preserved c =
    let l = c.loop-n in
    elim c.if-i-lt-NAMES.branch [
      | then-i-lt-NAMES w ↦ subst (λ (q : List ℕ). CountsLeft c.args.list.now q (l.n-index + 1)) (sym w.left-is) (counts-name l.invariant c.loop-n-test.true w.if-i-lt-NAMES.true)
      | else-i-lt-NAMES w ↦ subst (λ (q : List ℕ). CountsLeft c.args.list.now q (l.n-index + 1)) (sym w.left-is) (counts-other l.invariant c.loop-n-test.true w.if-i-lt-NAMES.false)
    ]

pub returns : goal.returns
returns c = counts-end c.loop-n.invariant c.loop-n-test.false
