-- `lines` meets its contract: the lines of the names so far are laid. Assumes nothing.
use native.Mathlib.Omega.{arith}
use Rattle.book.proofs.Opened.{names-count}
use Rattle.values.proofs.Counted.{lines-start, lines-on, lines-same, lines-all}
use Rattle.values.proofs.lines.Goals.{in-Ok, in_default}
use Rattle.values.proofs.lines.Goals as goal

pub loop-n-init : goal.loop-n-init
loop-n-init c = lines-start _ _ _

pub loop-n-preserved : goal.loop-n-preserved
loop-n-preserved c =
    let so_far = c.loop-n.invariant in
    elim c.match-values_in.branch [
      | in-Ok w ↦ rw w.text-is (lines-on _ _ _ c.values_in.ensures so_far w.in-Ok.is (rw (w.name.ensures, c.of-names.ensures) at w.line.ensures))
      | in_default w ↦ rw w.text-is (lines-same _ _ _ c.values_in.ensures so_far c.args.book.now.passes.passed.passed w.in_default.is)
    ]

pub returns : goal.returns
returns c = lines-all _ _ (omega (arith, names-count c.args.book.now.passes.admitted, c.loop-n-test.false, c.loop-n.auto.n-end)) c.loop-n.invariant
