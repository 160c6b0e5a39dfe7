-- `hand_counts` meets its contract. Assumes nothing.
use lib.ListN.{get_or}
use native.Mathlib.Omega.{arith}
use Rattle.passed.proofs.use_counts.Handing.{hands-first, hands-next, hands-all}
use Rattle.passed.proofs.use_counts.hand_counts.Goals as goal

pub loop-i-init : goal.loop-i-init
loop-i-init c = hands-first _ _ _

pub overflow_add-total : goal.overflow_add-total
overflow_add-total c =
    omega (arith, c.loop-i.invariant.few, c.loop-i-test.true, c.requires.names.1, c.from-total.ensures, c.fits-counts (get_or c.args.listed.now c.loop-i.i 0))

pub loop-i-preserved : goal.loop-i-preserved
loop-i-preserved c = hands-next _ _ _ c.loop-i.invariant c.loop-i-test.true (omega (arith, c.loop-i-test.true, c.loop-i.auto.out, c.requires.places)) c.from-total.ensures (omega (arith, c.from-total.ensures, c.fits-counts (get_or c.args.listed.now c.loop-i.i 0)))

pub returns : goal.returns
returns c = hands-all _ _ _ c.loop-i.invariant (omega (arith, c.loop-i.auto.i-end, c.loop-i-test.false))
