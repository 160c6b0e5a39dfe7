-- `quoted` meets its contract: the bytes so far are laid after the opening quote. Assumes nothing.
use Rattle.print.proofs.Escapes.{escapes-start, escapes-on, escapes-end}
use Rattle.print.proofs.Text.quoted.Goals as goal

pub loop-b-init : goal.loop-b-init
loop-b-init c = escapes-start _

pub loop-b-preserved : goal.loop-b-preserved
loop-b-preserved c = escapes-on _ _ c.loop-b-test.true c.loop-b.invariant c.escape.ensures

pub returns : goal.returns
returns c = escapes-end _ _ c.loop-b-test.false c.byte.ensures c.loop-b.invariant c.byte-2.ensures
