-- `bytes` meets its contract: the bytes so far are laid. Assumes nothing.
use Rattle.print.proofs.Lays.{nothing, more}
use Rattle.print.proofs.Text.bytes.Goals as goal

pub loop-b-init : goal.loop-b-init
loop-b-init c = nothing _

pub loop-b-preserved : goal.loop-b-preserved
loop-b-preserved c = more _ _ c.loop-b-test.true c.loop-b.invariant c.byte.ensures
