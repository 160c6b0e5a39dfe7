-- `lines` meets its contract: the lines of the methods so far are laid. Assumes nothing.
use Rattle.std.proofs.Common.{arith}
use Rattle.methods.proofs.Listed.{lines-start, lines-on, lines-all}
use Rattle.methods.proofs.lines.Goals as goal

pub loop-p-init : goal.loop-p-init
loop-p-init c = lines-start _ c.args.offered.now _

pub loop-p-preserved : goal.loop-p-preserved
loop-p-preserved c = lines-on _ _ _ _ c.loop-p-test.true c.loop-p.invariant (rw c.name.ensures at c.line.ensures)

pub returns : goal.returns
returns c = lines-all _ _ _ (omega (arith, c.loop-p-test.false, c.loop-p.auto.p-index-end)) c.loop-p.invariant
