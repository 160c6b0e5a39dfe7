-- `lines` meets its contract: the lines of the names so far are laid. Assumes nothing.
use Rattle.list.proofs.Listed.{lines-start, lines-on}
use Rattle.list.proofs.lines.Goals as goal

pub loop-i-init : goal.loop-i-init
loop-i-init c = lines-start _ _ _

pub loop-i-preserved : goal.loop-i-preserved
loop-i-preserved c = lines-on _ _ _ _ c.loop-i-test.true c.loop-i.invariant c.mark_of.ensures (rw c.name-bytes.ensures at c.line.ensures)
