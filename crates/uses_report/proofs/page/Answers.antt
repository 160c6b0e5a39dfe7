-- `page` meets its contract: the last line stands after the others. Assumes nothing.
use Rattle.print.proofs.Lays.{then}
use Rattle.uses_report.proofs.page.Goals as goal

pub returns : goal.returns
returns c = then (rw c.of.ensures at c.lines.ensures) c.last_line.ensures
