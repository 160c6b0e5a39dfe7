-- `table` meets its contract: the lines stand after the heading. Assumes nothing.
use Rattle.print.proofs.Lays.{then, alias}
use Rattle.list.proofs.Listed.{table-is}
use Rattle.list.proofs.table.Goals as goal

pub returns : goal.returns
returns c = alias (table-is _ _ _) (then c.heading.ensures (rw c.of.ensures at c.lines.ensures))
