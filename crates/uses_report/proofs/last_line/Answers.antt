-- `last_line` meets its contract: its parts are laid one after another. Assumes nothing.
use Rattle.print.proofs.Lays.{then}
use Rattle.uses_report.specs.Printed.{last_line}
use Rattle.uses_report.proofs.last_line.Goals as goal

pub returns : goal.returns
unfolding last_line
returns c = then (then c.bytes.ensures c.decimal.ensures) c.byte.ensures
