-- `line` meets its contract: its parts are laid one after another. Assumes nothing.
use Rattle.print.proofs.Lays.{then}
use Rattle.uses_report.specs.Printed.{line}
use Rattle.uses_report.proofs.line.Goals as goal

pub returns : goal.returns
unfolding line
returns c = then (then (then c.quoted.ensures c.byte.ensures) c.decimal.ensures) c.byte-2.ensures
