-- `line` meets its contract: its parts are laid one after another. Assumes nothing.
use Rattle.print.proofs.Lays.{then}
use Rattle.list.specs.Printed.{line}
use Rattle.list.proofs.line.Goals as goal

pub returns : goal.returns
unfolding line
returns c = then (then (then (then (then c.decimal.ensures c.byte.ensures) c.byte-2.ensures) c.byte-3.ensures) c.quoted.ensures) c.byte-4.ensures
