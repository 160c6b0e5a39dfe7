-- `heading` meets its contract: its parts are laid one after another. Assumes nothing.
use Rattle.print.proofs.Lays.{then}
use Rattle.list.specs.Printed.{heading}
use Rattle.list.proofs.heading.Goals as goal

pub returns : goal.returns
unfolding heading
returns c = then (then (then (then c.bytes.ensures c.decimal.ensures) c.bytes-2.ensures) c.decimal-2.ensures) c.byte.ensures
