-- `line` meets its contract: its parts are laid one after another. Assumes nothing.
use Rattle.print.proofs.Lays.{then}
use Rattle.methods.specs.Printed.{line}
use Rattle.methods.proofs.line.Goals as goal

pub returns : goal.returns
unfolding line
returns c = then c.quoted.ensures c.byte.ensures
