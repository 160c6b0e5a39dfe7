-- `number` meets its contract, by what there are. Assumes nothing.
use Rattle.values.specs.Printed.{number}
use Rattle.values.proofs.number.Goals as goal

pub returns-in-Exactly : goal.returns-in-Exactly
unfolding number
returns-in-Exactly c = rw c.in-Exactly.is c.decimal.ensures

pub returns-in-Many : goal.returns-in-Many
unfolding number
returns-in-Many c = rw c.in-Many.is c.bytes.ensures
