-- `name_or_number` meets its contract: a name of the table is the book's. Assumes nothing.
use mathlib.Core.Path.{◌≡◌}
use mathlib.Core.Bool.{true, false}
use native.Mathlib.Omega.{arith}
use Rattle.print.proofs.Refusals.{name-in, name-out}
use Rattle.print.proofs.Text.name_or_number.Goals as goal

pub returns-then-is_in_table : goal.returns-then-is_in_table
returns-then-is_in_table c =
    let known : c.is_in_table.result ≡ true = grind arith in
    name-in _ _ c.ranges.number.fits c.is_in_table.ensures known c.name.ensures c.quoted.ensures

pub returns-else-is_in_table : goal.returns-else-is_in_table
returns-else-is_in_table c =
    let unknown : c.is_in_table.result ≡ false = grind arith in
    name-out _ _ c.ranges.number.fits c.is_in_table.ensures unknown c.decimal.ensures
