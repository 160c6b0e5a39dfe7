-- `Tables::new` meets its contract. Assumes nothing.
use mathlib.Core.Path.{refl}
use Rattle.book.specs.Tables.{blank_table, zero_table}
use Rattle.typing.proofs.tables.Tables.new.Goals as goal

pub returns : goal.returns
unfolding blank_table zero_table
returns c = record { roots = refl; ends = refl }
