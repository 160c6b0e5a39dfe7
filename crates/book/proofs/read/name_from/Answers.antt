-- `read::name_from` meets its contract. Assumes nothing.
use mathlib.Core.Path.{refl}
use Rattle.format.specs.Layout.{part}
use Rattle.book.proofs.read.name_from.Goals as goal

pub returns : goal.returns
unfolding part
returns c = refl
