-- `NodeValues::first` meets its contract. Assumes nothing.
use mathlib.Core.Path.{refl}
use Rattle.inhabitants.proofs.counting.Types.{first-some, first-none}
use Rattle.inhabitants.proofs.counting.NodeValues.first.Goals as goal

pub returns-in-Some : goal.returns-in-Some
returns-in-Some c = first-some c.args.self.now.numbers (record { rows = refl; until = refl }) c.in-Some.ensures.steps

pub returns-in-None : goal.returns-in-None
returns-in-None c = first-none c.args.self.now.numbers (record { rows = refl; until = refl }) c.in-None.ensures.steps
