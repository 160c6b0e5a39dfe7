-- `byte` meets its contract. Assumes nothing.
use mathlib.Core.Path.{refl}
use Rattle.print.proofs.Laid.{one, none}
use Rattle.print.proofs.Text.byte.Goals as goal

pub returns-then-self : goal.returns-then-self
returns-then-self c = record { laid = one _ _ _ c.if-self.true; same = refl }

pub returns-else-self : goal.returns-else-self
returns-else-self c = record { laid = none _ _ _ c.if-self.false; same = refl }
