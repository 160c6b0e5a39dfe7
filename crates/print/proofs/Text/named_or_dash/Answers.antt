-- `named_or_dash` meets its contract. Assumes nothing.
use native.Mathlib.Omega.{arith}
use Rattle.print.specs.Refused.{named_or_dash}
use Rattle.print.proofs.Lays.{within}
use Rattle.print.proofs.Text.named_or_dash.Goals as goal

pub returns-in-Some : goal.returns-in-Some
unfolding named_or_dash
returns-in-Some c = rw c.in-Some.is c.name_or_number.ensures

pub returns-in-None : goal.returns-in-None
unfolding named_or_dash
returns-in-None c = rw c.in-None.is (within (omega arith) c.byte.ensures)
