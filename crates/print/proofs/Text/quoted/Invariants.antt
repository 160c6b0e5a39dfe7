use Rattle.std.proofs.Common.{take}
use Rattle.print.specs.Laid.{Lays}
use Rattle.print.specs.Quoted.{escapes}
use Rattle.print.proofs.Text.quoted.Given as goal

abbrev pub invariant-loop-b : goal.invariant-loop-b
invariant-loop-b l = Lays (escapes (take l.b-index l.name)) l.initial.self l.self
