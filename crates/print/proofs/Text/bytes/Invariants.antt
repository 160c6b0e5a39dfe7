use Rattle.std.proofs.Common.{take}
use Rattle.print.specs.Laid.{Lays}
use Rattle.print.proofs.Text.bytes.Given as goal

abbrev pub invariant-loop-b : goal.invariant-loop-b
invariant-loop-b l = Lays (take l.b-index l.line) l.initial.self l.self
