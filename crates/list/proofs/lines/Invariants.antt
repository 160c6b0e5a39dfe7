use Rattle.std.proofs.Common.{take}
use Rattle.print.specs.Laid.{Lays}
use Rattle.list.specs.Printed.{lines}
use Rattle.list.proofs.lines.Given as goal

abbrev pub invariant-loop-i : goal.invariant-loop-i
invariant-loop-i l = Lays (lines l.names.book.bytes.now l.marked 1 (take l.i l.listed)) l.initial.text l.text
