-- The lines so far are laid. Assumes nothing.
use Rattle.std.proofs.Common.{map, take}
use Rattle.print.specs.Laid.{Lays}
use Rattle.methods.specs.Printed.{name_at, lines}
use Rattle.methods.proofs.lines.Given as goal

abbrev pub invariant-loop-p : goal.invariant-loop-p
invariant-loop-p l = Lays (lines l.names.book.bytes.now (map (name_at l.offered) (take l.p-index l.positions))) l.initial.text l.text
