-- The names so far are at the front of the buffer. Assumes nothing.
use Rattle.std.proofs.Common.{length, ◌≤◌}
use Rattle.stdio.proofs.Program.names.Given as goal

abbrev pub invariant-loop-i : goal.invariant-loop-i
invariant-loop-i l = l.done ≤ length l.buf
