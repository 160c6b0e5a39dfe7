use Prim.Native.Nat.{◌+◌, ◌-◌}
use Rattle.std.proofs.Common.{length}
use Rattle.analysis.proofs.chase.Rows.{RowsLeft}
use Rattle.analysis.proofs.chase.chase.Given as goal

abbrev pub invariant-loop-row : goal.invariant-loop-row
invariant-loop-row l =
    RowsLeft l.book.scope.rows.now l.book.scope.roots.now l.from l.until l.fn.walk l.waiting.items l.at l.end (record { seen = l.seen; listed = l.listed })

abbrev pub decreases-loop-row : goal.decreases-loop-row
decreases-loop-row l =
    512 - length l.listed.items + (512 - (length l.listed.items + length l.waiting.items))
