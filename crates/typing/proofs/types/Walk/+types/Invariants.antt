use Prim.Native.Nat.{◌-◌, ◌+◌, ◌*◌}
use Rattle.format.specs.Layout.{row_at}
use Rattle.typing.proofs.Walk.{WalkLeft}
use Rattle.typing.proofs.types.Walk.+types.Given as goal

abbrev pub decreases-check_type : goal.decreases-check_type
decreases-check_type l = 2 * (row_at l.self.now.env.scope.rows.now l.n).size

abbrev pub decreases-check_types : goal.decreases-check_types
decreases-check_types l = 2 * (l.until - l.from) + 1

abbrev pub invariant-check_types-loop-n : goal.invariant-check_types-loop-n
invariant-check_types-loop-n l = WalkLeft l.self l.methods l.from l.until l.kids l.n-iterator
