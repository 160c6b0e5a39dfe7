use Prim.Native.Nat.{◌-◌}
use Rattle.book.proofs.Trees.{TreesLeft}
use Rattle.book.proofs.rules.+trees.Given as goal

abbrev pub invariant-loop-i : goal.invariant-loop-i
invariant-loop-i l = TreesLeft l.names l.place l.rows l.from l.until l.i l.count

abbrev pub decreases-loop-i : goal.decreases-loop-i
decreases-loop-i l = l.until - l.i

abbrev pub decreases-trees : goal.decreases-trees
decreases-trees l = l.until - l.from
