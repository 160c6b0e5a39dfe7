-- `by_tree` meets its contract: no number stands twice before the place that the loop is at, and the places before it are in the tree. Assumes nothing.
use Rattle.duplicates.proofs.Places.{distinct-one, distinct-on}
use Rattle.duplicates.proofs.Searching.{tree-start}
use Rattle.duplicates.proofs.by_tree.Goals as goal

pub loop-n-init : goal.loop-n-init
loop-n-init g c = (distinct-one c.args.keys.now, tree-start _ _ c.requires.room)

pub loop-n-preserved : goal.loop-n-preserved
loop-n-preserved g c = (distinct-on _ _ c.loop-n-test.true c.loop-n.invariant.0 c.if-meet.ensures.0, c.if-meet.ensures.1)
