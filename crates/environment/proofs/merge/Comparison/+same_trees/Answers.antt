-- `Comparison::same_trees` meets its contract. Assumes nothing.
use Rattle.environment.proofs.merge.Lockstep.{all-same, ends-sooner, same-end, same-node, same-kids, same-on, turn, walked-on}
use Rattle.environment.proofs.merge.Comparison.+same_trees.Goals as goal

pub returns-in_default : goal.returns-in_default
returns-in_default t c = ends-sooner c.loop-i.invariant c.in-Some.ensures.steps c.in_default.ensures.steps

pub returns-then-not-same_node : goal.returns-then-not-same_node
returns-then-not-same_node t c =
    same-node (turn c.loop-i.invariant c.in-Some.ensures.steps c.in-Some-next.ensures.steps c.requires) c.same_node.ensures c.if-not-same_node.true

pub returns-then-not-same_trees : goal.returns-then-not-same_trees
returns-then-not-same_trees t c =
    let o = turn c.loop-i.invariant c.in-Some.ensures.steps c.in-Some-next.ensures.steps c.requires in
    same-kids o c.same_node.ensures c.if-not-same_node.false _ c.place_below-below.ensures (all-same c.new-first.ensures.over c.new-first.ensures.at c.new-second.ensures.over c.new-second.ensures.at _ _ c.same_trees.ensures) c.if-not-same_trees.true

pub loop-i-preserved : goal.loop-i-preserved
loop-i-preserved t c =
    let o = turn c.loop-i.invariant c.in-Some.ensures.steps c.in-Some-next.ensures.steps c.requires in
    walked-on c.loop-i.invariant c.in-Some.ensures.steps c.in-Some-next.ensures.steps
    (same-on o c.same_node.ensures c.if-not-same_node.false _ c.place_below-below.ensures (all-same c.new-first.ensures.over c.new-first.ensures.at c.new-second.ensures.over c.new-second.ensures.at _ _ c.same_trees.ensures) c.if-not-same_trees.false)

pub returns : goal.returns
returns t c = same-end c.loop-i.invariant c.in-None.ensures.steps _ _ c.next-2.ensures.steps _ c.is_none.ensures
