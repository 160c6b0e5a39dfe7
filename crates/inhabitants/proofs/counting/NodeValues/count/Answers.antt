-- `NodeValues::count` meets its contract: what is known of the nodes entered, and of those that have told. Assumes nothing.
use mathlib.Core.Path.{sym, ◌∙◌}
use Prim.Native.Nat.{◌<◌}
use native.Mathlib.Omega.{arith}
use borrow.Author.Tests.{eqb-true, eqb-false}
use lib.ListN.{length}
use Rattle.inhabitants.proofs.counting.Counted.{entering-start, enters-settled, enters-waits, telling-start, telling-inside, telling-can, telling-next}
use Rattle.inhabitants.proofs.counting.Uncounted.{all-right}
use Rattle.inhabitants.proofs.counting.NodeValues.count.Goals as goal

pub loop-n-init : goal.loop-n-init
loop-n-init c = entering-start c.args.scope c.fill.new.filling c.new-counting.result c.args.self.now.numbers c.new-counting.ensures c.requires.new

pub loop-n-preserved-then-settled : goal.loop-n-preserved-then-settled
loop-n-preserved-then-settled c =
    enters-settled c.args.scope c.fill.new.filling c.fill.ensures c.loop-n-test.true c.loop-n.auto.n c.loop-n.invariant c.wait_of.ensures c.enter.ensures
    (eqb-true _ 0 (sym c.settled.ensures ∙ c.if-settled.true)) c.count_node.ensures

pub loop-n-preserved : goal.loop-n-preserved
loop-n-preserved c =
    enters-waits c.args.scope c.fill.new.filling c.fill.ensures c.loop-n-test.true c.loop-n.auto.n c.loop-n.invariant c.wait_of.ensures c.enter.ensures
    (eqb-false _ 0 (sym c.settled.ensures ∙ c.if-settled.false))

pub loop-told-init : goal.loop-told-init
loop-told-init c = telling-start (omega (arith, c.loop-n-test.false)) c.loop-n.invariant

pub count_node-requires-in-loop-told : goal.count_node-requires-in-loop-told
count_node-requires-in-loop-told c =
    telling-inside c.args.scope c.fill.new.filling c.fill.ensures c.loop-told.invariant (omega (arith, c.loop-told-test.true, c.ready.ensures)) c.ready_at-n.ensures

pub tell_all-requires : goal.tell_all-requires
tell_all-requires c =
    let some : c.loop-told.told < length c.loop-told.counting.ready.items = omega (arith, c.loop-told-test.true, c.ready.ensures) in
    let inside = telling-inside c.args.scope c.fill.new.filling c.fill.ensures c.loop-told.invariant some c.ready_at-n.ensures in
    (omega (arith, inside, c.args.scope.whole.few_nodes), telling-can c.args.scope c.fill.new.filling c.fill.ensures c.loop-told.invariant some c.ready_at-n.ensures)

pub loop-told-preserved : goal.loop-told-preserved
loop-told-preserved c =
    telling-next c.args.scope c.fill.new.filling c.fill.ensures c.loop-told.invariant (omega (arith, c.loop-told-test.true, c.ready.ensures)) c.ready_at-n.ensures
    c.count_node-in-loop-told.ensures c.tell_all.ensures

pub returns : goal.returns
returns c = λ n inside ds b.
    all-right c.args.scope c.fill.new.filling c.fill.ensures c.requires.opts c.loop-told.invariant (omega (arith, c.loop-told-test.false, c.ready.ensures)) ds b n inside
