-- `check_labels` meets its contract: the label of the node that is found is what is named. Assumes nothing.
use native.Mathlib.Omega.{arith}
use Rattle.book.proofs.Named.{book-of}
use Rattle.repeats.proofs.Verdict.{labels-pass, repeat-within, spelling-fits, spelled-refused, unspelled-refused}
use Rattle.repeats.proofs.check_labels.Goals as goal

pub returns-in_default : goal.returns-in_default
returns-in_default c = labels-pass (book-of _ _ c.args.book.laid) c.in_default.ensures

pub at-node-requires : goal.at-node-requires
at-node-requires c = rw c.nodes.ensures (repeat-within (book-of _ _ c.args.book.laid) c.in-Some.ensures)

pub overflow_cast-result : goal.overflow_cast-result
overflow_cast-result c =
    let row = rw c.nodes.ensures at c.at-node.ensures in
    omega (arith, spelling-fits (book-of _ _ c.args.book.laid) c.in-Some.ensures c.at-node.result row c.if-node.true)

pub returns-then-node : goal.returns-then-node
returns-then-node c =
    let row = rw c.nodes.ensures at c.at-node.ensures in
    spelled-refused (book-of _ _ c.args.book.laid) c.in-Some.ensures c.at-node.result row c.if-node.true

pub returns : goal.returns
returns c =
    let row = rw c.nodes.ensures at c.at-node.ensures in
    unspelled-refused (book-of _ _ c.args.book.laid) c.in-Some.ensures c.at-node.result row c.if-node.false
