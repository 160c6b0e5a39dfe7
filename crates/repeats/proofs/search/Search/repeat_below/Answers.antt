-- `repeat_below` meets its contract: the keys of the children say which is a repeat. Assumes nothing.
use mathlib.Core.Path.{◌∙◌}
use native.Mathlib.Omega.{arith}
use Rattle.book.specs.Reading.{as_row}
use Rattle.repeats.proofs.Searched.{standing, nodes-few, row-within, below, keys-of, below-none, below-there, below-first}
use Rattle.repeats.proofs.search.Search.repeat_below.Goals as goal

pub at-node-requires : goal.at-node-requires
at-node-requires c = rw c.nodes-rows.ensures (row-within (standing c.args.self.now.names.index.book) c.args.i c.requires.inside)

pub overflow_add-i : goal.overflow_add-i
overflow_add-i c = omega (arith, nodes-few (standing c.args.self.now.names.index.book), c.requires.inside)

pub overflow_add-i-2 : goal.overflow_add-i-2
overflow_add-i-2 c =
    let b = c.args.self.now.names.index.book in
    let row = rw c.nodes-rows.ensures at c.at-node.ensures in
    let w = below (standing b) c.args.i c.requires.inside (as_row c.at-node.result) row in
    omega (arith, w.whole.within.held, w.whole.within.few)

pub new-children-requires : goal.new-children-requires
new-children-requires c =
    let b = c.args.self.now.names.index.book in
    let row = rw c.nodes-rows.ensures at c.at-node.ensures in
    rw c.nodes-rows.ensures (below (standing b) c.args.i c.requires.inside (as_row c.at-node.result) row).whole

pub gather-requires-clause-inside : goal.gather-requires-clause-inside
gather-requires-clause-inside c =
    let b = c.args.self.now.names.index.book in
    let row = rw c.nodes-rows.ensures at c.at-node.ensures in
    rw c.new-children.ensures.over.until (below (standing b) c.args.i c.requires.inside (as_row c.at-node.result) row).inside

pub returns-in_err-d-clause-found : goal.returns-in_err-d-clause-found
returns-in_err-d-clause-found c =
    let b = c.args.self.now.names.index.book in
    let row = rw c.nodes-rows.ensures at c.at-node.ensures in
    let n = c.new-children.ensures in
    let keys = rw (n.at, n.over.until, c.place_below.ensures) at c.gather.ensures.keys in
    let are = keys-of b.bytes.now _ c.args.i (as_row c.at-node.result) row (c.as_slice.ensures.value ∙ keys) in
    rw c.from_residual.ensures (below-none (standing b) c.requires.inside are c.in_err-d.ensures)

pub returns-in_err-child-clause-found : goal.returns-in_err-child-clause-found
returns-in_err-child-clause-found c =
    let b = c.args.self.now.names.index.book in
    let row = rw c.nodes-rows.ensures at c.at-node.ensures in
    let n = c.new-children.ensures in
    let keys = rw (n.at, n.over.until, c.place_below.ensures) at c.gather.ensures.keys in
    let are = keys-of b.bytes.now _ c.args.i (as_row c.at-node.result) row (c.as_slice.ensures.value ∙ keys) in
    absurd (below-there (standing b) c.requires.inside are c.in_ok-d.ensures row (rw c.nodes-rows.ensures at n.over) n.at c.in_err-child.ensures.ran)

pub returns-clause-found : goal.returns-clause-found
returns-clause-found c =
    let b = c.args.self.now.names.index.book in
    let row = rw c.nodes-rows.ensures at c.at-node.ensures in
    let n = c.new-children.ensures in
    let keys = rw (n.at, n.over.until, c.place_below.ensures) at c.gather.ensures.keys in
    let are = keys-of b.bytes.now _ c.args.i (as_row c.at-node.result) row (c.as_slice.ensures.value ∙ keys) in
    below-first (standing b) c.requires.inside are c.in_ok-d.ensures row (rw c.nodes-rows.ensures at n.over) n.at c.requires.parent c.in_ok-child.ensures.ran
