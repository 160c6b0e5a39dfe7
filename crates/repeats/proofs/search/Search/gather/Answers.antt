-- `gather` meets its contract: the keys before the place of the walk stand there, and those from it on are left. Assumes nothing.
use mathlib.Core.Path.{◌∙◌}
use Rattle.book.proofs.Walking.{here, row, at, over-next, last}
use Rattle.repeats.proofs.Gathered.{left-fits, left-on, left-end}
use Rattle.repeats.proofs.Searched.{standing}
use Rattle.repeats.proofs.search.Search.gather.Goals as goal

pub key-key-requires : goal.key-key-requires
key-key-requires c =
    let i = c.loop-node.invariant in
    let x = c.in-Some.ensures.steps in
    rw (i.2, row i.0 x) (left-fits i.1 (here i.0 x) (standing c.args.self.now.names.index.book))

pub loop-node-preserved : goal.loop-node-preserved
loop-node-preserved c =
    let i = c.loop-node.invariant in
    let x = c.in-Some.ensures.steps in
    let key = rw (i.2, row i.0 x) at c.key-key.ensures.key in
    (over-next i.0 x, rw (c.push.ensures.items, at i.0 x) (left-on i.1 (here i.0 x) key), c.key-key.ensures.same_book ∙ i.2)

pub returns-clause-keys : goal.returns-clause-keys
returns-clause-keys c = left-end c.loop-node.invariant.1 (last c.loop-node.invariant.0 c.in-None.ensures.steps)
