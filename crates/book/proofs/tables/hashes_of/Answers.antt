-- `tables::hashes_of` meets its contract: the names that are walked have their numbers. Assumes nothing.
use Rattle.std.proofs.Common.{arith, ap, ◌∙◌}
use Rattle.labels.specs.Number.{label_number}
use Rattle.book.specs.Tables.{zero_table}
use Rattle.book.specs.Walks.{names_left}
use Rattle.book.proofs.Blank.{filling-start, filling-name, filling-on, hashes-end}
use Rattle.book.proofs.tables.hashes_of.Goals as goal

pub loop-n-init : goal.loop-n-init
unfolding zero_table
loop-n-init c =
    let e = c.into_iter-n-iterator.ensures.into_iter_gives in
    let s = c.enumerate-n-items.ensures in
    rw (e, s.count) (filling-start (omega (arith, c.requires.counted, c.requires.few)) (ap names_left s.source))

pub loop-n-preserved : goal.loop-n-preserved
loop-n-preserved c =
    let z = c.in-Some.ensures.steps in
    let i = c.loop-n.invariant in
    rw (z.1, z.2) (filling-on i z.0 c.idl_hash.result (c.idl_hash.ensures ∙ ap label_number (filling-name i z.0)))

pub returns : goal.returns
returns c = hashes-end c.loop-n.invariant c.in-None.ensures.steps.0.0
