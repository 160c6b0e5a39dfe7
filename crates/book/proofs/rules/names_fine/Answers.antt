-- `rules::names_fine` meets its contract: what is left of the bytes is names just where all of it is. Assumes nothing.
use Rattle.std.proofs.Common.{sym, ◌∙◌}
use Rattle.book.proofs.Names.{names-start, names-short, names-fall, names-on, names-end}
use Rattle.book.proofs.rules.names_fine.Goals as goal

pub loop-size-init : goal.loop-size-init
loop-size-init c = names-start _ _

pub returns-in_default-split_at_checked : goal.returns-in_default-split_at_checked
returns-in_default-split_at_checked c = names-short c.loop-size.invariant c.in-Some.ensures.cases.0 c.in_default-split_at_checked.ensures.cases

pub returns-then-not-rises : goal.returns-then-not-rises
returns-then-not-rises c =
    let s = c.in-Some-split_at_checked.ensures.cases in
    names-fall c.loop-size.invariant c.in-Some.ensures.cases.0 c.in-Some-split_at_checked.name _ s.0 s.1 s.2 (sym c.rises.ensures ∙ c.if-not-rises.true)

pub loop-size-preserved : goal.loop-size-preserved
loop-size-preserved c =
    let s = c.in-Some-split_at_checked.ensures.cases in
    names-on c.loop-size.invariant c.in-Some.ensures.cases.0 c.in-Some-split_at_checked.name _ s.0 s.1 s.2 (sym c.rises.ensures ∙ c.if-not-rises.false)

pub returns : goal.returns
returns c = names-end c.loop-size.invariant c.in_default.ensures.cases
