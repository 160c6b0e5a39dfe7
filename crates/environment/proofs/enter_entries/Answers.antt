-- `enter_entries` meets its contract: what the table lacks is found in the entries that are left. Assumes nothing.
use mathlib.Core.Path.{sym, ◌∙◌}
use Rattle.book.proofs.Walking.{entry-left, entry-is, entry-next, entry-last}
use Rattle.environment.proofs.BlankTable.{blank-filled}
use Rattle.environment.proofs.Links.{rooted, unrooted}
use Rattle.environment.proofs.RootTable.{table-start, table-end, table-twice, table-on}
use Rattle.environment.proofs.enter_entries.Goals as goal

pub loop-e-init : goal.loop-e-init
loop-e-init c =
    let new = c.new-e-items.ensures in
    rw c.into_iter-e-iterator.ensures.into_iter_gives (record { walk = new.over; table = rw (c.requires.3, new.at) (table-start _ _ _ _ _ c.requires.0) })

pub returns-then-is_some : goal.returns-then-is_some
returns-then-is_some c =
    let p = c.requires in
    let l = c.loop-e.invariant in
    let x = c.in-Some.ensures.steps in
    table-twice p.0 p.1 p.2 l.table (entry-left l.walk x) _ (entry-is l.walk x)
    (rooted c.root_of.result c.root_of.ensures.some (sym c.is_some.ensures ∙ c.if-is_some.true)) (blank-filled l.table.long (c.fill.ensures.after (λ y e. e)))

pub loop-e-preserved : goal.loop-e-preserved
loop-e-preserved c =
    let p = c.requires in
    let l = c.loop-e.invariant in
    let x = c.in-Some.ensures.steps in
    record {
      walk = entry-next l.walk x;
      table = rw x.at (table-on p.0 p.1 p.2 l.table (entry-left l.walk x) _ (entry-is l.walk x) (unrooted c.root_of.result c.root_of.ensures.none (sym c.is_some.ensures ∙ c.if-is_some.false)));
    }

pub returns : goal.returns
returns c = let l = c.loop-e.invariant in table-end c.requires.0 c.requires.1 c.requires.2 l.table (entry-last l.walk c.in-None.ensures.steps)
