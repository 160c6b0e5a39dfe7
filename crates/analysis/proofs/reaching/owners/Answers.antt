-- `reaching::owners` meets its contract: the rows of one definition more are written each turn. Assumes nothing.
use Rattle.std.proofs.Common.{rules}
use Rattle.std.proofs.lemmas.List.{places}
use Rattle.book.proofs.Walking.{entry-left, entry-is, entry-next, entry-last}
use Rattle.analysis.proofs.reaching.Ownership.{owners-start, owners-end, owners-on}
use Rattle.analysis.proofs.reaching.owners.Goals as goal

pub loop-e-init : goal.loop-e-init
loop-e-init c = record { walk = search rules; left = owners-start _ _ _ _ c.requires.1 (search rules) }

pub loop-e-preserved : goal.loop-e-preserved
loop-e-preserved c =
    let l = c.loop-e.invariant in
    let w = l.walk in
    let x = c.in-Some.ensures.steps in
    record { walk = entry-next w x; left = rw x.at (owners-on c.requires.0.2 (entry-left w x) _ (entry-is w x) _ c.at.ensures l.left (search (rules, places))) }

pub returns : goal.returns
returns c = owners-end c.requires.0.2 c.loop-e.invariant.left (entry-last c.loop-e.invariant.walk c.in-None.ensures.steps)
