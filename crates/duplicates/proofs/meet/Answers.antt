-- `meet` meets its contract: the links followed are those of the number, and lead on to each place before that has it. Assumes nothing.
use native.Mathlib.Omega.{arith}
use Rattle.duplicates.proofs.Places.{stands-at}
use Rattle.duplicates.proofs.Searching.{search-start, search-on, search-end}
use Rattle.duplicates.proofs.meet.Goals as goal

pub loop-at-init : goal.loop-at-init
loop-at-init c = search-start c.requires.tree

pub returns-then-keys-at : goal.returns-then-keys-at
returns-then-keys-at c = stands-at _ _ _ c.loop-at.invariant.inside (omega arith) c.if-keys-at.true

pub returns-then-next-eq0 : goal.returns-then-next-eq0
returns-then-next-eq0 c = search-end c.loop-at.invariant c.if-keys-at.false c.if-next-eq0.true c.requires.inside

pub loop-at-preserved : goal.loop-at-preserved
loop-at-preserved c = search-on c.loop-at.invariant c.if-keys-at.false (omega (arith, c.if-next-eq0.false))
