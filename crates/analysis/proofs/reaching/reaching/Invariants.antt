use Prim.Native.Nat.{◌-◌}
use lib.ListN.{length}
use Rattle.analysis.specs.Reaching.{Linked}
use Rattle.analysis.proofs.reaching.Worklist.{marked, WantedLeft, WorkLeft, NameLeft}
use Rattle.analysis.proofs.reaching.reaching.Given as goal

abbrev pub invariant-rows : goal.invariant-rows
invariant-rows l =
    (y : Linked l.owner l.head l.next) → NameLeft y.rows y.entries l.owner y.nodes y.definitions l.wanted l.initial.flagged l.initial.waiting.items l.flagged l.waiting.items l.m l.link

abbrev pub decreases-rows : goal.decreases-rows
decreases-rows l = l.link

abbrev pub invariant-names : goal.invariant-names
invariant-names l = (y : Linked l.owner l.head l.next) → WorkLeft y.rows y.entries l.owner y.nodes y.definitions l.wanted l.flagged l.waiting.items

abbrev pub decreases-names : goal.decreases-names
decreases-names l = 1024 - (marked l.flagged - length l.waiting.items)

abbrev pub invariant-wanted : goal.invariant-wanted
invariant-wanted l = (y : Linked l.owner l.head l.next) → WantedLeft y.rows y.entries l.owner y.nodes y.definitions l.wanted l.flagged l.waiting.items l.w-index
