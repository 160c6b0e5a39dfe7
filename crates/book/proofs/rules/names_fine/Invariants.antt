use lib.ListN.{length}
use Rattle.book.proofs.Names.{NamesLeft}
use Rattle.book.proofs.rules.names_fine.Given as goal

abbrev pub invariant-loop-size : goal.invariant-loop-size
invariant-loop-size l = NamesLeft l.count l.bytes l.rest l.seen l.last

abbrev pub decreases-loop-size : goal.decreases-loop-size
decreases-loop-size l = length l.rest
