use Rattle.book.specs.Walks.{Over}
use Rattle.inhabitants.specs.Waiting.{places_in}
use Rattle.inhabitants.proofs.counting.Types.{SumLeft}
use Rattle.inhabitants.proofs.counting.NodeValues.sum.Given as goal

abbrev pub invariant-loop-c : goal.invariant-loop-c
invariant-loop-c l =
    record {
      over : Over l.types.rows.now l.types.until l.c-iterator;
      left : SumLeft l.self.numbers l.types.rows.now l.types.until (places_in l.types.rows.now l.types.at l.types.until) l.total l.c-iterator.at;
    }
