use Rattle.book.specs.Walks.{Over}
use Rattle.inhabitants.specs.Waiting.{places_in}
use Rattle.inhabitants.proofs.waiting.Holding.{HoldLeft}
use Rattle.inhabitants.proofs.waiting.Waiting.hold.Given as goal

abbrev pub invariant-loop-c : goal.invariant-loop-c
invariant-loop-c l =
    record {
      over : Over l.types.rows.now l.types.until l.c-iterator;
      left : HoldLeft l.types.rows.now l.types.until l.n (places_in l.types.rows.now l.types.at l.types.until) l.initial.self l.self l.held l.c-iterator.at;
    }
