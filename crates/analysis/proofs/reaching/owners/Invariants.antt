use Rattle.book.specs.Walks.{OverEntries}
use Rattle.analysis.proofs.reaching.Ownership.{OwnersLeft}
use Rattle.analysis.proofs.reaching.owners.Given as goal

abbrev pub invariant-loop-e : goal.invariant-loop-e
invariant-loop-e l = record {
  walk : OverEntries l.entries l.definitions l.e-iterator;
  left : OwnersLeft l.rows l.entries l.definitions l.owner l.e-iterator.at;
}
