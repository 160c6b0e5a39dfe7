use Rattle.book.specs.Walks.{OverEntries}
use Rattle.environment.proofs.RootTable.{TableLeft}
use Rattle.environment.proofs.enter_entries.Given as goal

abbrev pub invariant-loop-e : goal.invariant-loop-e
invariant-loop-e l = record { walk : OverEntries l.entries l.to l.e-iterator; table : TableLeft l.entries l.names l.nodes l.from l.to l.roots l.e-iterator.at }
