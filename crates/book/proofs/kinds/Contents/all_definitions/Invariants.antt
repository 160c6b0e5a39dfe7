use Rattle.book.specs.Walks.{Over, OverEntries}
use Rattle.book.proofs.Entries.{DefinitionsLeft}
use Rattle.book.proofs.kinds.Contents.all_definitions.Given as goal

abbrev pub invariant-loop-e : goal.invariant-loop-e
invariant-loop-e l = record {
  over : Over l.trees.rows.now l.trees.until l.left;
  walk : OverEntries l.entries l.self.definitions l.e-iterator;
  same : DefinitionsLeft l.self.names l.self.files l.self.definitions l.trees.until l.entries l.trees.rows.now l.e-iterator.at l.file l.left.at;
}
