use Rattle.std.proofs.Common.{◌≡◌}
use Rattle.book.specs.Walks.{Over, OverEntries}
use Rattle.book.proofs.Entries.{FilesLeft}
use Rattle.book.proofs.kinds.Contents.all_files.Given as goal

abbrev pub invariant-loop-f : goal.invariant-loop-f
invariant-loop-f l = record {
  over : Over l.trees.rows.now l.trees.until l.left;
  walk : OverEntries l.entries l.self.files l.f-iterator.iter;
  count : l.f-iterator.count ≡ l.f-iterator.iter.at;
  same : FilesLeft l.self.names l.self.files l.trees.until l.trees.at l.entries l.trees.rows.now l.f-iterator.count l.left.at;
}
