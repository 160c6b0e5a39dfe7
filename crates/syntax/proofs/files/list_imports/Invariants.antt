use mathlib.Core.Path.{◌≡◌}
use Rattle.format.specs.Layout.{files_part}
use Rattle.book.specs.Walks.{OverEntries}
use Rattle.syntax.proofs.files.Laws.{ImportsLeft}
use Rattle.syntax.proofs.files.list_imports.Given as goal

abbrev pub invariant-loop-f : goal.invariant-loop-f
invariant-loop-f l =
    let a = l.fn.book in
    record {
      walk : OverEntries (files_part a.bytes.now) a.contents.files l.f-iterator.iter;
      count : l.f-iterator.count ≡ l.f-iterator.iter.at;
      left : ImportsLeft (files_part a.bytes.now) a.contents.files l.imports l.f-iterator.iter.at;
    }
