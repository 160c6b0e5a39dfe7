use mathlib.Core.Path.{◌≡◌}
use Rattle.format.specs.Layout.{read}
use Rattle.repeats.proofs.Searched.{Searched}
use Rattle.repeats.proofs.search.Search.run.Given as goal

abbrev pub invariant-loop-i : goal.invariant-loop-i
invariant-loop-i l =
    Searched (read l.fn.self.names.index.book.bytes.now) l.i-counter l.lowest
    × (l.self.names.index.book.bytes.now ≡ l.fn.self.names.index.book.bytes.now)
