use Rattle.std.proofs.Common.{length}
use Rattle.format.specs.Layout.{names_of}
use Rattle.book.specs.Walks.{names_left}
use Rattle.book.proofs.Blank.{Filling, Hashed}
use Rattle.book.proofs.tables.hashes_of.Given as goal

abbrev pub invariant-loop-n : goal.invariant-loop-n
invariant-loop-n l =
    let all = names_of (length l.names) l.names in
    Filling all (names_left l.n-iterator.iter) (Hashed all) l.n-iterator.count l.hashes
