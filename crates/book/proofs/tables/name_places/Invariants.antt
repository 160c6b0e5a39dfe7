use Rattle.std.proofs.Common.{◌≡◌, ◌+◌, length}
use Rattle.format.specs.Layout.{names_of, names_part}
use Rattle.book.specs.Walks.{names_left}
use Rattle.book.proofs.Blank.{Filling}
use Rattle.book.proofs.Placed.{start}
use Rattle.book.proofs.tables.name_places.Given as goal

abbrev pub invariant-loop-n : goal.invariant-loop-n
invariant-loop-n l =
    let all = names_of (length (names_part l.book.bytes.now)) (names_part l.book.bytes.now) in
    record {
      filling : Filling all (names_left l.n-iterator.iter) (λ m v. v ≡ 32 + start all m) l.n-iterator.count l.places;
      at : l.at ≡ 32 + start all l.n-iterator.count;
    }
