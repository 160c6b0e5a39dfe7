-- `actor::check_hashes` meets its contract. Assumes nothing.
use Rattle.book.proofs.Named.{book-of}
use Rattle.environment.proofs.Book.{all-trees}
use Rattle.syntax.proofs.Book.{hashes-book}
use Rattle.syntax.proofs.hashes.Gathering.{services-in}
use Rattle.syntax.proofs.actor.check_hashes.Goals as goal

pub hashes-requires : goal.hashes-requires
hashes-requires c =
    let a = book-of _ _ c.args.book.laid in
    rw c.nodes.ensures
    (services-in (all-trees a) c.requires, c.name_hashes-table.ensures.long, (a.book.names, hashes-book a c.name_hashes-table.ensures))

pub returns : goal.returns
returns c =
    λ a. (rw c.nodes.ensures at c.hashes.ensures) a.book.names (hashes-book a c.name_hashes-table.ensures)
