-- `tables::name_hashes` meets its contract: a book's names are what its names' part has. Assumes nothing.
use Rattle.format.specs.Layout.{read}
use Rattle.book.proofs.Named.{book-of}
use Rattle.book.proofs.Placed.{names-in}
use Rattle.book.proofs.tables.name_hashes.Goals as goal

pub hashes_of-requires : goal.hashes_of-requires
hashes_of-requires c = rw c.names.ensures (names-in (book-of _ _ c.args.book.laid))

pub returns : goal.returns
unfolding read
returns c = rw c.names.ensures at c.hashes_of.ensures
