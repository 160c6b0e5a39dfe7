-- `enter` meets its contract: a book's entries are what is asked. Assumes nothing.
use Rattle.book.proofs.Named.{book-of}
use Rattle.environment.proofs.Book.{nodes-of, entries-of}
use Rattle.environment.proofs.enter.Goals as goal

pub enter_entries-requires : goal.enter_entries-requires
enter_entries-requires c =
    let a = book-of _ _ c.args.book.laid in
    let n = nodes-of a in
    rw c.definitions.ensures (entries-of a c.requires.ordered c.requires.within, n.few_names, n.few_nodes, c.requires.empty)
