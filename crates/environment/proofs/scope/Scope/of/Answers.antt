-- `Scope::of` meets its contract: an admitted book gives the nodes. Assumes nothing.
use Rattle.book.proofs.Named.{book-of}
use Rattle.environment.proofs.Book.{nodes-of}
use Rattle.environment.proofs.scope.Scope.of.Goals as goal

pub new-requires : goal.new-requires
new-requires c = rw c.nodes.ensures (nodes-of (book-of _ _ c.args.book.laid), c.requires)
