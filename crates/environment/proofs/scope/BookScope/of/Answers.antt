-- `BookScope::of` meets its contract: the nodes of an admitted book are trees at roots. Assumes nothing.
use Rattle.book.proofs.Named.{book-of}
use Rattle.environment.proofs.Book.{all-trees}
use Rattle.environment.proofs.scope.BookScope.of.Goals as goal

pub invariant_of-result : goal.invariant_of-result
invariant_of-result c = let o = c.of.ensures in record { trees = rw (o.rows, o.names, o.nodes) (all-trees (book-of _ _ c.args.book.laid)) }
