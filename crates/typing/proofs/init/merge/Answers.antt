-- `merge` meets its contract. Assumes nothing.
use Rattle.book.proofs.Named.{book-of}
use Rattle.typing.proofs.init.Laws.{mergeable, merge-as}
use Rattle.typing.proofs.init.merge.Goals as goal

pub merge-requires : goal.merge-requires
merge-requires c =
    rw c.nodes.ensures (mergeable (book-of _ _ c.args.book.laid) c.requires.first c.requires.second c.name_hashes-hashes.ensures)

pub returns : goal.returns
returns c = λ a. merge-as a c.name_hashes-hashes.ensures (rw c.nodes.ensures at c.merge.ensures)
