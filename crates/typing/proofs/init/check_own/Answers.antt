-- `check_own` meets its contract. Assumes nothing.
use Rattle.book.proofs.Named.{book-of}
use Rattle.typing.proofs.init.Laws.{own-as}
use Rattle.typing.proofs.init.check_own.Goals as goal

pub returns : goal.returns
returns c =
    own-as (book-of _ _ c.args.book.laid) c.check.result (rw (c.new.ensures.book, c.new.ensures.from, c.new.ensures.to) at c.check.ensures)
