-- `print` meets its contract: there is room for all that is printed. Assumes nothing.
use Rattle.print.proofs.Lays.{whole}
use Rattle.methods.proofs.print.Goals as goal

pub returns : goal.returns
returns c = let e = c.new-text.ensures in whole (rw e.out c.requires) e.front c.print_book.ensures c.into_laid.ensures
