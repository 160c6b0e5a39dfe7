-- `print_book` meets its contract: a refused book's line, or what was printed before. Assumes nothing.
use Rattle.list.proofs.Listed.{prints-line}
use Rattle.list.proofs.print_book.Goals as goal

pub returns-in-Err : goal.returns-in-Err
returns-in-Err c = prints-line (rw c.in-Err.is at c.print_answers.ensures) c.refusal.ensures
