-- `print_passed` meets its contract: the lines of what is listed, or the line of a refusal. Assumes nothing.
use Rattle.typing.proofs.prog.Book.{fits}
use Rattle.uses_report.proofs.Room.{page-laid, stopped-laid}
use Rattle.uses_report.proofs.print_passed.Goals as goal

pub returns-in-Ok : goal.returns-in-Ok
returns-in-Ok c = page-laid _ _ (fits c.args.book.now.passes.passed) (rw c.in-Ok.is at c.report.ensures) c.page.ensures

pub returns-in-Err : goal.returns-in-Err
returns-in-Err c = stopped-laid _ (rw c.in-Err.is at c.report.ensures) c.refusal.ensures
