-- `print_book` meets its contract: the lines of a book that passed, or the line of its refusal. Assumes nothing.
use mathlib.Core.Path.{sym}
use Rattle.values.proofs.Room.{lines-laid, refusal-laid}
use Rattle.values.proofs.print_book.Goals as goal

pub returns-in-Ok : goal.returns-in-Ok
returns-in-Ok c = lines-laid _ c.full.ensures c.in-Ok.ensures.passed c.lines.ensures

pub returns-in-Err : goal.returns-in-Err
returns-in-Err c = refusal-laid _ c.full.ensures (sym c.in-Err.ensures.verdict) c.refusal.ensures
