-- `print_book` meets its contract: what is printed of a book that passed, or the line of its refusal. Assumes nothing.
use mathlib.Core.Path.{sym}
use Rattle.methods.proofs.Room.{full-passed, passed-laid, refusal-laid}
use Rattle.methods.proofs.print_book.Goals as goal

pub print_passed-requires : goal.print_passed-requires
print_passed-requires c = full-passed _ c.args.asked.now c.full.ensures c.in-Ok.ensures.passed

pub returns-in-Ok : goal.returns-in-Ok
returns-in-Ok c = passed-laid _ _ c.full.ensures c.in-Ok.ensures.passed c.print_passed.ensures

pub returns-in-Err : goal.returns-in-Err
returns-in-Err c = refusal-laid _ _ c.full.ensures (sym c.in-Err.ensures.verdict) c.refusal.ensures
