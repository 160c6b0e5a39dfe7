-- `print_answers` meets its contract: a refusal of the check, or what is printed of a book that passed. Assumes nothing.
use mathlib.Core.Path.{sym}
use Rattle.list.proofs.Listed.{full-passed, check-refused, prints-none}
use Rattle.list.proofs.print_answers.Goals as goal

pub returns-in-Err : goal.returns-in-Err
returns-in-Err c = prints-none (check-refused _ c.full.ensures (sym c.in-Err.ensures.verdict))

pub print_passed-requires : goal.print_passed-requires
print_passed-requires c = full-passed c.full.ensures c.in-Ok.ensures.passed

pub returns-in-Ok : goal.returns-in-Ok
returns-in-Ok c = rw (← c.in-Ok.ensures.passed.bytes) c.print_passed.ensures
