-- `CheckedBook::pass` meets its contract. Assumes nothing.
use mathlib.Core.Path.{ap}
use Rattle.refusals.proofs.Handing.{handed-on}
use Rattle.passed.proofs.Asking.{pass-refused, check-refused, book-passed, pass-goes}
use Rattle.passed.proofs.CheckedBook.pass.Goals as goal

pub returns-in_err-admitted : goal.returns-in_err-admitted
returns-in_err-admitted c = rw (handed-on c.from_residual.result c.from_residual.ensures) (pass-refused _ c.in_err-admitted.ensures.answer)

pub returns-in_err-found : goal.returns-in_err-found
returns-in_err-found c =
    let e = c.in_ok-admitted.ensures in
    rw (handed-on c.from_residual-in_err-found.result c.from_residual-in_err-found.ensures)
    (check-refused _ e.answer (rw e.bytes at c.check_prog.ensures) c.in_err-found.was)

pub invariant_of-result : goal.invariant_of-result
invariant_of-result c =
    let e = c.in_ok-admitted.ensures in
    record { passes = rw e.bytes (book-passed _ e.answer (rw e.bytes at c.check_prog.ensures) c.in_ok-found.was) }

pub returns : goal.returns
returns c =
    let e = c.in_ok-admitted.ensures in
    pass-goes _ e.answer (rw e.bytes at c.check_prog.ensures) c.in_ok-found.was _ (ap (λ b. b.now) e.bytes)
