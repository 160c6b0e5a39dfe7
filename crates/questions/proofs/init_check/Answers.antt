-- `init_check` meets its contract: admission, the check, and the init arguments. Assumes nothing.
use mathlib.Core.Path.{sym}
use Rattle.passed.proofs.Asking.{init-stops, init-goes}
use Rattle.questions.proofs.init_check.Goals as goal

pub returns-in-Err : goal.returns-in-Err
returns-in-Err c = sym (init-stops _ (sym c.in-Err.ensures.verdict))

pub returns : goal.returns
returns c = init-goes _ c.in-Ok.ensures.passed.is c.init_check.ensures
