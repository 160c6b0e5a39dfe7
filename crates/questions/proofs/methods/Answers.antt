-- `methods` meets its contract: admission, the check, and the question. Assumes nothing.
use mathlib.Core.Path.{sym}
use Rattle.listing.proofs.MethodsUsing.{methods-after}
use Rattle.passed.proofs.Asking.{stops, answered, handed-refused, handed-as}
use Rattle.questions.proofs.methods.Goals as goal

pub returns-in-Err : goal.returns-in-Err
returns-in-Err c = handed-refused _ (stops _ _ (methods-after _) (sym c.in-Err.ensures.verdict))

pub returns : goal.returns
returns c = handed-as (answered _ _ c.in-Ok.ensures.passed.is) c.methods.ensures
