-- `marks` meets its contract: admission, the check, and the question. Assumes nothing.
use mathlib.Core.Path.{sym}
use Rattle.listing.proofs.Marks.{marks-after}
use Rattle.passed.proofs.Asking.{stops, answered, handed-refused, handed-as}
use Rattle.questions.proofs.marks.Goals as goal

pub returns-in-Err : goal.returns-in-Err
returns-in-Err c = handed-refused _ (stops _ _ (marks-after _) (sym c.in-Err.ensures.verdict))

pub returns : goal.returns
returns c = handed-as (answered _ _ c.in-Ok.ensures.passed.is) c.marks.ensures
