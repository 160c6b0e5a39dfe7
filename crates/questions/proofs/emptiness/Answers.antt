-- `emptiness` meets its contract: admission, the check, and the question. Assumes nothing.
use mathlib.Core.Path.{sym}
use Rattle.listing.specs.Empty.{emptiness}
use Rattle.listing.proofs.Empty.{emptiness-after}
use Rattle.passed.proofs.Asking.{stops, answered, handed-refused, handed-as}
use Rattle.questions.proofs.emptiness.Goals as goal

pub returns-in-Err : goal.returns-in-Err
returns-in-Err c = handed-refused _ (stops emptiness _ emptiness-after (sym c.in-Err.ensures.verdict))

pub returns : goal.returns
returns c = handed-as (answered emptiness _ c.in-Ok.ensures.passed.is) c.emptiness.ensures
