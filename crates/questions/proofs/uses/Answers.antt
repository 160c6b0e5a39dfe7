-- `uses` meets its contract: admission, the check, and the question. Assumes nothing.
use mathlib.Core.Path.{sym}
use Rattle.listing.proofs.Uses.{uses-after}
use Rattle.passed.proofs.Asking.{stops, answered, uses-refused, uses-as}
use Rattle.questions.proofs.uses.Goals as goal

pub returns-in-Err : goal.returns-in-Err
returns-in-Err c = uses-refused _ (stops _ _ (uses-after _) (sym c.in-Err.ensures.verdict))

pub returns : goal.returns
returns c = uses-as (answered _ _ c.in-Ok.ensures.passed.is) c.uses.ensures
