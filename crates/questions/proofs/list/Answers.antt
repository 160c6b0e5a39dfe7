-- `list` meets its contract: admission, the check, and the question. Assumes nothing.
use mathlib.Core.Path.{sym}
use Rattle.listing.specs.List.{list}
use Rattle.listing.proofs.List.{list-after}
use Rattle.passed.proofs.Asking.{stops, answered, handed-refused, handed-as}
use Rattle.questions.proofs.list.Goals as goal

pub returns-in-Err : goal.returns-in-Err
returns-in-Err c = handed-refused _ (stops list _ list-after (sym c.in-Err.ensures.verdict))

pub returns : goal.returns
returns c = handed-as (answered list _ c.in-Ok.ensures.passed.is) c.list.ensures
