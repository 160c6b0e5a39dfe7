-- `init_list` meets its contract: admission, the check, and the question. Assumes nothing.
use mathlib.Core.Path.{sym}
use Rattle.listing.specs.InitList.{init_list}
use Rattle.listing.proofs.InitList.{init-list-after}
use Rattle.passed.proofs.Asking.{stops, answered, handed-refused, handed-as}
use Rattle.questions.proofs.init_list.Goals as goal

pub returns-in-Err : goal.returns-in-Err
returns-in-Err c = handed-refused _ (stops init_list _ init-list-after (sym c.in-Err.ensures.verdict))

pub returns : goal.returns
returns c = handed-as (answered init_list _ c.in-Ok.ensures.passed.is) c.init_list.ensures
