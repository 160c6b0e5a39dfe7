-- `draft_list` meets its contract: admission, and the question. Assumes nothing.
use Rattle.listing.specs.DraftList.{draft_list}
use Rattle.admission.proofs.Admitting.{admission-gives}
use Rattle.refusals.proofs.Handing.{handed-on}
use Rattle.passed.proofs.Asking.{unadmitted, answered, handed-refused, handed-as}
use Rattle.questions.proofs.draft_list.Goals as goal

pub returns-in_err-admitted : goal.returns-in_err-admitted
returns-in_err-admitted c = rw (handed-on c.from_residual.result c.from_residual.ensures) (handed-refused _ (unadmitted draft_list _ c.in_err-admitted.ensures.answer))

pub returns : goal.returns
returns c = let g = admission-gives _ c.in_ok-admitted.ensures.answer in handed-as (answered draft_list _ g.is) ((rw c.in_ok-admitted.ensures.bytes at c.draft_list_admitted.ensures) g.read)
