-- `values` meets its contract: admission, the check, and the question. Assumes nothing.
use mathlib.Core.Path.{sym, ap, ◌∙◌}
use Rattle.refusals.specs.Handed.{count_answer}
use Rattle.listing.proofs.Values.{values-after}
use Rattle.passed.proofs.Asking.{stops, answered, count-refused}
use Rattle.questions.proofs.values.Goals as goal

pub returns-in-Err : goal.returns-in-Err
returns-in-Err c = count-refused (stops _ _ (values-after _) (sym c.in-Err.ensures.verdict))

pub returns : goal.returns
returns c = c.values.ensures ∙ ap count_answer (sym (answered _ _ c.in-Ok.ensures.passed.is))
