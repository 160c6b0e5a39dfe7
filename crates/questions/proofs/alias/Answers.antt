-- `alias` meets its contract: admission, the check, and the question. Assumes nothing.
use mathlib.Core.Path.{sym, ap, ◌∙◌}
use Rattle.refusals.specs.Handed.{alias_answer}
use Rattle.listing.proofs.Alias.{alias-after}
use Rattle.passed.proofs.Asking.{stops, answered, alias-refused}
use Rattle.questions.proofs.alias.Goals as goal

pub returns-in-Err : goal.returns-in-Err
returns-in-Err c = alias-refused (stops _ _ (alias-after _) (sym c.in-Err.ensures.verdict))

pub returns : goal.returns
returns c = c.alias.ensures ∙ ap alias_answer (sym (answered _ _ c.in-Ok.ensures.passed.is))
