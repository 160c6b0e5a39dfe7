-- `use_counts` meets its contract: admission, the check, and the question. Assumes nothing.
use mathlib.Core.Path.{sym}
use Rattle.listing.specs.UseCounts.{use_counts}
use Rattle.listing.proofs.UseCounts.{use-counts-after}
use Rattle.passed.proofs.Asking.{stops, answered, counts-refused, handed-as}
use Rattle.questions.proofs.use_counts.Goals as goal

pub returns-in-Err : goal.returns-in-Err
returns-in-Err c = counts-refused _ (stops use_counts _ use-counts-after (sym c.in-Err.ensures.verdict))

pub returns : goal.returns
returns c = handed-as (answered use_counts _ c.in-Ok.ensures.passed.is) c.use_counts.ensures
