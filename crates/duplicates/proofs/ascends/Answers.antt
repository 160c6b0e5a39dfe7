-- `ascends` meets its contract: each number is below the next. Assumes nothing.
use Rattle.std.specs.Prelude.{nat_lt}
use Rattle.std.proofs.Common.{rules}
use Rattle.std.proofs.lemmas.List.Sorted.{answers_always}
use Rattle.duplicates.proofs.Places.{sorted-distinct}
use Rattle.duplicates.proofs.ascends.Goals as goal

pub returns : goal.returns
returns c = sorted-distinct _ _ (c.is_sorted_by.ensures.cases nat_lt (answers_always _ _ _ (λ f a r q k. search rules)))
