-- Every example of document 01 is answered as it says: by computation, the one theorem of the table. Assumes nothing.
use mathlib.Core.Path.{◌≡◌, refl}
use mathlib.Core.List.{Memᴰ}
use Rattle.samples.proofs.Theorems.{in-row}
use Rattle.examples.specs.Answer.{answer}
use Rattle.examples.specs.Table.{Example, examples}
use Rattle.examples.proofs.Computed.{answer-computed, examples-computed}

-- The column of what is answered is the column of outcomes.
pub all-answered : (e : Example) → Memᴰ e examples → answer e.question e.input ≡ e.outcome
unfolding answer-computed examples-computed
all-answered = in-row (λ e. answer e.question e.input) (λ e. e.outcome) examples refl
