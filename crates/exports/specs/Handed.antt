-- How a C function hands an answer over, in one number and the lent list, and the limits that it takes as three numbers. Definitions; assumes
-- nothing.
use Rattle.std.specs.Prelude.{◌≡◌, List, ℕ, ◌/◌, length}
use Rattle.format.specs.declared.Limits.{Limits}
use Rattle.refusals.specs.Outcome.{Outcome, fit}
use Rattle.refusals.specs.Handed.{Answer, answer_of, left_in, Use, uses_left}
use Rattle.codes.specs.Coded.{coded_answer, coded_uses, ReadAnswer, ReadUses}

-- The limits that three numbers stand for.
abbrev pub limits_of : ℕ → ℕ → ℕ → Limits
limits_of names nodes definitions = record { names = names; nodes = nodes; definitions = definitions }

-- The outcome o is handed over as `HandedAs` says, its answer in a number, from which the arithmetic of include/ludzepin.h gives back what is said.
pub record CodedBy (coding : Answer → ℕ) (Read : Answer → ℕ → Type 0) (o : Outcome (List ℕ)) (old new : List ℕ) (code : ℕ) : Type 0 where
  pub answer : code ≡ coding (answer_of (fit (length old) o))
  pub read : Read (answer_of (fit (length old) o)) code
  pub left : new ≡ left_in (fit (length old) o) old

abbrev pub CodedAs : Outcome (List ℕ) → (old new : List ℕ) → (code : ℕ) → Type 0
CodedAs = CodedBy coded_answer ReadAnswer

-- In as many bits as uses: a uses report, whose total is the sum of what is handed over.
abbrev pub UseCountsCodedAs : Outcome (List ℕ) → (old new : List ℕ) → (code : ℕ) → Type 0
UseCountsCodedAs = CodedBy coded_uses ReadUses

-- The same of uses, by `UsesAs`.
pub record UsesCodedAs (o : Outcome (List Use)) (old new : List ℕ) (code : ℕ) : Type 0 where
  pub answer : code ≡ coded_uses (answer_of (fit (length old / 3) o))
  pub read : ReadUses (answer_of (fit (length old / 3) o)) code
  pub left : new ≡ uses_left (fit (length old / 3) o) old
