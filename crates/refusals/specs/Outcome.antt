-- What a question comes to: a refusal, or what it gives. Definitions; assumes nothing.
use Rattle.std.specs.Prelude.{cond, List, ℕ, leb, length}
use Rattle.refusals.specs.declared.Refusal.{Refusal}
use Rattle.refusals.specs.declared.Refusal.TheVariants.{Short}
use Rattle.std.specs.Prelude.{Ok, Err}
use Rattle.refusals.specs.Verdict.{Verdict}

pub data Outcome (A : Type 0) : Type 0 where
  refused : Refusal → Outcome A
  given : A → Outcome A

-- A question goes on where the verdict passes.
unfoldable pub after : {A : Type 0} → Verdict → Outcome A → Outcome A
after (Ok tt) o = o
after (Err r) o = refused r

-- A question is asked of what is given, and a check judges it.
unfoldable pub asked : {A B : Type 0} → (A → Outcome B) → Outcome A → Outcome B
asked question (refused r) = refused r
asked question (given a) = question a

unfoldable pub judged : {A : Type 0} → (A → Verdict) → Outcome A → Verdict
judged check (refused r) = Err r
judged check (given a) = check a

-- 16: into a lent list of so many places.
unfoldable pub fit : {A : Type 0} → ℕ → Outcome (List A) → Outcome (List A)
fit places (refused r) = refused r
fit places (given l) = cond (leb (length l) places) (given l) (refused (Short (length l)))
