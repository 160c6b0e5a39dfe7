-- What a question's answer says of its outcome. Assumes nothing.
use mathlib.Core.Path.{◌≡◌, refl, sym, ap, ◌∙◌}
use mathlib.Core.List.{List}
use Prim.Native.Nat.{ℕ, ◌≤◌}
use native.Mathlib.Omega.{arith}
use lib.ListN.{length, take, drop, length-append}
use lib.Seq.{take_at}
use Rattle.refusals.specs.declared.Refusal.{Refusal}
use Rattle.refusals.specs.Outcome.{Outcome, refused, given, fit}
use Rattle.std.specs.Prelude.{Ok, Err}
use Rattle.refusals.specs.Handed.{Answer, answer_of, left_in, HandedAs}

-- The number that an answer gives, and the outcome that it tells with what the list holds.
abbrev count_of : Answer → ℕ
count_of (Ok n) = n
count_of (Err r) = 0

abbrev outcome_of : Answer → List ℕ → Outcome (List ℕ)
outcome_of (Ok n) l = given (take n l)
outcome_of (Err r) l = refused r

module _ {o : Outcome (List ℕ)} {old new : List ℕ} {r : Answer} (h : HandedAs o old new r) {places : ℕ} (n : places ≡ length old) where
  -- The outcome is the answer with the entries that stand in front.
  pub answered : (fit places o ≡ outcome_of r new) × (count_of r ≤ length new)
  unfolding answer_of left_in
  answered = rw (n, h.answer) (go (fit (length old) o) h.left)
    where
      go : (f : Outcome (List ℕ)) → new ≡ left_in f old → (f ≡ outcome_of (answer_of f) new) × (count_of (answer_of f) ≤ length new)
      go (refused why) u = (refl, omega arith)
      go (given l) u = (
        ap given (sym (rw u (take_at l (drop (length l) old) (length l) refl))),
        omega (arith, ap length u, length-append l (drop (length l) old)),
      )

  pub refused-is : {why : Refusal} → r ≡ Err why → fit places o ≡ refused why
  refused-is e = answered.0 ∙ ap (λ (a : Answer). outcome_of a new) e

  pub given-is : {count : ℕ} → r ≡ Ok count → fit places o ≡ given (take count new)
  given-is e = answered.0 ∙ ap (λ (a : Answer). outcome_of a new) e

  pub given-within : {count : ℕ} → r ≡ Ok count → count ≤ length new
  given-within e = omega (arith, answered.1, ap count_of e)
