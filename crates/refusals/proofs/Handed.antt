-- An outcome is handed over into a lent list. Assumes nothing.
use mathlib.Core.Path.{◌≡◌, refl, sym, ap, ◌∙◌}
use mathlib.Core.List.{List, ◌++◌}
use Prim.Native.Nat.{ℕ, ◌≤◌, ◌<◌}
use borrow.Author.Tests.{le-leb, lt-leb}
use lib.ListN.{length, drop}
use Rattle.refusals.specs.declared.Refusal.{Refusal}
use Rattle.refusals.specs.declared.Refusal.TheVariants.{Short}
use Rattle.refusals.specs.Outcome.{Outcome, refused, given, fit}
use Rattle.std.specs.Prelude.{Ok, Err}
use Rattle.refusals.specs.Handed.{answer_of, left_in, HandsOver, HandedAs}

-- ---- An outcome that is refused, a list that does not fit, and one that does
module _ {R : Type 0} (answering : Outcome (List ℕ) → R) where
  hands-over : {o o' : Outcome (List ℕ)} {old new : List ℕ} {r : R} → fit (length old) o ≡ o' → r ≡ answering o' → new ≡ left_in o' old → HandsOver answering o old new r
  hands-over {old = old} e a u = record { answer = a ∙ ap answering (sym e); left = u ∙ ap (λ (o : Outcome (List ℕ)). left_in o old) (sym e) }

  pub hands-refused : {o : Outcome (List ℕ)} {old new : List ℕ} {r : Refusal} → o ≡ refused r → new ≡ old → HandsOver answering o old new (answering (refused r))
  unfolding fit left_in
  hands-refused {old = old} e u = hands-over (ap (fit (length old)) e) refl u

  module _ (l : List ℕ) {old new : List ℕ} where
    pub hands-short : length old < length l → new ≡ old → HandsOver answering (given l) old new (answering (refused (Short (length l))))
    unfolding fit left_in
    hands-short h u = hands-over {o' = refused (Short (length l))} (rw (lt-leb (length l) (length old) h)) refl u

    pub hands-long : length l ≤ length old → new ≡ l ++ drop (length l) old → HandsOver answering (given l) old new (answering (given l))
    unfolding fit left_in
    hands-long h u = hands-over {o' = given l} (rw (le-leb (length l) (length old) h)) refl u

-- Where entries are counted.
pub handed-refused : {o : Outcome (List ℕ)} {old new : List ℕ} {r : Refusal} → o ≡ refused r → new ≡ old → HandedAs o old new (Err r)
unfolding answer_of
handed-refused = hands-refused answer_of

module _ (l : List ℕ) {old new : List ℕ} where
  pub handed-short : length old < length l → new ≡ old → HandedAs (given l) old new (Err (Short (length l)))
  unfolding answer_of
  handed-short = hands-short answer_of l

  pub handed-long : length l ≤ length old → new ≡ l ++ drop (length l) old → HandedAs (given l) old new (Ok (length l))
  unfolding answer_of
  handed-long = hands-long answer_of l
