-- Laws of outcomes. Assumes nothing.
--     given-refused, same-given, same-refusal    what equal outcomes tell
--     fit-said, fit-given                        an outcome in so many places
--     after-passed, after-stops, ..              an outcome that follows a verdict
use mathlib.Core.Path.{◌≡◌, refl}
use mathlib.Core.Logic.{◌⊎◌, inl, inr}
use mathlib.Core.Bool.{Bool, true, false, cond}
use mathlib.Core.List.{List}
use Prim.Native.Nat.{ℕ}
use native.Mathlib.Omega.{arith}
use lib.Dec.{leb}
use lib.ListN.{length}
use Rattle.refusals.specs.declared.Refusal.{Refusal}
use Rattle.refusals.specs.declared.Refusal.TheVariants.{Short}
use Rattle.std.specs.Prelude.{Ok, Err}
use Rattle.refusals.specs.Verdict.{Verdict, passes}
use Rattle.refusals.specs.Outcome.{Outcome, refused, given, after, fit}

pub given-refused : {A B : Type 0} {l : B} {r : Refusal} → ◌≡◌ {A = Outcome B} (refused r) (given l) → A
given-refused e = let z : ◌≡◌ {A = ℕ} 0 1 = cc in absurd (omega arith)

pub same-given : {A : Type 0} {x y : A} → ◌≡◌ {A = Outcome A} (given x) (given y) → x ≡ y
same-given e = cc

pub same-refusal : {A : Type 0} {r s : Refusal} → ◌≡◌ {A = Outcome A} (refused r) (refused s) → r ≡ s
same-refusal e = cc

-- ---- After a verdict
pub after-passed : {A : Type 0} (v : Verdict) (o : Outcome A) → v ≡ passes → after v o ≡ o
unfolding after
after-passed v o e = rw e

pub after-stops : {A : Type 0} (v : Verdict) (o : Outcome A) {r : Refusal} → v ≡ Err r → after v o ≡ refused r
unfolding after
after-stops v o e = rw e

pub after-given : {A : Type 0} (v : Verdict) (o : Outcome A) {l : A} → after v o ≡ given l → (v ≡ passes) × (o ≡ given l)
unfolding after
after-given (Ok tt) o e = (refl, e)
after-given (Err r) o e = given-refused e

pub after-refused : {A : Type 0} (v : Verdict) (o : Outcome A) {r : Refusal} → after v o ≡ refused r → (v ≡ Err r) ⊎ ((v ≡ passes) × (o ≡ refused r))
unfolding after
after-refused (Ok tt) o e = inr (refl, e)
after-refused (Err s) o e = inl cc

-- ---- In so many places
module _ {A : Type 0} where
  -- what is said other than that the list is short
  pub fit-said : (places : ℕ) (o : Outcome (List A)) {x : Outcome (List A)} → ((k : ℕ) → refused (Short k) ≡ x → ⊥) → fit places o ≡ x → o ≡ x
  unfolding fit
  fit-said places (refused r) long e = e
  fit-said places (given k) {x} long e = look (leb (length k) places) e
    where
      look : (c : Bool) → cond c (given k) (refused (Short (length k))) ≡ x → given k ≡ x
      look true e = e
      look false e = absurd (long (length k) e)

  pub fit-given : (places : ℕ) (o : Outcome (List A)) {l : List A} → fit places o ≡ given l → o ≡ given l
  fit-given places o = fit-said places o (λ k e. let z : ◌≡◌ {A = ℕ} 0 1 = cc in omega arith)
