-- Laws of verdicts. Assumes nothing.
--     refused-passed, passed-refused, passed-is   a verdict refuses or passes
--     both-pass, pass-both, which-refused         what it says that two in order pass or refuse
--     and-on, and-stops, and-passed, and_assoc    two in order
--     unless-passed, .., unless-both              a test
use mathlib.Core.Path.{◌≡◌, refl}
use mathlib.Core.Logic.{◌↔◌, ◌⊎◌, inl, inr}
use mathlib.Core.Bool.{Bool, true, false, not, ◌&&◌, false≢true}
use Prim.Native.Nat.{ℕ}
use native.Mathlib.Omega.{arith}
use lib.Dec.{T, T_not, not_T}
use Rattle.refusals.specs.declared.Refusal.{Refusal}
use Rattle.std.specs.Prelude.{Ok, Err}
use Rattle.refusals.specs.Verdict.{Verdict, passes, is_passed, and_then, unless}

-- A verdict does not both refuse and pass.
pub refused-passed : {r : Refusal} {A : Type 0} → Err r ≡ passes → A
refused-passed e = let z : ◌≡◌ {A = ℕ} 0 1 = cc in absurd (omega arith)

pub passed-refused : {r : Refusal} {A : Type 0} → passes ≡ Err r → A
passed-refused e = let z : ◌≡◌ {A = ℕ} 0 1 = cc in absurd (omega arith)

pub passed-is : (v : Verdict) → is_passed v ≡ true → v ≡ passes
passed-is (Ok tt) h = refl
passed-is (Err r) h = absurd (false≢true h)

-- ---- Two verdicts in order
pub both-pass : (v w : Verdict) → and_then v w ≡ passes → (v ≡ passes) × (w ≡ passes)
both-pass (Ok tt) w e = (refl, e)
both-pass (Err r) w e = refused-passed e

pub pass-both : (v w : Verdict) → v ≡ passes → w ≡ passes → and_then v w ≡ passes
pass-both v w d e = rw d e

pub which-refused : (v w : Verdict) {r : Refusal} → and_then v w ≡ Err r → (v ≡ Err r) ⊎ ((v ≡ passes) × (w ≡ Err r))
which-refused (Ok tt) w e = inr (refl, e)
which-refused (Err s) w e = inl e

pub and-on : (v w : Verdict) → is_passed v ≡ true → and_then v w ≡ w
and-on v w h = rw h

pub and-stops : (v w : Verdict) → is_passed v ≡ false → and_then v w ≡ v
and-stops v w h = rw h

pub and-passed : (v : Verdict) → and_then v passes ≡ v
and-passed (Ok tt) = refl
and-passed (Err r) = refl

pub and_assoc : (u v w : Verdict) → and_then u (and_then v w) ≡ and_then (and_then u v) w
and_assoc (Ok tt) v w = refl
and_assoc (Err r) v w = refl

-- ---- A test
pub unless-passed : (t : Bool) (r : Refusal) → unless t r ≡ passes → T t
unless-passed true r e = tt
unless-passed false r e = refused-passed e

pub passed-unless : (t : Bool) (r : Refusal) → T t → unless t r ≡ passes
passed-unless true r h = refl
passed-unless false r h = absurd h

pub unless-refused : (t : Bool) (r : Refusal) {s : Refusal} → unless t r ≡ Err s → (T t → ⊥) × (s ≡ r)
unless-refused true r e = passed-refused e
unless-refused false r e = (λ h. h, cc)

pub unless-both : (a b : Bool) (r : Refusal) → unless (a && b) r ≡ and_then (unless a r) (unless b r)
unless-both true b r = refl
unless-both false b r = refl

-- A test that has to fail.
pub not-says : (b : Bool) → T (not b) ↔ (T b → ⊥)
not-says b = (T_not b, not_T b)

pub fails-not : (b : Bool) → (T (not b) → ⊥) → T b
fails-not true h = tt
fails-not false h = h tt
