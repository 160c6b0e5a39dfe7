-- The verdict of a function's modes by the digits of its value. Assumes nothing.
use mathlib.Core.Path.{◌≡◌}
use mathlib.Core.Bool.{true, false}
use mathlib.Core.List.{List, [], ◌∷◌}
use Prim.Native.Nat.{ℕ, ◌/◌, ◌%◌, ◌≤◌, ◌<◌}
use native.Mathlib.Decide.{ℕ_discrete}
use native.Mathlib.Omega.{arith}
use borrow.Author.Tests.{ne_eqb, lt-ltb, le-ltb}
use Rattle.format.specs.Node.{FuncMode}
use Rattle.format.specs.Layout.{mode_of, modes_of}
use Rattle.refusals.specs.declared.Refusal as refusal
use Rattle.std.specs.Prelude.{Err}
use Rattle.refusals.specs.Verdict.{passes}
use Rattle.judgement.specs.Check.{is_oneway, modes_verdict}
use Rattle.typing.specs.Walk.{value_verdict}

-- ---- the modes by the first two digits
modes-zero : (m : ℕ) → m % 4 ≡ 0 → modes_of 8 m ≡ []
unfolding modes_of
modes-zero m h = rw h

modes-one : (m : ℕ) → (m % 4 ≡ 0 → ⊥) → m / 4 % 4 ≡ 0 → modes_of 8 m ≡ mode_of (m % 4) ∷ []
unfolding modes_of
modes-one m h z = rw (ne_eqb (m % 4) 0 h, z)

modes-more : (m : ℕ) → (m % 4 ≡ 0 → ⊥) → (m / 4 % 4 ≡ 0 → ⊥) → (l : List FuncMode) × (modes_of 8 m ≡ mode_of (m % 4) ∷ (mode_of (m / 4 % 4) ∷ l))
unfolding modes_of
modes-more m h z = (modes_of 6 (m / 4 / 4), rw (ne_eqb (m % 4) 0 h, ne_eqb (m / 4 % 4) 0 z))

oneway-digit : (d : ℕ) → d ≡ 1 → is_oneway (mode_of d) ≡ true
unfolding is_oneway mode_of
oneway-digit d e = rw e

other-digit : (d : ℕ) → d < 4 → (d ≡ 0 → ⊥) → (d ≡ 1 → ⊥) → is_oneway (mode_of d) ≡ false
unfolding is_oneway mode_of
other-digit d h a b = go (ℕ_discrete d 2)
  where
    go : Dec (d ≡ 2) → is_oneway (mode_of d) ≡ false
    go (yes e) = rw e
    go (no n) = let e : d ≡ 3 = omega arith in rw e

module _ (value kids : ℕ) where
  pub no-mode : value / 65536 % 4 ≡ 0 → passes ≡ value_verdict value kids
  unfolding value_verdict modes_verdict
  no-mode h = rw (modes-zero (value / 65536) h)

  pub many-modes : (value / 65536 % 4 ≡ 0 → ⊥) → (value / 65536 / 4 % 4 ≡ 0 → ⊥) → Err refusal.Refusal.Modes ≡ value_verdict value kids
  unfolding value_verdict modes_verdict
  many-modes h z = rw (modes-more (value / 65536) h z).1

  pub other-mode : (value / 65536 % 4 ≡ 0 → ⊥) → value / 65536 / 4 % 4 ≡ 0 → (value / 65536 % 4 ≡ 1 → ⊥) → passes ≡ value_verdict value kids
  unfolding value_verdict modes_verdict
  other-mode h z o = rw (modes-one (value / 65536) h z, other-digit (value / 65536 % 4) (omega arith) h o)

  module _ (o : value / 65536 % 4 ≡ 1) (z : value / 65536 / 4 % 4 ≡ 0) where
    one : (value / 65536 % 4 ≡ 0 → ⊥)
    one e = let f : ⊥ = omega arith in f

    pub oneway-results : value % 65536 < kids → Err refusal.Refusal.Oneway ≡ value_verdict value kids
    unfolding value_verdict modes_verdict
    oneway-results h = rw (modes-one (value / 65536) one z, oneway-digit (value / 65536 % 4) o, lt-ltb _ _ h)

    pub oneway-none : kids ≤ value % 65536 → passes ≡ value_verdict value kids
    unfolding value_verdict modes_verdict
    oneway-none h = rw (modes-one (value / 65536) one z, oneway-digit (value / 65536 % 4) o, le-ltb _ _ h)
