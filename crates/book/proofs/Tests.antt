-- The tests of rows and names, step by step as code makes them. Assumes nothing.
use mathlib.Core.Path.{◌≡◌, refl, sym}
use mathlib.Core.Bool.{or-false}
use mathlib.Core.List.{List, [], ◌∷◌}
use Prim.Native.Nat.{ℕ, zero, suc, ◌+◌, ◌-◌, ◌/◌, ◌%◌, ◌≤◌, ◌<◌, min}
use native.Mathlib.Omega.{arith}
use borrow.Author.Tests.{lt-ltb, le-ltb, eq-eqb, ne_eqb}
use lib.Dec.{ltb, eqb}
use lib.ListN.{length}
use Rattle.format.specs.Fits.{before}
use Rattle.format.specs.Rules.{good_modes}

-- ---- modes
pub modes_none : (k m : ℕ) → k ≤ 0 → good_modes k m ≡ eqb m 0
unfolding good_modes
modes_none zero m h = refl
modes_none (suc k) m h = absurd (omega arith)

pub modes_stop : (k m : ℕ) → 0 < k → m % 4 ≡ 0 → good_modes k m ≡ eqb m 0
unfolding good_modes
modes_stop zero m h e = absurd (omega arith)
modes_stop (suc k) m h e = rw e

pub modes_on : (k m : ℕ) → 0 < k → (m % 4 ≡ 0 → ⊥) → good_modes k m ≡ good_modes (k - 1) (m / 4)
unfolding good_modes
modes_on zero m h n = absurd (omega arith)
modes_on (suc k) m h n = let e : suc k - 1 ≡ k = omega arith in rw (ne_eqb _ _ n, e)

-- ---- names: what is left of both is compared
pub before-differs : (x y : ℕ) (a b : List ℕ) → (x ≡ y → ⊥) → ltb x y ≡ before (x ∷ a) (y ∷ b)
unfolding before
before-differs x y a b n = sym (rw (ne_eqb _ _ n) (or-false _))

pub before-on : (x y : ℕ) (a b : List ℕ) → x ≡ y → before a b ≡ before (x ∷ a) (y ∷ b)
unfolding before
before-on x y a b e = sym (rw (le-ltb x y (omega arith), eq-eqb _ _ e))

-- and where one is at its end, by the lengths m and n of all of both
pub before-ends : (a b : List ℕ) (m n : ℕ) → min (length a) (length b) ≤ 0 → m + length b ≡ n + length a → ltb m n ≡ before a b
unfolding before
before-ends [] [] m n h e = le-ltb _ _ (omega arith)
before-ends [] (y ∷ ys) m n h e = lt-ltb _ _ (omega arith)
before-ends (x ∷ xs) [] m n h e = le-ltb _ _ (omega arith)
before-ends (x ∷ xs) (y ∷ ys) m n h e = absurd (omega arith)
