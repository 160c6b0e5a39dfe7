-- Laws of numbers of values, of which those above 4,294,967,295 are cut off at one more. Assumes nothing.
--     capped-small, capped-many      a number that is not many, one that is
--     capped-or, capped-most         one of the two; none is more
--     capped-same                    what is cut off stays
--     capped-exact, capped-above     what a number is, if it is cut off to one that is not many, or that is
--     capped-some                    0 comes of 0 alone
--     capped-add, capped-mul         a sum and a product, step by step
use mathlib.Core.Path.{◌≡◌, sym, ap, ◌∙◌}
use mathlib.Core.Logic.{◌⊎◌, inl, inr}
use Prim.Native.Nat.{ℕ, ◌+◌, ◌*◌, ◌≤◌, ◌<◌}
use native.Mathlib.Decide.{ℕ_discrete, dec_lt}
use native.Mathlib.Omega.{arith}
use Rattle.std.proofs.Math.Nat.{le-mul_of_pos_right}
use Rattle.listing.specs.Values.{capped}

pub capped-small : (n : ℕ) → n < 4294967296 → capped n ≡ n
unfolding capped
capped-small n h = grind arith

pub capped-many : (n : ℕ) → 4294967296 ≤ n → capped n ≡ 4294967296
unfolding capped
capped-many n h = grind arith

pub capped-or : (n : ℕ) → ((n < 4294967296) × (capped n ≡ n)) ⊎ ((4294967296 ≤ n) × (capped n ≡ 4294967296))
capped-or n = go (dec_lt n 4294967296)
  where
    go : Dec (n < 4294967296) → ((n < 4294967296) × (capped n ≡ n)) ⊎ ((4294967296 ≤ n) × (capped n ≡ 4294967296))
    go (yes h) = inl (h, capped-small n h)
    go (no h) = inr (omega arith, capped-many n (omega arith))

pub capped-most : (n : ℕ) → capped n ≤ 4294967296
unfolding capped
capped-most n = grind arith

pub capped-same : (n : ℕ) → n ≤ 4294967296 → capped n ≡ n
capped-same n h = elim (capped-or n) [ inl x ↦ x.1 | inr x ↦ x.1 ∙ omega (arith, x.0) ]

pub capped-exact : (n : ℕ) → capped n ≤ 4294967295 → capped n ≡ n
unfolding capped
capped-exact n h = grind arith

pub capped-above : (n : ℕ) → 4294967295 < capped n → 4294967295 < n
unfolding capped
capped-above n h = grind arith

pub capped-some : (n : ℕ) → 0 < capped n → 0 < n
unfolding capped
capped-some n h = grind arith

pub capped-add : (a b : ℕ) → capped (capped a + b) ≡ capped (a + b)
capped-add a b = elim (capped-or a) [
  | inl h ↦ ap (λ (x : ℕ). capped (x + b)) h.1
  | inr h ↦ capped-many (capped a + b) (omega (arith, h.1)) ∙ sym (capped-many (a + b) (omega (arith, h.0)))
]

pub capped-mul : (a b : ℕ) → capped (capped a * b) ≡ capped (a * b)
capped-mul a b = elim (capped-or a) [
  | inl h ↦ ap (λ (x : ℕ). capped (x * b)) h.1
  | inr h ↦ go h (ℕ_discrete b 0)
]
  where
    go : (4294967296 ≤ a) × (capped a ≡ 4294967296) → Dec (b ≡ 0) → capped (capped a * b) ≡ capped (a * b)
    go h (yes e) = rw e (ap capped (none (capped a) ∙ sym (none a)))
      where
        none : (n : ℕ) → n * 0 ≡ 0
        none n = omega arith
    go h (no e) =
        capped-many (capped a * b) (omega (arith, h.1, le-mul_of_pos_right {m = b} (capped a) (omega arith)))
        ∙ sym (capped-many (a * b) (omega (arith, h.0, le-mul_of_pos_right {m = b} a (omega arith))))
