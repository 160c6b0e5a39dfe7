-- Laws of `counts`. Assumes nothing.
--     counts-same, counts-less     two tests that agree, and two that differ in one element
--     counts-none, none-counts     no element passes
--     left-less, left-more, ..     the entries of a table that are no 0
use mathlib.Core.Path.{◌≡◌, refl, sym, ap, ◌∙◌}
use mathlib.Core.Logic.{◌⊎◌, inl, inr}
use mathlib.Core.Bool.{Bool, true, false, cond}
use mathlib.Core.List.Memᴰ
use mathlib.Core.List.{List, [], ◌∷◌, Memᴰ}
use Prim.Native.Nat.{ℕ, zero, suc, ◌+◌, ◌≤◌, ◌<◌}
use native.Mathlib.Decide.{ℕ_discrete}
use native.Mathlib.Omega.{arith}
use borrow.Author.Tests.{ne_eqb}
use lib.ListN.{length, get_or, set, replicate}
use Rattle.format.specs.Distinct.{Distinct}
use Rattle.format.proofs.Distinct.{distinct-head, distinct-tail}
use Rattle.inhabitants.specs.Waiting.{counts, some_left}

module _ (p q : ℕ → Bool) where
  pub counts-same : (l : List ℕ) → ((n : ℕ) → Memᴰ n l → p n ≡ q n) → counts p l ≡ counts q l
  unfolding counts
  counts-same [] h = refl
  counts-same (n ∷ l) h = rw (h n (Memᴰ.head refl), counts-same l (λ m i. h m (Memᴰ.tail i))) refl

  -- the one element that passes by p and not by q
  pub counts-less : (l : List ℕ) → Distinct l → (x : ℕ) → Memᴰ x l → p x ≡ true → q x ≡ false → ((n : ℕ) → (n ≡ x → ⊥) → p n ≡ q n) → suc (counts q l) ≡ counts p l
  unfolding counts
  counts-less [] u x i y z h = absurd (Memᴰ.not-nil i)
  counts-less (n ∷ l) u x i y z h = go (ℕ_discrete n x) (Memᴰ.cases_cons i) (counts-less l (distinct-tail u) x)
    where
      go : Dec (n ≡ x) → (x ≡ n) ⊎ Memᴰ x l → (Memᴰ x l → p x ≡ true → q x ≡ false → ((m : ℕ) → (m ≡ x → ⊥) → p m ≡ q m) → suc (counts q l) ≡ counts p l)
          → suc (cond (q n) (suc (counts q l)) (counts q l)) ≡ cond (p n) (suc (counts p l)) (counts p l)
      go (yes e) c ih =
          rw (ap p e ∙ y, ap q e ∙ z)
          (ap suc (sym (counts-same l (λ m j. h m (λ f. distinct-head u (Memᴰ.cast (sym (f ∙ sym e)) j))))))
      go (no d) (inl e) ih = absurd (d (sym e))
      go (no d) (inr j) ih = rw (h n d) (step (q n) (ih j y z h))
        where
          step : (b : Bool) → suc (counts q l) ≡ counts p l → suc (cond b (suc (counts q l)) (counts q l)) ≡ cond b (suc (counts p l)) (counts p l)
          step true e = ap suc e
          step false e = e

module _ (p : ℕ → Bool) where
  pub counts-none : (l : List ℕ) → counts p l ≡ 0 → (n : ℕ) → Memᴰ n l → p n ≡ false
  unfolding counts
  counts-none [] e n i = absurd (Memᴰ.not-nil i)
  counts-none (m ∷ l) e n i = go (p m) refl e (Memᴰ.cases_cons i) (λ k. counts-none l k n)
    where
      go : (b : Bool) → p m ≡ b → cond b (suc (counts p l)) (counts p l) ≡ 0 → (n ≡ m) ⊎ Memᴰ n l → (counts p l ≡ 0 → Memᴰ n l → p n ≡ false) → p n ≡ false
      go true s k c ih = let z : ⊥ = omega (arith, k) in absurd z
      go false s k (inl f) ih = ap p f ∙ s
      go false s k (inr j) ih = ih k j

  -- none passes
  pub none-counts : (l : List ℕ) → ((n : ℕ) → Memᴰ n l → p n ≡ false) → counts p l ≡ 0
  unfolding counts
  none-counts [] h = refl
  none-counts (n ∷ l) h = rw (h n (Memᴰ.head refl)) (none-counts l (λ m i. h m (Memᴰ.tail i)))

-- ---- The entries that are no 0
one : ℕ → ℕ
one x = cond (some_left x) 1 0

left-cons : (x : ℕ) (l : List ℕ) → counts some_left (x ∷ l) ≡ one x + counts some_left l
unfolding counts one
left-cons x l = go (some_left x)
  where
    go : (b : Bool) → cond b (suc (counts some_left l)) (counts some_left l) ≡ cond b 1 0 + counts some_left l
    go true = omega arith
    go false = omega arith

left-put : (l : List ℕ) (n v : ℕ) → n < length l → counts some_left (set l n v) + one (get_or l n 0) ≡ counts some_left l + one v
left-put [] n v h = absurd (omega arith)
left-put (x ∷ l) zero v h = omega (arith, left-cons x l, left-cons v l)
left-put (x ∷ l) (suc n) v h = omega (arith, left-cons x l, left-cons x (set l n v), left-put l n v (omega arith))

one-none : one 0 ≡ 0
unfolding one
one-none = refl

one-some : (x : ℕ) → (x ≡ 0 → ⊥) → one x ≡ 1
unfolding one
one-some x h = rw (ne_eqb x 0 h) refl

module _ (l : List ℕ) (n v : ℕ) (h : n < length l) (some : get_or l n 0 ≡ 0 → ⊥) where
  -- an entry becomes 0
  pub left-less : v ≡ 0 → suc (counts some_left (set l n v)) ≡ counts some_left l
  left-less e = omega (arith, left-put l n v h, one-some (get_or l n 0) some, ap one e, one-none)

  pub left-same : (v ≡ 0 → ⊥) → counts some_left (set l n v) ≡ counts some_left l
  left-same e = omega (arith, left-put l n v h, one-some (get_or l n 0) some, one-some v e)

-- a 0 becomes none
pub left-more : (l : List ℕ) (n v : ℕ) → n < length l → get_or l n 0 ≡ 0 → (v ≡ 0 → ⊥) → counts some_left (set l n v) ≡ suc (counts some_left l)
left-more l n v h e d = omega (arith, left-put l n v h, ap one e, one-none, one-some v d)

-- where all are 0
pub left-none : (k : ℕ) → counts some_left (replicate k 0) ≡ 0
unfolding counts
left-none zero = refl
left-none (suc k) = left-none k

-- an entry that is no 0 counts
pub left-some : (l : List ℕ) (n : ℕ) → n < length l → (get_or l n 0 ≡ 0 → ⊥) → 1 ≤ counts some_left l
left-some l n h some = omega (arith, left-less l n 0 h some refl)
