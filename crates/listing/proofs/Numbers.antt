-- How many there are of which a statement holds: laws of `Number`. Assumes nothing.
--     number-none, number-only    none, and one
--     number-same, number-unique  of the same ones there are as many, and there is one number
--     number-least                a list that holds all is at least so long
--     number-image                what different ones are made to
--     number-either, number-both  those of either of two statements that never hold of one, and pairs
--     number-below                numbers below n
use mathlib.Core.Path.{◌≡◌, refl, sym, ap, subst, ◌∙◌}
use mathlib.Core.Logic.{◌↔◌, ◌⊎◌, inl, inr}
use mathlib.Core.List.Memᴰ
use mathlib.Core.List.{List, [], ◌∷◌, ◌++◌, map, Memᴰ}
use Prim.Native.Nat.{ℕ, zero, suc, ◌+◌, ◌*◌, ◌≤◌, ◌<◌}
use native.Mathlib.Nat.{zero-mul, suc-mul, eq-or-lt_of_le, le_of_suc-le-suc}
use native.Mathlib.Numerals.{add-one}
use native.Mathlib.Omega.{arith}
use lib.ListN.{length, length-map, length-append}
use Rattle.format.specs.Distinct.{Distinct, none, more}
use Rattle.format.proofs.Distinct.{distinct-append, pigeonhole}
use Rattle.listing.specs.Values.{Number}

module _ {A : Type 0} {P : A → Type 0} where
  pub number-none : ((a : A) → P a → ⊥) → Number P 0
  number-none h = record { values = []; different = none; so_many = refl; just = (λ a i. absurd (Memᴰ.not-nil i), λ a p. absurd (h a p)) }

  pub number-only : (a : A) → P a → ((b : A) → P b → b ≡ a) → Number P 1
  number-only a p h = record {
    values = a ∷ [];
    different = more Memᴰ.not-nil none;
    so_many = refl;
    just = (λ b i. subst P (sym (Memᴰ.eq_of_singleton i)) p, λ b q. Memᴰ.head (h b q));
  }

  pub number-zero : Number P 0 → (a : A) → P a → ⊥
  number-zero x a p = go x.values x.so_many (x.just.1 a p)
    where
      go : (l : List A) → length l ≡ 0 → Memᴰ a l → ⊥
      go [] e i = Memᴰ.not-nil i
      go (b ∷ l) e i = omega arith

  pub number-some : {n : ℕ} → Number P n → 0 < n → (a : A) × P a
  number-some {n} x h = go x.values x.so_many x.just.0
    where
      go : (l : List A) → length l ≡ n → ((a : A) → Memᴰ a l → P a) → (a : A) × P a
      go [] e j = let z : ⊥ = omega arith in absurd z
      go (a ∷ l) e j = (a, j a (Memᴰ.head refl))

  pub number-same : {Q : A → Type 0} {n : ℕ} → ((a : A) → P a ↔ Q a) → Number P n → Number Q n
  number-same h x = record {
    values = x.values;
    different = x.different;
    so_many = x.so_many;
    just = (λ a i. (h a).0 (x.just.0 a i), λ a q. x.just.1 a ((h a).1 q));
  }

  -- A list that holds all is at least so long.
  pub number-least : {n : ℕ} → Number P n → (l : List A) → ((a : A) → P a → Memᴰ a l) → n ≤ length l
  number-least x l h = omega (arith, pigeonhole x.different l (λ a i. h a (x.just.0 a i)), x.so_many)

  pub number-unique : {m n : ℕ} → Number P m → Number P n → m ≡ n
  number-unique x y = omega (arith, number-least x y.values y.just.1, number-least y x.values x.just.1, x.so_many, y.so_many)

-- ---- What others are made to
abbrev pub Image : {A B : Type 0} → (A → B) → (A → Type 0) → B → Type 0
Image {A} f P b = (a : A) × P a × (f a ≡ b)

module _ {A B : Type 0} (f : A → B) (apart : (a b : A) → f a ≡ f b → a ≡ b) where
  distinct-map : {l : List A} → Distinct l → Distinct (map f l)
  distinct-map none = none
  distinct-map (more {a = a} {l = l} h d) = more (λ i. let b = Memᴰ.of_map f l i in h (Memᴰ.cast (apart a b.0 (sym b.2)) b.1)) (distinct-map d)

  pub number-image : {P : A → Type 0} {n : ℕ} → Number P n → Number (Image f P) n
  number-image x = record {
    values = map f x.values;
    different = distinct-map x.different;
    so_many = length-map x.values f ∙ x.so_many;
    just = (
      λ b i. let a = Memᴰ.of_map f x.values i in (a.0, x.just.0 a.0 a.1, a.2),
      λ b p. Memᴰ.cast (sym p.2) (Memᴰ.map f (x.just.1 p.0 p.1)),
    );
  }

-- ---- Of two statements
pub number-either : {A : Type 0} {P Q : A → Type 0} {m n : ℕ} → ((a : A) → P a → Q a → ⊥) → Number P m → Number Q n →
    Number (λ a. P a ⊎ Q a) (m + n)
number-either apart x y = record {
  values = x.values ++ y.values;
  different = distinct-append x.different y.values y.different (λ a i j. apart a (x.just.0 a i) (y.just.0 a j));
  so_many = omega (arith, length-append x.values y.values, x.so_many, y.so_many);
  just = (
    λ a i. elim (Memᴰ.append_cases x.values i) [ inl j ↦ inl (x.just.0 a j) | inr j ↦ inr (y.just.0 a j) ],
    λ a p. elim p [ inl p ↦ Memᴰ.append_left y.values (x.just.1 a p) | inr q ↦ Memᴰ.append_right x.values (y.just.1 a q) ],
  );
}

-- Pairs: each of the first list stands beside all of the second.
module _ {A B : Type 0} {Q : B → Type 0} {n : ℕ} (y : Number Q n) where
  abbrev Beside : List A → A × B → Type 0
  Beside l p = Memᴰ p.0 l × Q p.1

  -- those of the first of the list, and those of the others
  of-parts : {a : A} {l : List A} (p : A × B) → Beside l p ⊎ Image (λ b. (a, b)) Q p ↔ Beside (a ∷ l) p
  of-parts p = (
    elim [ inl q ↦ (Memᴰ.tail q.0, q.1) | inr b ↦ (Memᴰ.head (ap (λ r. r.0) (sym b.2)), subst (λ r. Q r.1) b.2 b.1) ],
    λ q. elim (Memᴰ.cases_cons q.0) [ inl e ↦ inr (p.1, q.1, ap (λ a. (a, p.1)) (sym e)) | inr i ↦ inl (i, q.1) ],
  )

  listed-both : {l : List A} → Distinct l → Number (Beside l) (length l * n)
  listed-both none = rw zero-mul (number-none (λ p q. Memᴰ.not-nil q.0))
  listed-both (more {a = a} {l = l} h d) =
      rw suc-mul
      (number-same of-parts
      (number-either (λ p q b. h (Memᴰ.cast (ap (λ r. r.0) b.2) q.0)) (listed-both d) (number-image (λ b. (a, b)) (λ b c e. ap (λ r. r.1) e) y)))

  pub number-both : {P : A → Type 0} {m : ℕ} → Number P m → Number (λ (p : A × B). P p.0 × Q p.1) (m * n)
  number-both x =
      rw (← x.so_many) (number-same (λ p. (λ q. (x.just.0 p.0 q.0, q.1), λ q. (x.just.1 p.0 q.0, q.1))) (listed-both x.different))

-- ---- Numbers
pub number-below : (n : ℕ) → Number (λ i. i < n) n
number-below zero = number-none (λ i h. omega arith)
number-below (suc n) =
    subst (Number (λ i. i < suc n)) (add-one n)
    (number-same (λ i. (elim [ inl h ↦ omega arith | inr e ↦ omega arith ], λ h. split (eq-or-lt_of_le (le_of_suc-le-suc h))))
    (number-either (λ i h e. omega arith) (number-below n) (number-only n refl (λ i e. e))))
  where
    split : {i : ℕ} → (i ≡ n) ⊎ (i < n) → (i < n) ⊎ (i ≡ n)
    split (inl e) = inr e
    split (inr h) = inl h
