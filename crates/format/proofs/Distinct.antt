-- Laws of lists without repeats, and of lists in order. Assumes nothing.
--     distinct-head, ..     lists in which no element stands twice
--     pigeonhole            distinct elements of a list are at most as many as the list has
--     ascends-distinct      numbers in order stand once
--     ascends-unique        they are settled by what the list holds
use mathlib.Core.Path.{◌≡◌, refl, sym, ap, ap₂, ◌∙◌}
use mathlib.Core.Logic.{◌↔◌, ◌⊎◌, inl, inr, ⊎_elim}
use mathlib.Core.List.Memᴰ
use mathlib.Core.List.{List, [], ◌∷◌, ◌++◌, Memᴰ}
use Prim.Native.Nat.{ℕ, suc, ◌≤◌, ◌<◌}
use native.Mathlib.Omega.{arith}
use lib.ListN.{length}
use Rattle.format.specs.Distinct.{Distinct, none, more, Ascends}

-- ---- Lists in which no element stands twice
module _ {A : Type 0} where
  pub distinct-head : {a : A} {l : List A} → Distinct (a ∷ l) → Memᴰ a l → ⊥
  distinct-head (more h d) = h

  pub distinct-tail : {a : A} {l : List A} → Distinct (a ∷ l) → Distinct l
  distinct-tail (more h d) = d

  pub distinct-append : {xs : List A} → Distinct xs → (ys : List A) → Distinct ys → ((a : A) → Memᴰ a xs → Memᴰ a ys → ⊥) → Distinct (xs ++ ys)
  distinct-append none ys d apart = d
  distinct-append (more {a = a} {l = l} h e) ys d apart =
      more (λ m. ⊎_elim h (apart a (Memᴰ.head refl)) (Memᴰ.append_cases l m)) (distinct-append e ys d (λ b m. apart b (Memᴰ.tail m)))

  -- a list without one of its elements
  without : {a : A} {l : List A} → Memᴰ a l → List A
  without (Memᴰ.head {xs = xs} e) = xs
  without (Memᴰ.tail {x = x} m) = x ∷ without m

  without-length : {a : A} {l : List A} (m : Memᴰ a l) → length l ≡ suc (length (without m))
  unfolding without
  without-length (Memᴰ.head e) = refl
  without-length (Memᴰ.tail m) = ap suc (without-length m)

  without-keeps : {a b : A} {l : List A} (m : Memᴰ a l) → Memᴰ b l → (b ≡ a) ⊎ Memᴰ b (without m)
  unfolding without
  without-keeps (Memᴰ.head e) i = elim (Memᴰ.cases_cons i) [ inl f ↦ inl (f ∙ sym e) | inr j ↦ inr j ]
  without-keeps {a} {b} (Memᴰ.tail {x = x} {xs = xs} m) i = go (Memᴰ.cases_cons i) (λ (j : Memᴰ b xs). without-keeps m j)
    where
      go : (b ≡ x) ⊎ Memᴰ b xs → (Memᴰ b xs → (b ≡ a) ⊎ Memᴰ b (without m)) → (b ≡ a) ⊎ Memᴰ b (x ∷ without m)
      go (inl e) below = inr (Memᴰ.head e)
      go (inr j) below = elim (below j) [ inl e ↦ inl e | inr k ↦ inr (Memᴰ.tail k) ]

  pub pigeonhole : {xs : List A} → Distinct xs → (ys : List A) → ((a : A) → Memᴰ a xs → Memᴰ a ys) → length xs ≤ length ys
  pigeonhole none ys h = omega arith
  pigeonhole (more {a = a} {l = l} n d) ys h = omega (arith, pigeonhole d (without first) others, without-length first)
    where
      first : Memᴰ a ys
      first = h a (Memᴰ.head refl)

      others : (b : A) → Memᴰ b l → Memᴰ b (without first)
      others b i = ⊎_elim (λ (e : b ≡ a). absurd (n (Memᴰ.cast (sym e) i))) (λ j. j) (without-keeps first (h b (Memᴰ.tail i)))

-- ---- Numbers in order
pub ascends-distinct : (l : List ℕ) → Ascends l → Distinct l
ascends-distinct [] a = none
ascends-distinct (n ∷ l) a = more (λ i. let z = a.0 n i in omega arith) (ascends-distinct l a.1)

-- The list is settled by what it holds.
pub ascends-unique : (l k : List ℕ) → Ascends l → Ascends k → ((n : ℕ) → Memᴰ n l ↔ Memᴰ n k) → l ≡ k
ascends-unique [] [] a b same = refl
ascends-unique [] (y ∷ k) a b same = absurd (Memᴰ.not-nil ((same y).1 (Memᴰ.head refl)))
ascends-unique (x ∷ l) [] a b same = absurd (Memᴰ.not-nil ((same x).0 (Memᴰ.head refl)))
ascends-unique (x ∷ l) (y ∷ k) a b same =
    ap₂ ◌∷◌ heads (ascends-unique l k a.1 b.1 (λ n. (
      λ i. rest k n (a.0 n i) heads (Memᴰ.cases_cons ((same n).0 (Memᴰ.tail i))),
      λ i. rest l n (b.0 n i) (sym heads) (Memᴰ.cases_cons ((same n).1 (Memᴰ.tail i))),
    )))
  where
    heads : x ≡ y
    heads = elim (Memᴰ.cases_cons ((same x).0 (Memᴰ.head refl))) [
      | inl e ↦ e
      | inr i ↦ elim (Memᴰ.cases_cons ((same y).1 (Memᴰ.head refl))) [ inl e ↦ sym e | inr j ↦ let z : ⊥ = omega (arith, b.0 x i, a.0 y j) in absurd z ]
    ]

    rest : {u v : ℕ} (m : List ℕ) (n : ℕ) → u < n → u ≡ v → (n ≡ v) ⊎ Memᴰ n m → Memᴰ n m
    rest m n h e (inl q) = let z : ⊥ = omega arith in absurd z
    rest m n h e (inr i) = i
