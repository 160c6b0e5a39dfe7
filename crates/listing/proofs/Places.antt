-- Lists of names: what holds of each, and where a name stands first. Assumes nothing.
--     nil-all, one-all, snoc-all        what holds of each name of a list
--     snoc-distinct                     one more at the end
--     place, place-in, place-left, ..   where a name stands first
--     earlier-place, place-earlier      one name stands earlier than another
use mathlib.Core.Path.{◌≡◌, refl, sym, ap, subst}
use mathlib.Core.Logic.{◌⊎◌, inl, inr, ite, if_pos, if_neg, ⊎_elim}
use mathlib.Core.List.Memᴰ
use mathlib.Core.List.{List, [], ◌∷◌, ◌++◌, Memᴰ}
use Prim.Native.Nat.{ℕ, suc, ◌+◌, ◌≤◌, ◌<◌}
use native.Mathlib.Decide.{ℕ_discrete}
use native.Mathlib.Omega.{arith}
use lib.ListN.{length}
use Rattle.format.specs.Distinct.{Distinct, none, more}
use Rattle.format.proofs.Distinct.{distinct-append}
use Rattle.listing.specs.Demand3.{Earlier, now, later}

-- ---- What holds of each name of a list
pub nil-all : {A : Type 0} {x : ℕ} → Memᴰ x [] → A
nil-all i = absurd (Memᴰ.not-nil i)

pub one-all : (P : ℕ → Type 0) (n : ℕ) → P n → (x : ℕ) → Memᴰ x (n ∷ []) → P x
one-all P n p x i = subst P (sym (Memᴰ.eq_of_singleton i)) p

pub snoc-all : (P : ℕ → Type 0) (l : List ℕ) (n : ℕ) → ((x : ℕ) → Memᴰ x l → P x) → P n → (x : ℕ) → Memᴰ x (l ++ n ∷ []) → P x
snoc-all P l n h p x i = ⊎_elim (h x) (one-all P n p x) (Memᴰ.append_cases l i)

pub snoc-distinct : {l : List ℕ} {n : ℕ} → Distinct l → (Memᴰ n l → ⊥) → Distinct (l ++ n ∷ [])
snoc-distinct {n = n} d h = distinct-append d (n ∷ []) (more Memᴰ.not-nil none) (λ a i j. h (Memᴰ.cast (sym (Memᴰ.eq_of_singleton j)) i))

-- ---- Where a name stands first, counted from 0; the list's length where it does not stand there
unfoldable pub place : List ℕ → ℕ → ℕ
place [] x = 0
place (y ∷ l) x = ite (ℕ_discrete x y) 0 (suc (place l x))

pub place-in : {x : ℕ} (l : List ℕ) → Memᴰ x l → place l x < length l
unfolding place
place-in [] m = nil-all m
place-in {x} (y ∷ l) m = look (ℕ_discrete x y) (Memᴰ.cases_cons m) (place-in l)
  where
    look : (d : Dec (x ≡ y)) → (x ≡ y) ⊎ Memᴰ x l → (Memᴰ x l → place l x < length l) → ite d 0 (suc (place l x)) < suc (length l)
    look (yes e) m ih = omega arith
    look (no h) (inl e) ih = absurd (h e)
    look (no h) (inr m) ih = omega (arith, ih m)

pub in-place : {x : ℕ} (l : List ℕ) → place l x < length l → Memᴰ x l
unfolding place
in-place [] h = absurd (omega arith)
in-place {x} (y ∷ l) h = look (ℕ_discrete x y) h (in-place l)
  where
    look : (d : Dec (x ≡ y)) → ite d 0 (suc (place l x)) < suc (length l) → (place l x < length l → Memᴰ x l) → Memᴰ x (y ∷ l)
    look (yes e) h ih = Memᴰ.head e
    look (no k) h ih = Memᴰ.tail (ih (omega arith))

-- what stands before the seam keeps its place
pub place-left : (l r : List ℕ) (x : ℕ) → place l x < length l → place (l ++ r) x ≡ place l x
unfolding place
place-left [] r x h = absurd (omega arith)
place-left (y ∷ l) r x h = look (ℕ_discrete x y) h (place-left l r x)
  where
    look : (d : Dec (x ≡ y)) → ite d 0 (suc (place l x)) < suc (length l) → (place l x < length l → place (l ++ r) x ≡ place l x) →
        ite d 0 (suc (place (l ++ r) x)) ≡ ite d 0 (suc (place l x))
    look (yes e) h ih = refl
    look (no k) h ih = ap suc (ih (omega arith))

pub place-right : (l r : List ℕ) (x : ℕ) → (Memᴰ x l → ⊥) → place (l ++ r) x ≡ length l + place r x
unfolding place
place-right [] r x h = omega arith
place-right (y ∷ l) r x h = rw (if_neg (ℕ_discrete x y) (λ e. h (Memᴰ.head e))) (omega (arith, place-right l r x (λ m. h (Memᴰ.tail m))))

pub place-seam : (l r : List ℕ) (x : ℕ) → place (l ++ x ∷ r) x ≤ length l
unfolding place
place-seam [] r x = rw (if_pos (ℕ_discrete x x) refl) (omega arith)
place-seam (y ∷ l) r x = look (ℕ_discrete x y) (place-seam l r x)
  where
    look : (d : Dec (x ≡ y)) → place (l ++ x ∷ r) x ≤ length l → ite d 0 (suc (place (l ++ x ∷ r) x)) ≤ suc (length l)
    look (yes e) h = omega arith
    look (no k) h = omega arith

-- ---- Earlier in a list, by places
module _ {u n : ℕ} where
  pub earlier-one : {l : List ℕ} → Earlier u n l → Memᴰ u l
  earlier-one (now i) = Memᴰ.head refl
  earlier-one (later e) = Memᴰ.tail (earlier-one e)

  later-one : {l : List ℕ} → Earlier u n l → Memᴰ n l
  later-one (now i) = Memᴰ.tail i
  later-one (later e) = Memᴰ.tail (later-one e)

  pub earlier-place : {l : List ℕ} → Distinct l → Earlier u n l → place l u < place l n
  unfolding place
  earlier-place none x3 = elim x3 [ ]
  earlier-place (more new d) (now {l = l} i) =
      rw (if_pos (ℕ_discrete u u) refl, if_neg (ℕ_discrete n u) (λ e. new (Memᴰ.cast (sym e) i))) (omega arith)
  earlier-place (more new d) (later {m = m} {l = l} e) =
      rw (if_neg (ℕ_discrete u m) (λ q. new (Memᴰ.cast (sym q) (earlier-one e))), if_neg (ℕ_discrete n m) (λ q. new (Memᴰ.cast (sym q) (later-one e))))
      (omega (arith, earlier-place d e))

  pub place-earlier : (l : List ℕ) → Memᴰ u l → Memᴰ n l → place l u < place l n → Earlier u n l
  unfolding place
  place-earlier [] i j h = absurd (Memᴰ.not-nil i)
  place-earlier (y ∷ l) i j h = look (ℕ_discrete u y) (ℕ_discrete n y) (Memᴰ.cases_cons i) (Memᴰ.cases_cons j) h (place-earlier l)
    where
      look : (d : Dec (u ≡ y)) (c : Dec (n ≡ y)) → (u ≡ y) ⊎ Memᴰ u l → (n ≡ y) ⊎ Memᴰ n l → ite d 0 (suc (place l u)) < ite c 0 (suc (place l n)) →
          (Memᴰ u l → Memᴰ n l → place l u < place l n → Earlier u n l) → Earlier u n (y ∷ l)
      look (yes p) (yes q) i j h below = absurd (omega arith)
      look (yes p) (no k) i (inl q) h below = absurd (k q)
      look (yes p) (no k) i (inr j) h below = subst (λ (x : ℕ). Earlier u n (x ∷ l)) p (now j)
      look (no k) (yes q) i j h below = absurd (omega arith)
      look (no k) (no q) (inl p) j h below = absurd (k p)
      look (no k) (no q) (inr i) (inl p) h below = absurd (q p)
      look (no k) (no q) (inr i) (inr j) h below = later (below i j (omega arith))
