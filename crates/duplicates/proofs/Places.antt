-- Numbers that stand before a place, and lists without duplicates up to it. Assumes nothing.
--     stands-at, place-of           a number before a place stands at one of the places before it
--     distinct-one, distinct-on     the first place, and one more
--     contains-stands               what `contains` answers
--     sorted-distinct               what `is_sorted_by` answers, with each number below the next
--     found-first                   what `find` gives, over the places
use mathlib.Core.Bool.{false≢true}
use mathlib.Core.Logic.{◌⊎◌, inl, inr}
use mathlib.Core.Path.{◌≡◌, sym}
use mathlib.Core.List.Memᴰ
use mathlib.Core.List.{List, [], ◌∷◌, Memᴰ}
use Prim.Native.Nat.{ℕ, zero, suc, ◌+◌, ◌≤◌, ◌<◌}
use native.Mathlib.Numerals.{add-one, unary_clauses}
use native.Mathlib.Omega.{arith}
use borrow.Author.Tests.{ltb-true}
use lib.ListN.{length, get_or, take}
use lib.Seq.{take-suc, take-length}
use Rattle.std.specs.Bool.{Decides}
use Rattle.std.specs.List.{list_any, IsAllAdjacentAnswer}
use Rattle.std.specs.List.Sorted.{IsStrictlyIncreasing}
use Rattle.std.specs.Prelude.{Bool, true, false, Option, Some, None, MatchOption, ◌==◌, nat_lt}
use Rattle.std.proofs.lemmas.Bool.Decides.{Decides-eqb, Decides-or, Decides-like, not_from_Decides}
use Rattle.std.proofs.lemmas.List.Kept.{AllPairs-from_increasing}
use Rattle.format.specs.Distinct.{Distinct, none, more}
use Rattle.format.proofs.Distinct.{distinct-append}
use Rattle.duplicates.specs.Duplicate.{StandsBefore, FirstDuplicate}

pub stands-at : (ks : List ℕ) (n i : ℕ) {k : ℕ} → i < n → n ≤ length ks → get_or ks i 0 ≡ k → Memᴰ k (take n ks)
stands-at ks zero i h l e = absurd (omega arith)
stands-at [] (suc n) i h l e = absurd (omega arith)
stands-at (x ∷ ks) (suc n) zero h l e = Memᴰ.head (sym e)
stands-at (x ∷ ks) (suc n) (suc i) h l e = Memᴰ.tail (stands-at ks n i (omega arith) (omega arith) e)

pub place-of : (ks : List ℕ) (n : ℕ) {k : ℕ} → Memᴰ k (take n ks) → (i : ℕ) × (i < n) × (get_or ks i 0 ≡ k)
place-of ks zero m = absurd (Memᴰ.not-nil m)
place-of [] (suc n) m = absurd (Memᴰ.not-nil m)
place-of (x ∷ ks) (suc n) (Memᴰ.head e) = (0, omega arith, sym e)
place-of (x ∷ ks) (suc n) (Memᴰ.tail m) = let p = place-of ks n m in (suc p.0, omega arith, p.2)

-- ---- No number stands twice before a place
pub distinct-one : (ks : List ℕ) → Distinct (take 1 ks)
distinct-one [] = none
distinct-one (x ∷ ks) = more Memᴰ.not-nil none

pub distinct-on : (ks : List ℕ) (n : ℕ) → n < length ks → Distinct (take n ks) → (StandsBefore ks n → ⊥) → Distinct (take (n + 1) ks)
distinct-on ks n h d new =
    rw (add-one, take-suc ks n 0 h)
    (distinct-append d (get_or ks n 0 ∷ []) (more Memᴰ.not-nil none) (λ a m q. new (Memᴰ.cast (sym (Memᴰ.eq_of_singleton q)) m)))

-- ---- What the library answers
-- `contains`, over the places before place n
pub contains-stands : (ks : List ℕ) (k : ℕ) → Decides (list_any (λ y. y == k) ks) (Memᴰ k ks)
contains-stands [] k = (λ e. absurd (false≢true e), λ m. absurd (Memᴰ.not-nil m))
contains-stands (x ∷ ks) k = Decides-like _ into (λ m. elim (Memᴰ.cases_cons m) [ inl e ↦ inl (sym e) | inr m ↦ inr m ]) (Decides-or _ _ (Decides-eqb x k) (contains-stands ks k))
  where
    into : (x ≡ k) ⊎ Memᴰ k ks → Memᴰ k (x ∷ ks)
    into (inl e) = Memᴰ.head (sym e)
    into (inr m) = Memᴰ.tail m

-- `is_sorted_by`, with each number below the next
sorted-increasing : (ks : List ℕ) (r : Bool) → IsAllAdjacentAnswer (λ x y b. b ≡ nat_lt x y) ks r → r ≡ true → IsStrictlyIncreasing ks
sorted-increasing ks true answer t = λ k h. ltb-true _ _ (sym (answer k 0 h))
sorted-increasing ks false answer t = absurd (false≢true t)

increasing-distinct : (ks : List ℕ) → IsStrictlyIncreasing ks → Distinct ks
increasing-distinct [] up = none
increasing-distinct (x ∷ ks) up =
    more
    (λ m.
    let p = place-of ks (length ks) {k = x} (rw (take-length ks) m) in
    let below = AllPairs-from_increasing (x ∷ ks) up 0 (suc p.0) 0 (omega arith) (omega (arith, p.1)) in
    omega (arith, p.2, below))
    (increasing-distinct ks (λ k h. let z = up (suc k) (omega arith) in rw (add-one k) (simp unary_clauses at z)))

pub sorted-distinct : (ks : List ℕ) (r : Bool) → IsAllAdjacentAnswer (λ x y b. b ≡ nat_lt x y) ks r → r ≡ true → Distinct ks
sorted-distinct ks r answer t = increasing-distinct ks (sorted-increasing ks r answer t)

-- ---- The first place whose number stands before it, by `find`
abbrev pub stands : List ℕ → ℕ → Bool
stands ks n = list_any (λ y. y == get_or ks n 0) (take n ks)

distinct-up : (ks : List ℕ) (n : ℕ) → n ≤ length ks → ((k : ℕ) → k < n → stands ks k ≡ false) → Distinct (take n ks)
distinct-up ks zero h new = none
distinct-up ks (suc n) h new =
    let before = distinct-up ks n (omega arith) (λ k l. new k (omega arith)) in
    rw (← add-one) (distinct-on ks n (omega arith) before (not_from_Decides _ (contains-stands (take n ks) (get_or ks n 0)) (new n (omega arith))))

pub found-first : (ks : List ℕ) (r : Option ℕ) →
    MatchOption r ((k : ℕ) → 0 ≤ k → k < length ks → stands ks k ≡ false)
    (λ i. (0 ≤ i) × (i < length ks) × (stands ks i ≡ true) × ((k : ℕ) → 0 ≤ k → k < i → stands ks k ≡ false)) →
    MatchOption r (Distinct ks) (λ i. FirstDuplicate ks i)
found-first ks None h = let all = distinct-up ks (length ks) (omega arith) (λ k l. h k (omega arith) l) in rw (take-length ks) at all
found-first ks (Some i) h =
    record {
      inside = h.1;
      distinct = distinct-up ks i (omega (arith, h.1)) (λ k l. h.3 k (omega arith) l);
      again = (contains-stands (take i ks) (get_or ks i 0)).0 h.2;
    }
