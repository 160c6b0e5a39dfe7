-- Names by their flags. Assumes nothing.
--     flags-ascending          flags that tell a set give its names, ascending
--     flagged-kept, -few       they are what is kept of a range, and no more than it has
--     all-listed               what is put in a table that has room is listed to its end
use mathlib.Core.Path.{◌≡◌, refl, sym, ap, ◌∙◌}
use mathlib.Core.Bool.{Bool, true, false, cond}
use mathlib.Core.List.{List, [], ◌∷◌, ◌++◌, map}
use Prim.Native.Nat.{ℕ, zero, suc, ◌+◌, ◌≤◌}
use native.Mathlib.Omega.{arith}
use Rattle.std.proofs.Common.{length, Option, Some, Result}
use Rattle.std.specs.Result.{OnErr, MatchResult}
use Rattle.std.specs.Iterator.{Yields, YieldsThen, Drains}
use Rattle.std.proofs.lemmas.Iterator.{YieldsList}
use Rattle.std.specs.List.{filter, range_with_len}
use Rattle.book.specs.Tables.{is_set, flagged}
use Rattle.listing.specs.Recursive.{sorted}
use Rattle.syntax.proofs.Put.{all-put}
use Rattle.analysis.specs.Flags.{Agrees}

pub flags-ascending : (flags l : List ℕ) → Agrees flags l → (n k : ℕ) → n + k ≤ 1024 → flagged flags n k ≡ sorted l n k
unfolding flagged sorted
flags-ascending flags l h n zero le = refl
flags-ascending flags l h n (suc k) le = rw (h n (omega arith), flags-ascending flags l h (suc n) k (omega arith))

-- ---- What is kept of a range
pub flagged-kept : (flags : List ℕ) (n k : ℕ) → flagged flags n k ≡ map (λ (m : ℕ). m) (filter (is_set flags) (range_with_len n k))
unfolding flagged
flagged-kept flags n zero = refl
flagged-kept flags n (suc k) =
    let z : suc n ≡ n + 1 = omega arith in
    look (is_set flags n) (flagged-kept flags (suc n) k ∙ ap (λ (m : ℕ). map (λ (x : ℕ). x) (filter (is_set flags) (range_with_len m k))) z)
  where
    look : (b : Bool) → flagged flags (suc n) k ≡ map (λ (m : ℕ). m) (filter (is_set flags) (range_with_len (n + 1) k)) →
        cond b (n ∷ flagged flags (suc n) k) (flagged flags (suc n) k)
        ≡ map (λ (m : ℕ). m) (cond b (n ∷ filter (is_set flags) (range_with_len (n + 1) k)) (filter (is_set flags) (range_with_len (n + 1) k)))
    look true e = ap (λ (l : List ℕ). n ∷ l) e
    look false e = e

pub flagged-few : (flags : List ℕ) (n k : ℕ) → length (flagged flags n k) ≤ k
unfolding flagged
flagged-few flags n zero = omega arith
flagged-few flags n (suc k) = look (is_set flags n) (flagged-few flags (suc n) k)
  where
    look : (b : Bool) → length (flagged flags (suc n) k) ≤ k → length (cond b (n ∷ flagged flags (suc n) k) (flagged flags (suc n) k)) ≤ suc k
    look true h = omega (arith, h)
    look false h = omega (arith, h)

-- ---- What is put in
module _ {S : Type 0} {steps : S → Option ℕ → S → Type 0} where
  -- the flagged names, put in a table that has nothing: what is put in ends before the table is full
  pub all-listed : {E : Type 0} {s : S} (r : Result (Unit {0}) E) (flags : List ℕ) (k : ℕ) {old new : List ℕ} → k ≤ 1024 → old ≡ [] →
      YieldsList steps (λ x. x) s (map (λ (m : ℕ). m) (filter (is_set flags) (range_with_len 0 k))) →
      ((it : S) × (xs : List ℕ) × (it ≡ s) × (new ≡ old ++ xs) × MatchResult r (λ _. Drains steps it xs) (λ _. (t : S) × Yields steps it xs t)) →
      OnErr r (length new ≡ 1024) →
      OnErr r ((it : S) × (xs : List ℕ) × (x : ℕ) × (u : S) × (it ≡ s) × YieldsThen steps it xs (Some x) u × (new ≡ old ++ xs)) →
      new ≡ flagged flags 0 k
  all-listed {E} r flags k few none road ran full more =
      all-put {E = E} r (omega (arith, few, ap length (flagged-kept flags 0 k), flagged-few flags 0 k)) none road ran full more ∙ sym (flagged-kept flags 0 k)
