-- The loop of `hand_counts`, and what has been handed over by then. Assumes that the lent list has a place for each name.
use mathlib.Core.Path.{◌≡◌, refl, sym, ap, ap₂, ◌∙◌}
use mathlib.Core.List.{List, [], ◌∷◌, ◌++◌, map}
use Prim.Native.Nat.{ℕ, ◌+◌, ◌*◌, ◌≤◌, ◌<◌}
use native.Mathlib.Omega.{arith}
use lib.ListN.{length, get_or, set, take, drop}
use lib.Seq.{take-length}
use Rattle.std.specs.Prelude.{sum_by}
use Rattle.std.proofs.lemmas.List.{take-append-drop, take_more, take_more_set, drop-set-lt, map-append}
use Rattle.std.proofs.lemmas.List.Sums.{sum_by_more, sum-map}
use Rattle.passed.specs.UseCounts.{counts_in, CountsHanded}

-- After i names: their counts stand in front, what is behind is as it was, and the total is theirs.
pub record HandedSoFar (names counts old new : List ℕ) (total i : ℕ) : Type 0 where
  pub front : take i new ≡ counts_in counts (take i names)
  pub rest : (j : ℕ) → i ≤ j → drop j new ≡ drop j old
  pub sum-is : total ≡ sum_by (λ n. get_or counts n 0) (take i names)
  pub few : total ≤ i * 4294967295

module _ (names counts old : List ℕ) where
  pub hands-first : HandedSoFar names counts old old 0 0
  hands-first = record { front = refl; rest = λ j h. refl; sum-is = refl; few = omega arith }

  module _ {new : List ℕ} {total i : ℕ} (h : HandedSoFar names counts old new total i) where
    pub hands-next : i < length names → i < length new → {more : ℕ} → more ≡ get_or counts (get_or names i 0) 0 → more < 4294967296 →
        HandedSoFar names counts old (set new i (get_or counts (get_or names i 0) 0)) (total + more) (i + 1)
    hands-next k room is few =
        let g : ℕ → ℕ = λ n. get_or counts n 0 in
        let count = g (get_or names i 0) in
        record {
          front =
              take_more_set new i count room
              ∙ ap (λ (l : List ℕ). l ++ count ∷ []) h.front
              ∙ sym (ap (map g) (take_more names i 0 k) ∙ map-append g (take i names) (get_or names i 0 ∷ []));
          rest = λ j less. drop-set-lt j new i count (omega arith) ∙ h.rest j (omega arith);
          sum-is = omega (arith, is, h.sum-is, sum_by_more g names i 0 k);
          few = omega (arith, h.few, few);
        }

    pub hands-all : i ≡ length names → CountsHanded names counts old new (record { listed = length names; total = total })
    hands-all e =
        let g : ℕ → ℕ = λ n. get_or counts n 0 in
        let all : take i names ≡ names = ap (λ (j : ℕ). take j names) e ∙ take-length names in
        record {
          listed = refl;
          total = h.sum-is ∙ ap (sum_by g) all ∙ sym (sum-map g names);
          left = sym (take-append-drop i new) ∙ ap₂ (λ (k l : List ℕ). k ++ l) (h.front ∙ ap (map g) all) (h.rest i (omega arith) ∙ ap (λ (j : ℕ). drop j old) e);
        }
