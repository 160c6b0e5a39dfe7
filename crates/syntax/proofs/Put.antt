-- What is put in a table that has room for all of it. Assumes nothing.
--     all-put                  it is in there whole
use mathlib.Core.Path.{◌≡◌, refl, sym, ap, subst, ◌∙◌}
use mathlib.Core.List.{List, [], ◌∷◌, ◌++◌}
use Prim.Native.Nat.{ℕ, ◌≤◌, ◌<◌}
use native.Mathlib.Omega.{arith}
use Rattle.std.proofs.Common.{length, length-append, Option, Some, Result, Ok, Err}
use Rattle.std.specs.Result.{OnErr, MatchResult}
use Rattle.std.specs.Iterator.{Yields, YieldsThen, Drains}
use Rattle.std.proofs.lemmas.Iterator.{YieldsList}
use Rattle.std.proofs.lemmas.Iterator.Adapters.{at_most_from_yields_List, items_from_extend}

module _ {S : Type 0} (steps : S → Option ℕ → S → Type 0) where
  one-more : (s t u : S) (xs : List ℕ) (x : ℕ) → Yields steps s xs t → steps t (Some x) u → Yields steps s (xs ++ (x ∷ [])) u
  one-more s t u [] x e h = (u, subst (λ (q : S). steps q (Some x) u) (sym e) h, refl)
  one-more s t u (y ∷ ys) x (j, g, e) h = (j, g, one-more j t u ys x e h)

module _ {S : Type 0} {steps : S → Option ℕ → S → Type 0} where
  -- what is given before an item is shorter than all that is given
  not-full : {s u : S} {all : List ℕ} → YieldsList steps (λ x. x) s all → (xs : List ℕ) (x : ℕ) → YieldsThen steps s xs (Some x) u → length xs < length all
  not-full {s} {u} {all} road xs x (t, e, h) =
      let m = at_most_from_yields_List {n = length all} road (omega arith) in
      let l = m.runs (xs ++ (x ∷ [])) u (one-more steps s t u xs x e h) in
      omega (arith, l, length-append xs (x ∷ []))

  pub all-put : {E : Type 0} {s : S} (r : Result (Unit {0}) E) {all old new : List ℕ} {size : ℕ} → length all ≤ size → old ≡ [] → YieldsList steps (λ x. x) s all →
      ((it : S) × (xs : List ℕ) × (it ≡ s) × (new ≡ old ++ xs) × MatchResult r (λ _. Drains steps it xs) (λ _. (t : S) × Yields steps it xs t)) →
      OnErr r (length new ≡ size) →
      OnErr r ((it : S) × (xs : List ℕ) × (x : ℕ) × (u : S) × (it ≡ s) × YieldsThen steps it xs (Some x) u × (new ≡ old ++ xs)) → new ≡ all
  all-put {E} (Ok v) {all} {old} {new} few none road ran full more =
      items_from_extend {E = E} {P = λ (xs : List ℕ). new ≡ old ++ xs} (Ok v) ran road ∙ ap (λ (l : List ℕ). l ++ all) none
  all-put (Err e) {all} few none road ran full (it, xs, x, u, same, then, are) =
      let l = not-full road xs x (subst (λ (q : S). YieldsThen steps q xs (Some x) u) same then) in
      absurd (omega (arith, l, ap length (are ∙ ap (λ (l : List ℕ). l ++ xs) none), full, few))
