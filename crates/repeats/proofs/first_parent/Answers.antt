-- `first_parent` meets its contract. Assumes nothing.
use Rattle.std.proofs.Common.{◌≡◌, ℕ, ◌<◌, ◌≤◌, true, false, List, Option, Some, None, MatchOption, rules, tests}
use native.Mathlib.Omega.{arith}
use Rattle.std.proofs.lemmas.Iterator.{first_from_Range}
use Rattle.format.specs.Layout.{row_at}
use Rattle.repeats.specs.Keys.{is_parent}
use Rattle.repeats.specs.Steps.{Skipped}
use Rattle.repeats.proofs.first_parent.Goals as goal

skipped : (ns : List ℕ) (nodes : ℕ) (r : Option ℕ) →
    MatchOption r ((k : ℕ) → 0 ≤ k → k < nodes → is_parent (row_at ns k) ≡ false)
    (λ i. (0 ≤ i) × (i < nodes) × (is_parent (row_at ns i) ≡ true) × ((k : ℕ) → 0 ≤ k → k < i → is_parent (row_at ns k) ≡ false)) →
    MatchOption r (Skipped ns nodes) (λ i. (i < nodes) × Skipped ns i)
skipped ns nodes (Some i) h = (h.1, λ k l. h.3 k (omega arith) l)
skipped ns nodes None h = λ k l. h k (omega arith) l

pub returns : goal.returns
returns c =
    let ns = c.args.rows.now in
    skipped ns c.args.nodes c.find.result
    (first_from_Range _ _ _ _ (λ i. is_parent (row_at ns i) ≡ true) (λ i. is_parent (row_at ns i) ≡ false) c.find.ensures.ran (λ x q k. search (rules, tests)) (λ x q k. search (rules, tests)))
