-- `next_new` meets its contract. Assumes nothing.
use Rattle.std.proofs.Common.{◌≡◌, ℕ, ◌<◌, ◌≤◌, true, false, List, Option, Some, None, MatchOption, rules, tests}
use Rattle.std.proofs.lemmas.Iterator.{first_from_Range}
use Rattle.analysis.specs.Walking.{is_new, NoneNew, NextNew}
use Rattle.analysis.proofs.chase.next_new.Goals as goal

first_new : (ns seen : List ℕ) (from until : ℕ) (r : Option ℕ) →
    MatchOption r (NoneNew ns seen from until) (λ i. (from ≤ i) × (i < until) × (is_new ns seen i ≡ true) × NoneNew ns seen from i) → NextNew ns seen from until r
first_new ns seen from until (Some i) h = record { later = h.0; inside = h.1; skipped = h.3; new = h.2 }
first_new ns seen from until None h = h

pub returns : goal.returns
returns c =
    let ns = c.args.rows.now in
    let seen = c.args.seen.now in
    first_new ns seen c.args.from c.args.until c.find.result
    (first_from_Range _ _ _ _ (λ i. is_new ns seen i ≡ true) (λ i. is_new ns seen i ≡ false) c.find.ensures.ran (λ x q k. search (rules, tests)) (λ x q k. search (rules, tests)))
