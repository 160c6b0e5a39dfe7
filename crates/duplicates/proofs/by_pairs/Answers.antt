-- `by_pairs` meets its contract: the first place that `find` gives. Assumes nothing.
use Rattle.std.proofs.Common.{◌≡◌, true, false, rules, tests}
use Rattle.std.proofs.lemmas.Iterator.{first_from_Range}
use Rattle.duplicates.proofs.Places.{stands, found-first}
use Rattle.duplicates.proofs.by_pairs.Goals as goal

pub returns : goal.returns
returns c =
    let ks = c.args.keys.now in
    found-first ks c.find.result
    (first_from_Range _ _ _ _ (λ i. stands ks i ≡ true) (λ i. stands ks i ≡ false) c.find.ensures.ran (λ x q k. search (rules, tests)) (λ x q k. search (rules, tests)))
