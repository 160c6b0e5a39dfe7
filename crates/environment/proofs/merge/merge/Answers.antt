-- `merge::merge` meets its contract: the lowest name on which the tables differ gives the verdict of all. Assumes nothing.
use native.Mathlib.Omega.{arith}
use Rattle.std.proofs.Common.{rules, tests, true, false, None, Some}
use Rattle.std.proofs.lemmas.Iterator.{first_from_Range}
use Rattle.environment.proofs.merge.Tables.{SameAt, FoundAs, merged-as}
use Rattle.environment.proofs.merge.merge.Goals as goal
use Rattle.environment.proofs.merge.merge.Goals.{In-Some}

pub returns-in-None : goal.returns-in-None
returns-in-None c =
    let at = SameAt c.args.rows.now c.args.hashes.now c.args.init.now c.args.main.now in
    merged-as _ _ _ _ _ None
    (first_from_Range _ _ _ None (at false) (at true) c.in-None.ensures.ran (λ x q k. search (rules, tests)) (λ x q k. search (rules, tests)))

first : (c : In-Some) → FoundAs c.args.rows.now c.args.hashes.now c.args.init.now c.args.main.now c.args.names (Some c.in-Some.n)
first c =
    let at = SameAt c.args.rows.now c.args.hashes.now c.args.init.now c.args.main.now in
    first_from_Range _ _ _ (Some c.in-Some.n) (at false) (at true) c.in-Some.ensures.ran (λ x q k. search (rules, tests)) (λ x q k. search (rules, tests))

pub returns-in-Some : goal.returns-in-Some
returns-in-Some c = merged-as _ _ _ _ _ (Some c.in-Some.n) (first c)

pub overflow_cast-result : goal.overflow_cast-result
overflow_cast-result c = omega (arith, (first c).1, c.requires.nodes.few_names)
