-- The walk over the asked names meets its contract: it gives the first of the names that are left. Assumes nothing.
use Rattle.std.proofs.Common.{arith, ap, length, tests, rules, sym, ◌∙◌}
use Rattle.std.proofs.lemmas.Iterator.{YieldsList-from_slice}
use Rattle.std.proofs.lemmas.Iterator.Search.{position_from_yields_List}
use Rattle.methods.proofs.Named.{none-left, first-left}
use Rattle.methods.proofs.asked.AskedIterator.next.Goals as goal

pub returns-in_err-size-clause-steps : goal.returns-in_err-size-clause-steps
returns-in_err-size-clause-steps c =
    let e = none-left c.args.self.now.rest.now (sym c.in_err-size.was ∙ position_from_yields_List _ _ _ _ c.position.ensures.ran (YieldsList-from_slice c.args.self.now.rest.now cc) (λ x b q k. search (rules, tests))) in
    rw c.from_residual.ensures (e, e)

pub returns-clause-steps : goal.returns-clause-steps
returns-clause-steps c =
    first-left c.args.self.now.rest.now (sym c.in_ok-size.was ∙ position_from_yields_List _ _ _ _ c.position.ensures.ran (YieldsList-from_slice c.args.self.now.rest.now cc) (λ x b q k. search (rules, tests)))

pub returns-clause-goes : goal.returns-clause-goes
returns-clause-goes c =
    let n = first-left c.args.self.now.rest.now (sym c.in_ok-size.was ∙ position_from_yields_List _ _ _ _ c.position.ensures.ran (YieldsList-from_slice c.args.self.now.rest.now cc) (λ x b q k. search (rules, tests))) in
    grind (arith, ap length n)
