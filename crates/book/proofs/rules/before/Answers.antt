-- `rules::before` meets its contract: what is left of the names is compared. Assumes nothing.
use mathlib.Core.Path.{◌∙◌}
use native.Mathlib.Omega.{arith}
use Rattle.book.proofs.Tests.{before-differs, before-on, before-ends}
use Rattle.book.proofs.rules.before.Goals as goal

pub returns-then-x-y : goal.returns-then-x-y
returns-then-x-y c =
    let s = c.in-Some.ensures.steps in
    before-differs _ _ _ _ c.if-x-y.true ∙ (rw (s.0, s.1) at c.loop-x.invariant.same)

pub loop-x-preserved : goal.loop-x-preserved
loop-x-preserved c =
    let s = c.in-Some.ensures.steps in
    let i = c.loop-x.invariant in
    record { same = before-on _ _ _ _ c.if-x-y.false ∙ (rw (s.0, s.1) at i.same); even = omega (arith, rw (s.0, s.1) at i.even) }

pub returns : goal.returns
returns c = let i = c.loop-x.invariant in before-ends _ _ _ _ (omega (arith, c.in-None.ensures.steps)) i.even ∙ i.same
