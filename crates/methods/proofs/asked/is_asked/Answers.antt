-- `is_asked` meets its contract: it goes on while the names so far are others. Assumes nothing.
use Rattle.std.proofs.Common.{sym, refl, ◌∙◌}
use Rattle.methods.proofs.asked.is_asked.Goals as goal

pub returns-then-eq : goal.returns-then-eq
returns-then-eq c = sym (c.loop-one.invariant ∙ rw (c.in-Some.ensures.steps, sym c.eq.ensures, c.if-eq.true) refl)

pub loop-one-preserved : goal.loop-one-preserved
loop-one-preserved c = c.loop-one.invariant ∙ rw (c.in-Some.ensures.steps, sym c.eq.ensures, c.if-eq.false) refl

pub returns : goal.returns
returns c = sym (c.loop-one.invariant ∙ rw c.in-None.ensures.steps.0 refl)
