-- The proof of `services_fit`, whose measure is the number of nodes: what is left fits just where all does. Assumes nothing.
use mathlib.Core.Path.{refl}
use mathlib.Core.Bool.{true, or-true}
use Rattle.typing.proofs.Fits.{fit-end, fit-own, fit-below, fit-on}
use Rattle.typing.proofs.types.Walk.+services_fit.Goals as goal
use Rattle.typing.proofs.types.Walk.+services_fit.Goals.{else-methods-via-then-methods+else-not-method_fits, else-methods-via-else-methods}

pub returns-then-not-method_fits : goal.returns-then-not-method_fits
returns-then-not-method_fits t c = fit-own c.loop-n.invariant c.in-Some.ensures.steps c.method_fits.ensures _ refl (rw (c.if-methods.true, c.if-not-method_fits.true) refl)

pub returns-then-not-services_fit : goal.returns-then-not-services_fit
returns-then-not-services_fit t c =
    elim c.else-methods.branch [
      | else-methods-via-then-methods+else-not-method_fits w ↦ fit-below c.loop-n.invariant c.in-Some.ensures.steps w.method_fits.ensures true (rw w.if-not-method_fits.false (or-true _)) c.services_fit.ensures c.if-not-services_fit.true
      | else-methods-via-else-methods w ↦ fit-below c.loop-n.invariant c.in-Some.ensures.steps refl true (rw w.if-methods.false refl) c.services_fit.ensures c.if-not-services_fit.true
    ]

pub loop-n-preserved : goal.loop-n-preserved
loop-n-preserved t c =
    elim c.else-methods.branch [
      | else-methods-via-then-methods+else-not-method_fits w ↦ fit-on c.loop-n.invariant c.in-Some.ensures.steps w.method_fits.ensures _ (rw w.if-not-method_fits.false (or-true _)) c.services_fit.ensures refl c.if-not-services_fit.false
      | else-methods-via-else-methods w ↦ fit-on c.loop-n.invariant c.in-Some.ensures.steps refl _ (rw w.if-methods.false refl) c.services_fit.ensures refl c.if-not-services_fit.false
    ]

pub returns : goal.returns
returns t c = fit-end c.loop-n.invariant c.in-None.ensures.steps
