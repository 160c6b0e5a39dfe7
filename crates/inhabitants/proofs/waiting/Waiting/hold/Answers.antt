-- `Waiting::hold` meets its contract: what is left of the types. Assumes nothing.
use mathlib.Core.Path.{refl}
use native.Mathlib.Omega.{arith}
use Rattle.book.proofs.Walking.{over-next, last}
use Rattle.inhabitants.proofs.waiting.Holding.{hold-settled, hold-waiting, hold-end}
use Rattle.inhabitants.proofs.waiting.Waiting.hold.Goals as goal

pub loop-c-preserved-then-self-c-eq0 : goal.loop-c-preserved-then-self-c-eq0
loop-c-preserved-then-self-c-eq0 c =
    let i = c.loop-c.invariant in
    let x = c.in-Some.ensures.steps in
    record { over = over-next i.over x; left = hold-settled i.over i.left x c.if-self-c-eq0.true refl refl }

pub loop-c-preserved : goal.loop-c-preserved
loop-c-preserved c =
    let i = c.loop-c.invariant in
    let x = c.in-Some.ensures.steps in
    record { over = over-next i.over x; left = hold-waiting i.over i.left x c.if-self-c-eq0.false refl refl refl refl refl refl refl }

pub returns : goal.returns
returns c =
    let i = c.loop-c.invariant in
    let end = last i.over c.in-None.ensures.steps in
    hold-end i.left (omega (arith, end))
