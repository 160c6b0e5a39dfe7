-- `alias::last_crossed` meets its contract: each turn goes on to the next name. Assumes nothing.
use native.Mathlib.Omega.{arith}
use Rattle.passed.proofs.alias.Laws.{going-start, name-small, going-end, step-links, step-names, going-on}
use Rattle.passed.proofs.alias.last_crossed.Goals as goal

pub loop-k-init : goal.loop-k-init
loop-k-init c = going-start _ _ _

pub step-requires : goal.step-requires
step-requires c = (c.loop-k.invariant.left _ c.requires.1).inside

pub unreachable-requires : goal.unreachable-requires
unreachable-requires c = step-links c.loop-k.invariant c.requires.1 c.loop-k-test.true c.step.ensures c.in_default.is

pub unreachable-requires-in_default-next : goal.unreachable-requires-in_default-next
unreachable-requires-in_default-next c =
    step-names c.loop-k.invariant c.requires.1 c.loop-k-test.true c.step.ensures c.in-Some.is c.in_default-next.is

pub loop-k-preserved : goal.loop-k-preserved
loop-k-preserved c = going-on c.loop-k.invariant c.loop-k-test.true c.step.ensures c.in-Some.is c.in-Some-next.is

pub overflow_cast-result : goal.overflow_cast-result
overflow_cast-result c = omega (arith, name-small c.loop-k.invariant c.requires.1)

pub returns : goal.returns
returns c = λ ms x. going-end c.loop-k.invariant x (omega (arith, c.loop-k-test.false))
