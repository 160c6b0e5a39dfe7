-- `Scope::alias_end` meets its contract: what is left of the chain ends where all of it does. Assumes nothing.
use native.Mathlib.Omega.{arith}
use Rattle.environment.proofs.Links.{link-says, chain-name, alias-ends, alias-unbound, alias-circle, chain-step}
use Rattle.environment.proofs.scope.Scope.alias_end.Goals as goal

pub step-requires : goal.step-requires
step-requires c = chain-name c.args.self.whole c.loop-next.invariant c.in-Some.is

pub overflow_cast-result : goal.overflow_cast-result
overflow_cast-result c =
    let s = c.args.self in
    omega (arith, chain-name s.whole c.loop-next.invariant c.in-Some.is, s.whole.few_names)

pub returns-in_default-step : goal.returns-in_default-step
returns-in_default-step c =
    let s = c.args.self in
    let a = alias-unbound s.whole c.loop-next.invariant c.in-Some.is (link-says s.whole s.bound _ _ c.in_default-step.ensures) in
    record { within = a.within; is = a.is; crossed = a.crossed-is; few = a.few }

pub returns-then-crossed-left : goal.returns-then-crossed-left
returns-then-crossed-left c =
    let s = c.args.self in
    let a = alias-circle s.whole c.loop-next.invariant c.in-Some.is (link-says s.whole s.bound _ _ c.in-Some-step.ensures).bound c.if-crossed-left.true in
    record { within = a.within; is = a.is; crossed = a.crossed-is; few = a.few }

pub loop-next-preserved : goal.loop-next-preserved
loop-next-preserved c =
    let s = c.args.self in
    chain-step s.whole c.loop-next.invariant c.in-Some.is (link-says s.whole s.bound _ _ c.in-Some-step.ensures).bound c.if-crossed-left.false

pub returns : goal.returns
returns c =
    let a = alias-ends c.args.self.whole c.loop-next.invariant c.in_default.is in
    record { within = a.within; is = a.is; crossed = a.crossed-is; few = a.few }
