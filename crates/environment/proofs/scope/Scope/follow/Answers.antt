-- `Scope::follow` meets its contract: what is left of the chain ends where all of it does. Assumes nothing.
use native.Mathlib.Omega.{arith}
use Rattle.environment.proofs.Links.{link-says}
use Rattle.environment.proofs.Names.{open-links, known-small, follow-never, follow-ends, follow-on}
use Rattle.environment.proofs.scope.Scope.follow.Goals as goal

pub returns-then-crossed-definitions : goal.returns-then-crossed-definitions
returns-then-crossed-definitions c =
    follow-never c.args.self.whole c.requires.ends c.loop-m.invariant c.loop-m-test.true c.if-crossed-definitions.true

pub unreachable-requires : goal.unreachable-requires
unreachable-requires c =
    let s = c.args.self in
    open-links c.requires.ends c.loop-m.invariant.inside c.loop-m-test.true (link-says s.whole s.bound _ _ c.in_default.ensures)

pub at-requires : goal.at-requires
at-requires c =
    let s = c.args.self in
    omega (arith, (link-says s.whole s.bound _ _ c.in-Some.ensures).bound.inside, s.whole.few_nodes)

pub returns-in_default-next : goal.returns-in_default-next
returns-in_default-next c =
    let s = c.args.self in
    rw c.at.ensures (follow-ends s.whole c.requires.ends c.loop-m.invariant (link-says s.whole s.bound _ _ c.in-Some.ensures).bound c.in_default-next.is)

pub loop-m-preserved : goal.loop-m-preserved
loop-m-preserved c =
    let s = c.args.self in
    follow-on s.whole c.requires.ends c.loop-m.invariant (link-says s.whole s.bound _ _ c.in-Some.ensures).bound c.in-Some-next.is c.if-crossed-definitions.false

pub overflow_add-result-2 : goal.overflow_add-result-2
overflow_add-result-2 c =
    let p = c.requires in
    let ds = p.defined in
    let l = c.loop-m.invariant in
    omega (arith, l.few, known-small c.args.self.whole p.ends l p.few ds.0 ds.1.0 ds.1.1 c.loop-m-test.false)
