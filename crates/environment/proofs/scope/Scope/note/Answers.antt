-- `Scope::note` meets its contract: each turn knows one end more. Assumes nothing.
use native.Mathlib.Omega.{arith}
use Rattle.environment.proofs.Links.{link-says}
use Rattle.environment.proofs.Names.{open-links, note-less, note-set, note-more, note-on}
use Rattle.environment.proofs.scope.Scope.note.Goals as goal

pub unreachable-requires : goal.unreachable-requires
unreachable-requires c =
    let s = c.args.self in
    let l = c.loop-ends.invariant in
    open-links l.table l.inside c.loop-ends-test.true (link-says s.whole s.bound _ _ c.in_default.ensures)

pub returns-in_default-next : goal.returns-in_default-next
returns-in_default-next c = note-set c.args.self.whole c.loop-ends.invariant c.loop-ends-test.true

pub overflow_sub-e : goal.overflow_sub-e
overflow_sub-e c =
    let s = c.args.self in
    let link = (link-says s.whole s.bound _ _ c.in-Some.ensures).bound in
    omega (arith, note-more s.whole c.loop-ends.invariant c.loop-ends-test.true link c.in-Some-next.is)

pub loop-ends-smaller : goal.loop-ends-smaller
loop-ends-smaller c = note-less c.args.self.whole c.loop-ends.invariant c.loop-ends-test.true

pub loop-ends-preserved : goal.loop-ends-preserved
loop-ends-preserved c =
    let s = c.args.self in
    let link = (link-says s.whole s.bound _ _ c.in-Some.ensures).bound in
    let test = c.loop-ends-test.true in
    note-on s.whole c.loop-ends.invariant test link c.in-Some-next.is (note-more s.whole c.loop-ends.invariant test link c.in-Some-next.is)
