-- `chase_actor` meets its contract: the services that are left lead where all of them do. Assumes nothing.
use mathlib.Core.Path.{refl}
use Rattle.std.proofs.Common.{◌≡◌, Err, rules}
use Rattle.syntax.specs.Interfaces.{main_of}
use Rattle.analysis.proofs.BookNodes.{rooted, here-whole}
use Rattle.analysis.proofs.chase.Actor.{MergedAs, actor-absent, actor-written, service-in, arguments-stop, services-on, services-stop, services-over}
use Rattle.analysis.proofs.chase.chase_actor.Goals as goal

pub returns-in-Absent : goal.returns-in-Absent
returns-in-Absent c = actor-absent c.requires.1 c.args.interface c.in-Absent.is c.new.ensures

pub chase_written-requires : goal.chase_written-requires
unfolding main_of
chase_written-requires c = (rw c.in-Written.is at c.requires.0.nodes.main, c.requires.1)

pub returns-in-Written : goal.returns-in-Written
returns-in-Written c = actor-written c.requires.1 c.args.interface c.in-Written.is _ c.chase_written.ensures

pub chase_types-requires : goal.chase_types-requires
chase_types-requires c = let a = c.requires.0.arguments (_, c.in-Merged.is) in (a.whole, a.inside, c.requires.1)

pub returns-in_err-walk : goal.returns-in_err-walk
returns-in_err-walk c =
    let m : MergedAs c.args.interface c.args.interface.services = record { merged = (_, c.in-Merged.is); are = refl } in
    let e : c.from_residual.result ≡ Err c.in_err-walk.field-0.0 = search rules in
    rw e (arguments-stop c.requires.1 m (c.requires.0.arguments m.merged).are _ c.in_err-walk.ensures)

pub returns-in_err-walk-2 : goal.returns-in_err-walk-2
returns-in_err-walk-2 c =
    let l = c.loop-s.invariant in
    let w = here-whole (rooted c.args.book) (service-in c.requires.1 l c.loop-s-test.true c.requires.0) in
    let e : c.from_residual-in_err-walk-2.result ≡ Err c.in_err-walk-2.field-0.0 = search rules in
    rw e (services-stop c.requires.1 l c.loop-s-test.true _ refl w _ c.at-t.ensures _ c.in_err-walk-2.ensures)

pub loop-s-preserved : goal.loop-s-preserved
loop-s-preserved c =
    let l = c.loop-s.invariant in
    let w = here-whole (rooted c.args.book) (service-in c.requires.1 l c.loop-s-test.true c.requires.0) in
    services-on c.requires.1 l c.loop-s-test.true _ refl w _ c.at-t.ensures _ c.in_ok-walk-2.ensures

pub returns : goal.returns
returns c = services-over c.requires.1 c.loop-s.invariant c.loop-s-test.false
