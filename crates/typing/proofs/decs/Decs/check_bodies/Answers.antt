-- `check_bodies` meets its contract: the bodies that are left give the verdict. Assumes nothing.
use native.Mathlib.Omega.{arith}
use Rattle.book.proofs.Walking.{entry-left, entry-is, entry-next, entry-last}
use Rattle.refusals.proofs.Handing.{handed-on}
use Rattle.typing.proofs.decs.Laws.{body-inside, bodies-stop, bodies-on, bodies-end}
use Rattle.typing.proofs.decs.Decs.check_bodies.Goals as goal

pub check_type-requires : goal.check_type-requires
check_type-requires c =
    let l = c.loop-e.invariant in
    let x = c.in-Some.ensures.steps in
    rw c.new-walk.ensures.nodes-are (body-inside c.args.self l.from (entry-left l.walk x) (entry-is l.walk x))

pub returns-in_err-check_type : goal.returns-in_err-check_type
returns-in_err-check_type c =
    let l = c.loop-e.invariant in
    let x = c.in-Some.ensures.steps in
    rw (handed-on c.from_residual.result c.from_residual.ensures)
    (bodies-stop c.args.self c.requires c.new-walk.ensures l.from (entry-left l.walk x) (entry-is l.walk x) l.left c.in_err-check_type.ensures)

pub loop-e-preserved : goal.loop-e-preserved
loop-e-preserved c =
    let l = c.loop-e.invariant in
    let x = c.in-Some.ensures.steps in
    record {
      walk = entry-next l.walk x;
      from = omega (arith, l.from, x.at);
      left = rw x.at (bodies-on c.args.self c.requires c.new-walk.ensures l.from (entry-left l.walk x) (entry-is l.walk x) l.left c.in_ok-check_type.ensures);
    }

pub returns : goal.returns
returns c = let l = c.loop-e.invariant in bodies-end c.args.self c.requires (entry-last l.walk c.in-None.ensures.steps) l.left
