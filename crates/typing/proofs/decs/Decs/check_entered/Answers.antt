-- `check_entered` meets its contract. Assumes nothing.
use Rattle.refusals.proofs.Handing.{handed-on}
use Rattle.typing.proofs.decs.Laws.{few, tabled, table, decs-body, decs-circle, decs-unfit, decs-passed}
use Rattle.typing.proofs.decs.Decs.check_entered.Goals as goal

pub returns-in_err-check_bodies : goal.returns-in_err-check_bodies
returns-in_err-check_bodies c = rw (handed-on c.from_residual.result c.from_residual.ensures) (decs-body c.args.self c.requires.defined c.in_err-check_bodies.ensures)

pub of-scope-requires : goal.of-scope-requires
of-scope-requires c = table c.args.self c.requires.defined

pub find_ends-requires : goal.find_ends-requires
find_ends-requires c =
    let d = c.args.self in
    let o = c.of-scope.ensures in
    record { ends = c.requires.empty; defined = rw (o.rows, o.roots) (_, tabled d c.requires.defined); few = few d }

pub returns-in_err-find_ends : goal.returns-in_err-find_ends
returns-in_err-find_ends c =
    let o = c.of-scope.ensures in
    rw (handed-on c.from_residual-in_err-find_ends.result c.from_residual-in_err-find_ends.ensures)
    (decs-circle c.args.self c.requires.defined c.in_ok-check_bodies.ensures (rw (o.rows, o.roots, o.names, o.nodes) at c.in_err-find_ends.ensures))

pub returns-then-methods_fit : goal.returns-then-methods_fit
returns-then-methods_fit c =
    let o = c.of-scope.ensures in
    decs-passed c.args.self c.requires.defined c.in_ok-check_bodies.ensures (rw (o.rows, o.roots, o.names, o.nodes) at c.in_ok-find_ends.ensures)
    (rw c.if-methods_fit.true at c.methods_fit.ensures)

pub returns-else-methods_fit : goal.returns-else-methods_fit
returns-else-methods_fit c =
    let o = c.of-scope.ensures in
    decs-unfit c.args.self c.requires.defined c.in_ok-check_bodies.ensures (rw (o.rows, o.roots, o.names, o.nodes) at c.in_ok-find_ends.ensures)
    (rw c.if-methods_fit.false at c.methods_fit.ensures)
