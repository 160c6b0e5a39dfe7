-- `Walk::check_top` meets its contract. Assumes nothing.
use Rattle.refusals.proofs.Handing.{handed-on}
use Rattle.typing.proofs.actor.Laws.{top-stop, top-end, top-other}
use Rattle.typing.proofs.types.Walk.check_top.Goals as goal

pub returns-in_err-check_types : goal.returns-in_err-check_types
returns-in_err-check_types c = rw (handed-on c.from_residual.result c.from_residual.ensures) (top-stop c.args.self.now c.requires c.at-t.ensures c.if-t.true c.in_err-check_types.ensures)

pub returns-then-t : goal.returns-then-t
returns-then-t c = top-end c.args.self.now c.requires c.at-t.ensures c.if-t.true c.in_ok-check_types.ensures

pub returns : goal.returns
returns c = top-other c.args.self.now c.requires c.at-t.ensures c.if-t.false c.check_type.ensures
