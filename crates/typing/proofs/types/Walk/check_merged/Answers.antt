-- `Walk::check_merged` meets its contract: the services that are left give the verdict. Assumes nothing.
use Rattle.refusals.proofs.Handing.{handed-on}
use Rattle.typing.proofs.actor.Laws.{arguments-stop, merged-stop, merged-on, merged-end}
use Rattle.typing.proofs.types.Walk.check_merged.Goals as goal

pub returns-in_err-check_types : goal.returns-in_err-check_types
returns-in_err-check_types c = rw (handed-on c.from_residual.result c.from_residual.ensures) (arguments-stop c.args.self.now c.args.interface.now c.in_err-check_types.ensures)

pub returns-in_err-check_type : goal.returns-in_err-check_type
returns-in_err-check_type c =
    rw (handed-on c.from_residual-in_err-check_type.result c.from_residual-in_err-check_type.ensures)
    (merged-stop c.args.self.now c.args.interface.now c.in_ok-check_types.ensures c.as_slice-service-items.ensures.all c.loop-service-test.true c.loop-service.invariant c.requires.1 c.in_err-check_type.ensures)

pub loop-service-preserved : goal.loop-service-preserved
loop-service-preserved c =
    merged-on c.args.self.now c.args.interface.now c.in_ok-check_types.ensures c.as_slice-service-items.ensures.all c.loop-service-test.true c.loop-service.invariant c.requires.1 c.in_ok-check_type.ensures

pub returns : goal.returns
returns c = merged-end c.args.self.now c.args.interface.now c.in_ok-check_types.ensures c.as_slice-service-items.ensures.all c.loop-service-test.false c.loop-service.invariant
