-- `check` meets its contract. Assumes nothing.
use mathlib.Core.Path.{sym, ◌∙◌}
use Rattle.refusals.proofs.Handing.{handed-on}
use Rattle.typing.proofs.decs.Laws.{decs-twice, decs-cleared}
use Rattle.typing.proofs.decs.Decs.check.Goals as goal

pub returns-in_err-enter : goal.returns-in_err-enter
returns-in_err-enter c = rw (handed-on c.from_residual.result c.from_residual.ensures) (decs-twice c.args.self c.in_err-enter.ensures c.requires.ends)

pub returns-then-is_err : goal.returns-then-is_err
returns-then-is_err c =
    decs-cleared c.args.self c.check_entered-checked.result (sym c.is_err.ensures.value ∙ c.if-is_err.true) c.check_entered-checked.ensures c.new.ensures
