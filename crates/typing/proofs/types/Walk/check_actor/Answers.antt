-- `Walk::check_actor` meets its contract. Assumes nothing.
use mathlib.Core.Path.{sym, ◌∙◌}
use mathlib.Core.Bool.{false≢true}
use lib.Dec.{eqb→eq}
use borrow.Author.Tests.{eq-eqb}
use Rattle.refusals.proofs.Handing.{handed-on}
use Rattle.typing.proofs.actor.Laws.{no-actor, root-inside, written-stop, no-service, some-service}
use Rattle.typing.proofs.types.Walk.check_actor.Goals as goal

pub returns-in-Absent : goal.returns-in-Absent
returns-in-Absent c = λ q ds e a. no-actor c.args.self.now c.args.interface.now ds c.in-Absent.is

pub check_top-requires : goal.check_top-requires
check_top-requires c = root-inside c.args.self.now c.args.interface.now c.in-Written.is c.requires.1

pub returns-in_err-check_top-in-Written : goal.returns-in_err-check_top-in-Written
returns-in_err-check_top-in-Written c =
    rw (handed-on c.from_residual.result c.from_residual.ensures)
    (λ q ds e a. written-stop c.args.self.now c.args.interface.now c.in-Written.is a q e c.in_err-check_top-in-Written.ensures)

pub returns-then-is_empty : goal.returns-then-is_empty
returns-then-is_empty c =
    λ q ds e a.
    no-service c.args.self.now c.args.interface.now c.in-Written.is a q e c.in_ok-check_top-in-Written.ensures
    (eqb→eq _ _ (rw (sym c.is_empty.ensures ∙ c.if-is_empty.true) tt))

pub returns-else-is_empty : goal.returns-else-is_empty
returns-else-is_empty c =
    λ q ds e a.
    some-service c.args.self.now c.args.interface.now c.in-Written.is a q e c.in_ok-check_top-in-Written.ensures
    (λ z. false≢true (sym c.if-is_empty.false ∙ c.is_empty.ensures ∙ eq-eqb _ _ z))
