-- `check_resolved` meets its contract. Assumes nothing.
use mathlib.Core.Path.{refl}
use Rattle.refusals.proofs.Handing.{handed-on}
use Rattle.typing.proofs.prog.Laws.{roots-table, ends-table, ends-chains, tabled, resolve-refused, actor-of, actor-refused, prog-passed}
use Rattle.typing.proofs.prog.check_resolved.Goals as goal

pub resolve_actor-requires : goal.resolve_actor-requires
resolve_actor-requires c =
    let p = c.requires in
    record {
      found = p.1;
      table = roots-table p.0 p.1 p.2;
      ended = ends-table p.0 p.1 p.2;
      passed = (_, tabled p.0 p.1 p.2, ends-chains p.0 p.1 p.2);
    }

pub returns-in_err-interface : goal.returns-in_err-interface
returns-in_err-interface c =
    rw (handed-on c.from_residual.result c.from_residual.ensures)
    (λ a x o. resolve-refused a x o (c.in_err-interface.ensures a _ (tabled a x o) (ends-chains a x o)))

pub check_actor-requires : goal.check_actor-requires
check_actor-requires c =
    let p = c.requires in
    (_, actor-of p.0 p.1 p.2 (c.in_ok-interface.ensures p.0 _ (tabled p.0 p.1 p.2) (ends-chains p.0 p.1 p.2)) refl c.new-walk.ensures)

pub returns-in_err-check_actor : goal.returns-in_err-check_actor
returns-in_err-check_actor c =
    rw (handed-on c.from_residual-in_err-check_actor.result c.from_residual-in_err-check_actor.ensures)
    (λ a x o. actor-refused a x o (c.in_ok-interface.ensures a _ (tabled a x o) (ends-chains a x o)) refl c.new-walk.ensures c.in_err-check_actor.ensures)

pub returns : goal.returns
returns c =
    λ a x o. prog-passed a x o (c.in_ok-interface.ensures a _ (tabled a x o) (ends-chains a x o)) refl c.new-walk.ensures c.in_ok-check_actor.ensures
