-- `CheckedBook::list` meets its contract. Assumes nothing.
use Rattle.passed.proofs.list.Laws.{interface-here, list-lacks, list-says}
use mathlib.Core.Path.{refl}
use Rattle.book.proofs.Opened.{nodes-count}
use Rattle.passed.proofs.Asking.{handed-refused, handed-as}
use Rattle.refusals.proofs.Handing.{handed-on}
use Rattle.passed.proofs.CheckedBook.list.Goals as goal

pub returns-in_err-actor : goal.returns-in_err-actor
returns-in_err-actor c =
    let e = c.in_err-actor.ensures.none in
    rw (handed-on c.from_residual.result c.from_residual.ensures, e.0) (handed-refused _ (list-lacks c.args.self.now.passes.passed e.1))

pub of-scope-requires : goal.of-scope-requires
of-scope-requires c = let b = c.args.self.now.passes in rw (nodes-count b.admitted) b.passed.checked.table

pub chase_actor-requires : goal.chase_actor-requires
chase_actor-requires c =
    let o = c.of-scope.ensures in
    rw c.in_ok-actor.ensures.some.0 (interface-here c.args.self.now.passes.passed c.of-scope.result.scope o.rows (rw o.roots refl) o.nodes)

pub returns-in_err-w : goal.returns-in_err-w
returns-in_err-w c =
    let e = c.in_ok-actor.ensures.some in
    let o = c.of-scope.ensures in
    rw (handed-on c.from_residual-in_err-w.result c.from_residual-in_err-w.ensures)
    (handed-refused _ (list-says c.args.self.now.passes.passed c.of-scope.result.scope o.rows (rw o.roots refl) _ (rw e.0 at c.in_err-w.ensures) e.1))

pub returns : goal.returns
returns c =
    let e = c.in_ok-actor.ensures.some in
    let o = c.of-scope.ensures in
    handed-as (list-says c.args.self.now.passes.passed c.of-scope.result.scope o.rows (rw o.roots refl) _ (rw e.0 at c.in_ok-w.ensures) e.1) (rw c.as_slice.ensures.value at c.hand.ensures)
