-- `CheckedBook::methods` meets its contract. Assumes nothing.
use mathlib.Core.Path.{refl}
use Rattle.analysis.specs.Reaching.{no_places}
use Rattle.refusals.proofs.Handing.{handed-on}
use Rattle.passed.proofs.Asking.{handed-refused}
use Rattle.passed.proofs.uses.Laws.{main-within, offered-here}
use Rattle.passed.proofs.methods.Laws.{methods-lacks, few-methods, methods-here}
use Rattle.passed.proofs.CheckedBook.methods.Goals as goal

pub returns-in_err-actor : goal.returns-in_err-actor
returns-in_err-actor c =
    let e = c.in_err-actor.ensures.none in
    rw (handed-on c.from_residual.result c.from_residual.ensures, e.0) (handed-refused _ (methods-lacks c.args.self.now.passes.passed _ e.1))

pub find_nearest-requires : goal.find_nearest-requires
unfolding no_places
find_nearest-requires c = (main-within c.args.self.now.passes.passed, refl)

pub methods-positions-requires-clause-offered : goal.methods-positions-requires-clause-offered
methods-positions-requires-clause-offered c =
    let e = c.in_ok-actor.ensures.some in
    rw e.0 (offered-here c.args.self.now.passes.passed e.1 c.find_nearest.ensures c.nodes.ensures)

pub methods-positions-requires-clause-few : goal.methods-positions-requires-clause-few
methods-positions-requires-clause-few c =
    let e = c.in_ok-actor.ensures.some in
    rw (c.nodes.ensures, e.0) (few-methods c.args.self.now.passes.passed e.1)

pub returns : goal.returns
returns c =
    let e = c.in_ok-actor.ensures.some in
    methods-here c.args.self.now.passes.passed e.1 c.find_nearest.ensures c.nodes.ensures (rw e.0 at c.methods-positions.ensures) (rw c.as_slice.ensures.value at c.hand.ensures)
