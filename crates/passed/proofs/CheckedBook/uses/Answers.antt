-- `CheckedBook::uses` meets its contract. Assumes nothing.
use mathlib.Core.Path.{refl}
use Rattle.analysis.specs.Reaching.{no_places}
use Rattle.refusals.proofs.Handing.{handed-on}
use Rattle.passed.proofs.Asking.{uses-refused}
use Rattle.passed.proofs.uses.Laws.{uses-lacks, outside, main-within, offered-here, uses-here, uses-nothing}
use Rattle.passed.proofs.CheckedBook.uses.Goals as goal

pub returns-in_err-actor : goal.returns-in_err-actor
returns-in_err-actor c =
    let e = c.in_err-actor.ensures.none in
    rw (handed-on c.from_residual.result c.from_residual.ensures, e.0) (uses-refused _ (uses-lacks c.args.self.now.passes.passed _ e.1))

pub returns-then-name-ge-NAMES : goal.returns-then-name-ge-NAMES
returns-then-name-ge-NAMES c = uses-nothing (outside c.args.self.now.passes.passed c.in_ok-actor.ensures.some.1 _ c.if-name-ge-NAMES.true)

pub find_nearest-requires : goal.find_nearest-requires
unfolding no_places
find_nearest-requires c = (main-within c.args.self.now.passes.passed, refl)

pub hand_uses-requires : goal.hand_uses-requires
hand_uses-requires c =
    let e = c.in_ok-actor.ensures.some in
    rw e.0 (offered-here c.args.self.now.passes.passed e.1 c.find_nearest.ensures c.nodes.ensures)

pub returns : goal.returns
returns c =
    let e = c.in_ok-actor.ensures.some in
    uses-here c.args.self.now.passes.passed e.1 c.if-name-ge-NAMES.false c.find_nearest.ensures c.nodes.ensures (rw e.0 at c.hand_uses.ensures)
