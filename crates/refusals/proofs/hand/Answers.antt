-- `hand` meets its contract: the list is copied to the front, or does not fit. Assumes nothing.
use mathlib.Core.Path.{refl}
use Rattle.refusals.proofs.Handed.{handed-short, handed-long}
use Rattle.refusals.proofs.hand.Goals as goal

pub returns-then-out-n : goal.returns-then-out-n
returns-then-out-n c = handed-short c.args.list.now c.if-out-n.true refl

pub returns : goal.returns
returns c = handed-long c.args.list.now c.if-out-n.false (rw c.copy_from_slice.ensures.after refl)
