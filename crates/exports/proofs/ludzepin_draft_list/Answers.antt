-- `ludzepin_draft_list` meets its contract. Assumes nothing.
use mathlib.Core.Path.{sym, subst}
use native.Mathlib.Omega.{arith}
use Rattle.codes.specs.Coded.{Below, small}
use Rattle.exports.proofs.Small.{most-below}
use Rattle.exports.proofs.Handed.{coded-as}
use Rattle.listing.proofs.DraftList.{draft-bytes-most}
use Rattle.exports.proofs.ludzepin_draft_list.Goals as goal

pub answer_code-requires : goal.answer_code-requires
answer_code-requires c =
    subst (Below small) (sym c.draft_list.ensures.answer) (most-below small 512 (omega arith) _ (draft-bytes-most _ _))

pub returns : goal.returns
returns c =
    let code = c.answer_code.ensures in
    coded-as (rw c.limits_of-limits.ensures at c.draft_list.ensures) code.answer code.read
