-- `ludzepin_init_list` meets its contract. Assumes nothing.
use mathlib.Core.Path.{sym, subst}
use native.Mathlib.Omega.{arith}
use Rattle.codes.specs.Coded.{Below, small}
use Rattle.exports.proofs.Small.{most-below}
use Rattle.exports.proofs.Handed.{coded-as}
use Rattle.listing.proofs.InitList.{init-list-bytes-most}
use Rattle.exports.proofs.ludzepin_init_list.Goals as goal

pub answer_code-requires : goal.answer_code-requires
answer_code-requires c =
    subst (Below small) (sym c.init_list.ensures.answer) (most-below small 512 (omega arith) _ (init-list-bytes-most _ _))

pub returns : goal.returns
returns c =
    let code = c.answer_code.ensures in
    coded-as (rw c.limits_of-limits.ensures at c.init_list.ensures) code.answer code.read
