-- `ludzepin_emptiness` meets its contract. Assumes nothing.
use mathlib.Core.Path.{sym, subst}
use native.Mathlib.Omega.{arith}
use Rattle.codes.specs.Coded.{Below, small}
use Rattle.exports.proofs.Small.{most-below}
use Rattle.exports.proofs.Handed.{coded-as}
use Rattle.listing.proofs.Empty.{emptiness-bytes-most}
use Rattle.exports.proofs.ludzepin_emptiness.Goals as goal

pub answer_code-requires : goal.answer_code-requires
answer_code-requires c =
    subst (Below small) (sym c.emptiness.ensures.answer) (most-below small 512 (omega arith) _ (emptiness-bytes-most _ _))

pub returns : goal.returns
returns c =
    let code = c.answer_code.ensures in
    coded-as (rw c.limits_of-limits.ensures at c.emptiness.ensures) code.answer code.read
