-- `ludzepin_methods` meets its contract. Assumes nothing.
use mathlib.Core.Path.{sym, subst}
use native.Mathlib.Omega.{arith}
use Rattle.codes.specs.Coded.{Below, small}
use Rattle.exports.proofs.Small.{most-below}
use Rattle.exports.proofs.Handed.{coded-as}
use Rattle.listing.proofs.MethodsUsing.{methods-bytes-most}
use Rattle.exports.proofs.ludzepin_methods.Goals as goal

pub answer_code-requires : goal.answer_code-requires
answer_code-requires c =
    let start = c.args in
    subst (Below small) (sym c.methods.ensures.answer)
    (most-below small 4096 (omega arith) _ (methods-bytes-most _ _ start.asked.now))

pub returns : goal.returns
returns c =
    let code = c.answer_code.ensures in
    coded-as (rw c.limits_of-limits.ensures at c.methods.ensures) code.answer code.read
