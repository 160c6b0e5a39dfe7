-- `ludzepin_uses` meets its contract. Assumes nothing.
use mathlib.Core.Path.{sym, ap, subst, ◌∙◌}
use native.Mathlib.Omega.{arith}
use Rattle.refusals.specs.Handed.{Answer}
use Rattle.codes.specs.Coded.{coded_uses, Below, wide, ReadUses}
use Rattle.exports.proofs.Small.{most-below}
use Rattle.listing.proofs.Uses.{uses-bytes-most}
use Rattle.exports.proofs.ludzepin_uses.Goals as goal

pub uses_code-requires : goal.uses_code-requires
uses_code-requires c =
    let start = c.args in
    subst (Below wide) (sym c.uses.ensures.answer) (most-below wide 16781313 (omega arith) _ (uses-bytes-most _ _ start.name))

pub returns : goal.returns
returns c =
    let said = rw c.limits_of-limits.ensures at c.uses.ensures in
    let code = c.uses_code.ensures in
    record { answer = code.answer ∙ ap coded_uses said.answer; read = subst (λ (a : Answer). ReadUses a c.uses_code.result) said.answer code.read; left = said.left }
