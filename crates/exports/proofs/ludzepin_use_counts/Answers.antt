-- `ludzepin_use_counts` meets its contract. Assumes nothing.
use mathlib.Core.Path.{sym, ap, subst, ◌∙◌}
use native.Mathlib.Omega.{arith}
use Rattle.refusals.specs.Handed.{Answer}
use Rattle.codes.specs.Coded.{coded_uses, Below, wide, ReadUses}
use Rattle.exports.proofs.Small.{most-below}
use Rattle.exports.proofs.Handed.{listed-answer}
use Rattle.listing.proofs.UseCounts.{use-counts-bytes-most}
use Rattle.exports.proofs.ludzepin_use_counts.Goals as goal

pub use_counts_code-requires : goal.use_counts_code-requires
use_counts_code-requires c =
    subst (Below wide) (sym (listed-answer _ c.use_counts.ensures.answer)) (most-below wide 512 (omega arith) _ (use-counts-bytes-most _ _))

pub returns : goal.returns
returns c =
    let handed = rw c.limits_of-limits.ensures at c.use_counts.ensures in
    let said = listed-answer _ handed.answer in
    let code = c.use_counts_code.ensures in
    record { answer = code.answer ∙ ap coded_uses said; read = subst (λ (a : Answer). ReadUses a c.use_counts_code.result) said code.read; left = handed.left }
