-- `ludzepin_alias` meets its contract. Assumes nothing.
use mathlib.Core.Path.{ap, subst, ◌∙◌}
use Rattle.refusals.specs.Handed.{AliasAnswer}
use Rattle.codes.specs.Coded.{coded_alias, ReadAlias}
use Rattle.exports.proofs.ludzepin_alias.Goals as goal

pub returns : goal.returns
returns c =
    let said = rw c.limits_of-limits.ensures at c.alias.ensures in
    let code = c.alias_code.ensures in
    record { answer = code.answer ∙ ap coded_alias said; read = subst (λ (a : AliasAnswer). ReadAlias a c.alias_code.result) said code.read }
