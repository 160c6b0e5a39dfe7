-- `ludzepin_values` meets its contract. Assumes nothing.
use mathlib.Core.Path.{ap, subst, ◌∙◌}
use Rattle.refusals.specs.Handed.{CountAnswer}
use Rattle.codes.specs.Coded.{coded_count, ReadCount}
use Rattle.exports.proofs.ludzepin_values.Goals as goal

pub returns : goal.returns
returns c =
    let said = rw c.limits_of-limits.ensures at c.values.ensures in
    let code = c.count_code.ensures in
    record { answer = code.answer ∙ ap coded_count said; read = subst (λ (a : CountAnswer). ReadCount a c.count_code.result) said code.read }
