-- `by_unit` meets its contract: a refusal's low bits are below the unit. Assumes nothing.
use mathlib.Core.Path.{◌∙◌, subst}
use native.Mathlib.Omega.{arith}
use Rattle.codes.specs.Coded.{Below}
use Rattle.codes.proofs.Read.{refusal-read}
use Rattle.codes.proofs.by_unit.Goals as goal

pub returns-in-Err-clause-read : goal.returns-in-Err-clause-read
returns-in-Err-clause-read g c =
    let needed = subst (Below g.row.UNIT) c.in-Err.is c.requires.entries in
    let few = c.low.ensures.below g.row.UNIT c.requires.names needed in
    refusal-read g.row.UNIT c.in-Err.is (c.from.ensures ∙ c.number.ensures) (c.from-in-Err.ensures ∙ c.low.ensures.is) (omega arith)
