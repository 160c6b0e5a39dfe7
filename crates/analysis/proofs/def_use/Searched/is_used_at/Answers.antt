-- `Searched::is_used_at` meets its contract: a function's own row is no name, so that the first one in its tree is below it. Assumes nothing.
use Rattle.analysis.proofs.methods.Positions.{end-none, end-func, end-other}
use Rattle.analysis.proofs.def_use.Searched.is_used_at.Goals as goal

pub returns-in_default : goal.returns-in_default
returns-in_default c = λ x. end-none c.args.self.now.rows.now c.in_default.is x

pub returns-then-t : goal.returns-then-t
returns-then-t c = λ x. end-func c.in-Some.is c.requires _ c.at-t.ensures x c.if-t.true

pub returns-else-t : goal.returns-else-t
returns-else-t c = λ x. end-other c.in-Some.is c.requires _ c.at-t.ensures x c.if-t.false
