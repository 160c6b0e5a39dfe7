-- `look_up` meets its contract. Assumes nothing.
use mathlib.Core.Path.{sym, ◌∙◌}
use borrow.Author.Rules.{rules}
use Rattle.format.proofs.Rows.{node-within}
use Rattle.environment.specs.Tables.{end_is}
use Rattle.environment.proofs.ChainEnds.{end-whole}
use Rattle.environment.proofs.look_up.Goals as goal

pub is_some_and-found-requires : goal.is_some_and-found-requires
is_some_and-found-requires c = λ e is κs l v r u z. node-within (end-whole c.requires (sym is ∙ c.end_of-reached.ensures.node-is))

pub returns-then-found : goal.returns-then-found
unfolding end_is
returns-then-found c = record { found-is = rw (← c.end_of-reached.ensures.node-is) (sym c.if-found.true ∙ search rules); reached = c.end_of-reached.ensures }

pub returns-else-found : goal.returns-else-found
unfolding end_is
returns-else-found c = record { found-is = rw (← c.end_of-reached.ensures.node-is) (sym c.if-found.false ∙ search rules); reached = c.end_of-reached.ensures }
