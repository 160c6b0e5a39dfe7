-- `mark_of` meets its contract. Assumes nothing.
use mathlib.Core.Path.{sym, ◌∙◌}
use Rattle.list.specs.Printed.{mark_of}
use Rattle.list.proofs.Listed.{member-any}
use Rattle.list.proofs.mark_of.Goals as goal

pub returns-then-contains : goal.returns-then-contains
unfolding mark_of
returns-then-contains c = rw (sym (c.contains.ensures.value ∙ member-any c.args.name c.args.marked.now) ∙ c.if-contains.true)

pub returns-else-contains : goal.returns-else-contains
unfolding mark_of
returns-else-contains c = rw (sym (c.contains.ensures.value ∙ member-any c.args.name c.args.marked.now) ∙ c.if-contains.false)
