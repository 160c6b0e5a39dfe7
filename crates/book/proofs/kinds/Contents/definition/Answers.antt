-- `Contents::definition` meets its contract: the tests of an entry in the order of the code. Assumes nothing.
use mathlib.Core.Path.{sym, subst, ◌∙◌}
use lib.Dec.{T}
use Rattle.book.proofs.Entries.{definition-fine, definition-none, definition-init, definition-next}
use Rattle.book.proofs.kinds.Contents.definition.Goals as goal

pub returns-then-not-definition_fine-clause-finds : goal.returns-then-not-definition_fine-clause-finds
returns-then-not-definition_fine-clause-finds c es fs x =
    subst T (sym c.definition_fine.ensures ∙ c.if-not-definition_fine.true) (definition-fine _ _ _ _ _ es fs _ x)

pub returns-in_err-root-clause-finds : goal.returns-in_err-root-clause-finds
returns-in_err-root-clause-finds c = rw c.from_residual.ensures (definition-none _ _ _ _ c.args.trees c.in_err-root.ensures.steps.0)

pub returns-then-root-clause-finds : goal.returns-then-root-clause-finds
returns-then-root-clause-finds c = definition-init _ _ _ _ c.args.trees c.in_ok-root.ensures.steps c.if-root.true

pub returns-clause-finds : goal.returns-clause-finds
returns-clause-finds c =
    definition-next _ _ _ _ c.args.trees c.in_ok-root.ensures.steps (sym c.definition_fine.ensures ∙ c.if-not-definition_fine.false) c.if-root.false
