-- `end_of` meets its contract. Assumes nothing.
use mathlib.Core.Path.{◌∙◌}
use Rattle.environment.proofs.ChainEnds.{end-other, end-named, crossed-other, crossed-named, reached}
use Rattle.environment.proofs.end_of.Goals as goal

pub returns-then-t : goal.returns-then-t
returns-then-t c = reached (end-other _ _ _ _ c.at-t.ensures c.if-t.true) (crossed-other _ _ _ _ c.at-t.ensures c.if-t.true)

pub returns : goal.returns
returns c =
    reached
    (c.node.ensures ∙ end-named _ _ _ _ c.at-t.ensures c.if-t.false)
    (c.crossed.ensures ∙ crossed-named _ _ _ _ c.at-t.ensures c.if-t.false)
