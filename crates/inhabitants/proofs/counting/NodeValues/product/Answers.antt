-- `NodeValues::product` meets its contract: what is left of the types. Assumes nothing.
use mathlib.Core.Path.{ap, ◌∙◌}
use Rattle.listing.specs.Values.{capped}
use Rattle.book.proofs.Walking.{over-next}
use Rattle.inhabitants.proofs.counting.Types.{product-next, product-end}
use Rattle.inhabitants.proofs.counting.NodeValues.product.Goals as goal

pub loop-c-preserved : goal.loop-c-preserved
loop-c-preserved c =
    let i = c.loop-c.invariant in
    let x = c.in-Some.ensures.steps in
    record { over = over-next i.over x; left = product-next i.over x i.left (c.capped-total.ensures ∙ ap capped c.saturating_mul.ensures) }

pub returns : goal.returns
returns c = let i = c.loop-c.invariant in product-end i.over i.left c.in-None.ensures.steps
