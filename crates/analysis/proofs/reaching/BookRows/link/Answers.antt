-- `BookRows::link` meets its contract: one row more is linked each turn. Assumes nothing.
use mathlib.Core.Path.{refl}
use Rattle.analysis.proofs.reaching.Links.{links-same, links-start, links-skip, links-on}
use Rattle.analysis.proofs.reaching.BookRows.link.Goals as goal
use Rattle.analysis.proofs.reaching.BookRows.link.Goals.{then-t, else-t}

pub loop-j-init : goal.loop-j-init
loop-j-init c = links-start _ _ _ _ c.requires c.told-next

pub loop-j-preserved : goal.loop-j-preserved
loop-j-preserved c =
    let k = c.args.self.known in
    let l = c.loop-j.invariant in
    elim c.if-t.branch [
      | then-t w ↦ links-same _ _ w.head-is w.next-is (links-on k l c.loop-j-test.true _ c.at-t.ensures w.if-t.true _ refl)
      | else-t w ↦ links-same _ _ w.head-is w.next-is (links-skip k l c.loop-j-test.true _ c.at-t.ensures w.if-t.false)
    ]
