-- `Searched::put_uses` meets its contract. Assumes nothing.
use mathlib.Core.Path.{◌∙◌}
use Rattle.std.proofs.Common.{rules}
use Rattle.analysis.specs.Entries.{Offered}
use Rattle.analysis.proofs.def_use.Methods.{services-on, uses-end}
use Rattle.analysis.proofs.def_use.Searched.put_uses.Goals as goal

pub loop-s-preserved : goal.loop-s-preserved
loop-s-preserved c =
    let a = c.args in
    let o : Offered a.self.now.rows.now a.self.now.ends.now a.self.now.near.now a.offer.now.from a.offer.now.until c.as_slice-s-items.result.now = rw c.as_slice-s-items.ensures.all c.requires in
    let l = c.loop-s.invariant in
    let e = c.put_methods-m.ensures in
    record {
      same = e.same ∙ l.same;
      left = services-on l.left c.loop-s-test.true (o.offer.book.tree _ (o.offer.service c.loop-s.s-index c.loop-s-test.true)).whole e.position e.most e.adds;
    }

pub returns-clause-puts : goal.returns-clause-puts
returns-clause-puts c =
    let trees = rw (c.new-arguments.ensures.over.rows, c.new-arguments.ensures.over.until, c.new-arguments.ensures.at) at c.put_trees.ensures.adds in
    λ x.
    let p = uses-end c.loop-s.invariant.left c.loop-s-test.false c.as_slice-s-items.ensures.all trees x in
    record { counted = p.counted; written = search rules }
