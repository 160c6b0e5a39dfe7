-- `Searched::put_trees` meets its contract. Assumes nothing.
use mathlib.Core.Path.{◌∙◌}
use native.Mathlib.Omega.{arith}
use Rattle.book.proofs.Walking.{last, over-next}
use Rattle.analysis.proofs.def_use.Entries.{puts-one}
use Rattle.analysis.proofs.def_use.Trees.{tree-out, tree-in, trees-end, trees-on}
use Rattle.analysis.proofs.def_use.Searched.put_trees.Goals as goal

pub loop-index-preserved-then-self-i : goal.loop-index-preserved-then-self-i
loop-index-preserved-then-self-i c =
    let l = c.loop-index.invariant in
    let x = c.in-Some.ensures.steps in
    record {
      same = c.put.ensures.same ∙ l.same;
      over = over-next l.over x.0;
      left = trees-on l.over l.left x.0 x.1 x.2 (tree-in c.args.self.now.near.now c.in-Some.i _ _ c.if-self-i.true (puts-one c.put.ensures.put c.put.ensures.count c.number.ensures));
    }

pub loop-index-preserved : goal.loop-index-preserved
loop-index-preserved c =
    let l = c.loop-index.invariant in
    let x = c.in-Some.ensures.steps in
    record {
      same = l.same;
      over = over-next l.over x.0;
      left = trees-on l.over l.left x.0 x.1 x.2 (tree-out c.args.self.now.near.now c.in-Some.i _ _ c.if-self-i.false _ _ _);
    }

pub returns-clause-adds : goal.returns-clause-adds
returns-clause-adds c =
    let l = c.loop-index.invariant in
    let end = last l.over c.in-None.ensures.steps.0 in
    trees-end l.left (omega arith)
