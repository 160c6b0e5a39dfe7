-- `Searched::put_func` meets its contract. Assumes nothing.
use Rattle.analysis.proofs.def_use.Methods.{func-puts}
use Rattle.analysis.proofs.def_use.Searched.put_func.Goals as goal

pub returns-clause-adds : goal.returns-clause-adds
returns-clause-adds c = func-puts c.requires.0 _ c.at-t.ensures (rw (c.new-trees.ensures.over.rows, c.new-trees.ensures.over.until, c.new-trees.ensures.at) at c.skip-from.ensures) c.args.self.now.near.now c.args.method _ (rw (c.new-arguments.ensures.over.rows, c.new-arguments.ensures.over.until, c.new-arguments.ensures.at) at c.put_trees.ensures.adds) (rw (c.new-results.ensures.over.rows, c.new-results.ensures.over.until, c.new-results.ensures.at) at c.put_trees-2.ensures.adds)
