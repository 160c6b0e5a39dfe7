use mathlib.Core.Path.{◌≡◌}
use Rattle.book.specs.Walks.{Over}
use Rattle.analysis.specs.Entries.{side_number}
use Rattle.analysis.proofs.def_use.Trees.{TreesLeft}
use Rattle.analysis.proofs.def_use.Searched.put_trees.Given as goal

abbrev pub invariant-loop-index : goal.invariant-loop-index
invariant-loop-index l = record {
  same : l.uses.out.ghost_name ≡ l.initial.uses.out.ghost_name;
  over : Over l.fn.trees.rows.now l.fn.trees.until l.index-iterator.iter;
  left : TreesLeft l.fn.trees.rows.now l.self.near.now l.method (side_number l.side) l.fn.trees.at l.fn.trees.until l.initial.uses.count l.initial.uses.out.now l.uses.out.now l.index-iterator.iter.at l.index-iterator.count l.uses.count;
}
