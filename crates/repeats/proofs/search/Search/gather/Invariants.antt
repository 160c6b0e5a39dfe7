use mathlib.Core.Path.{◌≡◌}
use Rattle.format.specs.Layout.{nodes_part}
use Rattle.book.specs.Walks.{Over}
use Rattle.repeats.proofs.Gathered.{Left}
use Rattle.repeats.proofs.search.Search.gather.Given as goal

abbrev pub invariant-loop-node : goal.invariant-loop-node
invariant-loop-node l =
    let bs = l.fn.self.names.index.book.bytes.now in
    let from = l.fn.children in
    Over (nodes_part bs) from.until l.node-iterator
    × Left bs (nodes_part bs) l.self.keys.items l.place from.at from.until l.node-iterator.at
    × (l.self.names.index.book.bytes.now ≡ bs)
