-- Where a node stands in trees, with its number: a book stores nodes in preorder, from 0. Definitions; assumes nothing.
use Rattle.std.specs.Prelude.{ℕ, suc, ◌+◌}
use Rattle.format.specs.Forest.{Forest, tree, count}
use Rattle.format.specs.Node.{Node}

-- Node i of a forest is this one, with these children (`Occurs` with a number).
pub data NodeAt (n : Node) (kids : Forest Node) : ℕ → Forest Node → Type 0 where
  root : {next : Forest Node} → NodeAt n kids 0 (tree n kids next)
  below : {m : Node} {lids next : Forest Node} {i : ℕ} → NodeAt n kids i lids → NodeAt n kids (suc i) (tree m lids next)
  after : {m : Node} {lids next : Forest Node} {i : ℕ} → NodeAt n kids i next → NodeAt n kids (suc (count lids + i)) (tree m lids next)

-- It is one of the trees beside each other, and node i of them (`Beside` with a number).
pub data TreeAt (n : Node) (kids : Forest Node) : ℕ → Forest Node → Type 0 where
  first : {next : Forest Node} → TreeAt n kids 0 (tree n kids next)
  later : {m : Node} {lids next : Forest Node} {i : ℕ} → TreeAt n kids i next → TreeAt n kids (suc (count lids + i)) (tree m lids next)
