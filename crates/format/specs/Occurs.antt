-- Where a node stands in trees. Definitions; assumes nothing.
use Rattle.format.specs.Forest.{Forest, tree}
use Rattle.format.specs.Node.{Node}

-- A node with these children stands somewhere in a forest.
pub data Occurs (n : Node) (kids : Forest Node) : Forest Node → Type 0 where
  here : {next : Forest Node} → Occurs n kids (tree n kids next)
  below : {m : Node} {lids next : Forest Node} → Occurs n kids lids → Occurs n kids (tree m lids next)
  after : {m : Node} {lids next : Forest Node} → Occurs n kids next → Occurs n kids (tree m lids next)

-- It is one of the trees beside each other.
pub data Beside (n : Node) (kids : Forest Node) : Forest Node → Type 0 where
  first : {next : Forest Node} → Beside n kids (tree n kids next)
  later : {m : Node} {lids next : Forest Node} → Beside n kids next → Beside n kids (tree m lids next)
