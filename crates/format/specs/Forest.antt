-- Trees that stand beside each other. Definitions; assumes nothing.
use Rattle.std.specs.Prelude.{Bool, true, false, List, [], ◌∷◌, ◌++◌, ℕ, zero, suc, ◌+◌}

-- None, or a first tree, which is a node and the forest of its children, and the trees after it.
pub data Forest (A : Type 0) : Type 0 where
  end : Forest A
  tree : (node : A) (kids : Forest A) (next : Forest A) → Forest A

-- How many nodes a forest has.
unfoldable pub count : {A : Type 0} → Forest A → ℕ
count end = 0
count (tree n kids next) = suc (count kids + count next)

-- How many trees stand beside each other.
unfoldable pub breadth : {A : Type 0} → Forest A → ℕ
breadth end = 0
breadth (tree n kids next) = suc (breadth next)

-- The nodes in preorder: a node, all below it, and then what stands after it.
unfoldable pub preorder : {A : Type 0} → Forest A → List A
preorder end = []
preorder (tree n kids next) = n ∷ (preorder kids ++ preorder next)

-- The trees of f, and then those of g.
unfoldable pub beside : {A : Type 0} → Forest A → Forest A → Forest A
beside end g = g
beside (tree n kids next) g = tree n kids (beside next g)

-- Whether there is no tree.
unfoldable pub no_trees : {A : Type 0} → Forest A → Bool
no_trees end = true
no_trees (tree n kids next) = false

-- The first tree alone; the trees after it; the trees after the first k.
unfoldable pub first_tree : {A : Type 0} → Forest A → Forest A
first_tree end = end
first_tree (tree n kids next) = tree n kids end

unfoldable pub other_trees : {A : Type 0} → Forest A → Forest A
other_trees end = end
other_trees (tree n kids next) = next

unfoldable pub after_trees : {A : Type 0} → ℕ → Forest A → Forest A
after_trees zero f = f
after_trees (suc k) f = after_trees k (other_trees f)

-- The forest of the same shape with g of each node.
unfoldable pub map_forest : {A B : Type 0} → (A → B) → Forest A → Forest B
map_forest g end = end
map_forest g (tree n kids next) = tree (g n) (map_forest g kids) (map_forest g next)
