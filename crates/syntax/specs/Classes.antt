-- A class as the code cuts it. Definitions; assumes nothing.
use Rattle.std.specs.Prelude.{◌≡◌, List, Option, Some, None, ℕ, ◌+◌, ◌≤◌, ◌<◌, MatchOption, IsSomeAnd}
use Rattle.format.specs.Forest.{Forest, end}
use Rattle.format.specs.Node.{Node}
use Rattle.format.specs.Layout.{row_at, siblings}
use Rattle.format.specs.Whole.{Whole, tree_at}
use Rattle.judgement.specs.Actor.{last_tree, all_but_last, class_arguments, below_class}
use Rattle.syntax.specs.declared.class.Top.{Top}

-- The tree at a node, or none.
unfoldable pub tree_of : List ℕ → Option ℕ → Forest Node
tree_of ns None = end
tree_of ns (Some n) = tree_at ns n

-- The last of the trees from node `from` up to node `until`, and those before it.
pub record LastAs (ns : List ℕ) (from until last : ℕ) : Type 0 where
  pub later : from ≤ last
  pub inside : last < until
  pub ends : last + (row_at ns last).size ≡ until
  pub before : Whole ns from last
  pub rest : siblings ns from last ≡ all_but_last (siblings ns from until)
  pub is : tree_at ns last ≡ last_tree (siblings ns from until)

-- What stands below a class's top.
pub record BelowAs (ns : List ℕ) (n below : ℕ) : Type 0 where
  pub later : n ≤ below
  pub ends : below + (row_at ns below).size ≡ n + (row_at ns n).size
  pub inside : below < n + (row_at ns n).size
  pub is : tree_at ns below ≡ below_class (tree_at ns n)

-- Trees that are the arguments of a class; none of another type.
pub record ArgumentsAs (ns : List ℕ) (count : ℕ) (t : Forest Node) (from until : ℕ) : Type 0 where
  pub whole : Whole ns from until
  pub inside : until ≤ count
  pub are : siblings ns from until ≡ class_arguments t

-- Both, of an actor whose root is this node.
pub record TopAs (ns : List ℕ) (count root : ℕ) (r : Top) : Type 0 where
  pub arguments : ArgumentsAs ns count (tree_at ns root) r.from r.until
  pub below : BelowAs ns root r.below

-- That of an actor of this root; none where there is no root.
abbrev pub TopFound : List ℕ → ℕ → Option ℕ → Option Top → Type 0
TopFound ns count root r = MatchOption root (r ≡ None) (λ n. IsSomeAnd r (TopAs ns count n))
