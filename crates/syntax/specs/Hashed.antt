-- What the code that compares the hashes of methods asks. Definitions; assumes nothing.
use Rattle.std.specs.Prelude.{List, [], ◌∷◌, ℕ, All}
use Rattle.format.specs.Forest.{Forest, end, tree}
use Rattle.format.specs.Node.{Node, label_value}
use Rattle.environment.specs.Trees.{AllTrees}
use Rattle.syntax.specs.Interfaces.{IsService}

-- These nodes are services of an admitted book.
pub record ServicesIn (ns services : List ℕ) : Type 0 where
  pub names : ℕ
  pub nodes : ℕ
  pub all : AllTrees ns names nodes
  pub service : All (IsService ns nodes) services

-- The numbers that label methods.
unfoldable pub labels_of : Forest Node → List ℕ
labels_of end = []
labels_of (tree n kids next) = label_value n.label ∷ labels_of next
