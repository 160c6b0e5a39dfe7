-- What the code that walks a book's bytes asks of them, and where trees, definitions and files lie in them. Definitions; assumes nothing.
use Rattle.std.specs.Prelude.{◌≡◌, cond, List, ℕ, ◌+◌, ◌*◌, ◌≤◌, ◌<◌, length, eqb}
use Rattle.format.specs.Forest.{Forest, end}
use Rattle.format.specs.Node.{Node}
use Rattle.format.specs.Book.{Definition, File}
use Rattle.format.specs.Encode.{Row, Entry, row_of}
use Rattle.format.specs.Layout.{row_at, row_trees, siblings, node_of, role_of}
use Rattle.format.specs.Rules.{Sized}

-- The bytes hold the rows before row n, and no more than 4096 rows.
pub record Within (ns : List ℕ) (n : ℕ) : Type 0 where
  pub held : n * 12 ≤ length ns
  pub few : length ns ≤ 49152

-- The rows from i up to e are whole trees that stand beside each other.
pub record Whole (ns : List ℕ) (i e : ℕ) : Type 0 where
  pub ordered : i ≤ e
  pub within : Within ns e
  pub sized : Sized (row_trees ns i e)

-- Node n is the root of a whole tree.
pub record WholeAt (ns : List ℕ) (n : ℕ) : Type 0 where
  pub one : 1 ≤ (row_at ns n).size
  pub within : Within ns (n + (row_at ns n).size)
  pub sized : Sized (row_trees ns (n + 1) (n + (row_at ns n).size))

-- Node n is the root of a whole tree, all of which is before node e.
pub record WholeIn (ns : List ℕ) (n e : ℕ) : Type 0 where
  pub whole : WholeAt ns n
  pub ends : n + (row_at ns n).size ≤ e

-- The kinds are those of document 01, the names exist, and the row is the one of its node.
pub record RowFits (names : ℕ) (r : Row) : Type 0 where
  pub kind : r.kind < 27
  pub lkind : r.lkind < 4
  pub name : r.kind ≡ 18 → r.value < names
  pub label : r.lkind ≡ 2 → r.label < names
  pub same : row_of (node_of r) r.size ≡ r

-- ---- What is stored where

-- The tree at a node.
abbrev pub tree_at : List ℕ → ℕ → Forest Node
tree_at ns n = siblings ns n (n + (row_at ns n).size)

-- The definition that an entry says.
abbrev pub definition_at : List ℕ → Entry → Definition
definition_at ns e = record { name = e.name; file = e.owner; body = tree_at ns e.root }

-- The tree that a file's entry says: none where its root is 65,535.
abbrev pub actor_at : List ℕ → ℕ → Forest Node
actor_at ns root = cond (eqb root 65535) end (tree_at ns root)

abbrev pub file_at : List ℕ → Entry → File
file_at ns e = record { name = e.name; role = role_of e.owner; actor = actor_at ns e.root }
