-- What the merge of two sets of definitions asks and says. Definitions; assumes nothing.
use Rattle.std.specs.Prelude.{◌≡◌, Bool, true, cond, ◌&&◌, List, ℕ, ◌≤◌, ◌<◌, length, get_or, eqb}
use Rattle.labels.specs.declared.Label.{Label}
use Rattle.labels.specs.declared.Label.TheVariants.{Id, Named, Unnamed}
use Rattle.book.specs.Tables.{HashesOf, HashesAgree}
use Rattle.book.specs.Walks.{Over}
use Rattle.book.specs.declared.walks.Siblings.{Siblings}
use Rattle.format.specs.declared.Place.{Place}
use Rattle.format.specs.declared.Place.TheVariants.{Root}
use Rattle.format.specs.Node.{Node}
use Rattle.format.specs.Whole.{tree_at}
use Rattle.judgement.specs.Environment.{same_kind, same_forest}
use Rattle.format.specs.Labels.{same_label}
use Rattle.environment.specs.Tables.{Nodes, Roots}

-- ---- Two forests

-- A table of the label numbers of some names.
pub record HashTable (hashes : List ℕ) : Type 0 where
  pub spelt : List (List ℕ)
  pub are : HashesOf hashes spelt

-- A label's name is within the table, and this is its label number; 0 where a label is no name.
abbrev pub NameIn : Label → Type 0
NameIn (Id n) = Unit {0}
NameIn (Named n) = n < 1024
NameIn (Unnamed n) = Unit {0}

abbrev pub hash_in : List ℕ → Label → ℕ
hash_in hashes (Id n) = 0
hash_in hashes (Named n) = get_or hashes n 0
hash_in hashes (Unnamed n) = 0

-- Two nodes are the same but for what is below them.
unfoldable pub same_node : List (List ℕ) → Place → Node → Node → Bool
same_node names p n m = same_kind n.kind m.kind && same_label names p n.label m.label

-- What is answered where the table has the label numbers of these names.
abbrev pub ByNames : List ℕ → (List (List ℕ) → Type 0) → Type 0
ByNames hashes P = (names : List (List ℕ)) → HashesAgree hashes names → P names

-- Two walks are over trees of a book.
pub record Compared (ns : List ℕ) (a b : Siblings) : Type 0 where
  pub names : ℕ
  pub count : ℕ
  pub nodes : Nodes ns names count
  pub first : Over ns a.until a
  pub first-in : a.until ≤ count
  pub second : Over ns b.until b
  pub second-in : b.until ≤ count

-- ---- Two tables of roots

-- Nodes of a book, the label numbers of its names, and two tables of roots.
pub record Mergeable (ns hashes init main : List ℕ) (names : ℕ) : Type 0 where
  pub count : ℕ
  pub nodes : Nodes ns names count
  pub hashed : HashTable hashes
  pub counted : length hashed.spelt ≡ names
  pub first : Roots init count
  pub second : Roots main count

-- A root of each table, that is none or a node of a book.
pub record ComparedRoots (ns : List ℕ) (a b : ℕ) : Type 0 where
  pub names : ℕ
  pub count : ℕ
  pub nodes : Nodes ns names count
  pub first : (a ≡ 65535 → ⊥) → a < count
  pub second : (b ≡ 65535 → ⊥) → b < count

-- A root of each table: at least one is none, or their trees are the same.
unfoldable pub same_roots : List (List ℕ) → List ℕ → ℕ → ℕ → Bool
same_roots names ns a b = cond (eqb a 65535) true (cond (eqb b 65535) true (same_forest names Root (tree_at ns a) (tree_at ns b)))

-- The root of the first table, or that of the second where there is none.
unfoldable pub either_root : ℕ → ℕ → ℕ
either_root a b = cond (eqb a 65535) b a

pub record MergedAs (init main roots : List ℕ) : Type 0 where
  pub long : length roots ≡ 1024
  pub root : (n : ℕ) → get_or roots n 65535 ≡ either_root (get_or init n 65535) (get_or main n 65535)
