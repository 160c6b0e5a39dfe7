-- What an admitted book gives whoever reads its nodes and entries. Assumes nothing.
--     nodes-known, entries-known, trees-fit      of bytes that lay out a book
--     nodes-of, all-trees, entries-of, ..        the same of an admitted book by its contents
use mathlib.Core.Path.{◌≡◌}
use mathlib.Core.List.{List}
use Prim.Native.Nat.{ℕ, ◌+◌, ◌*◌, ◌≤◌, ◌<◌}
use native.Mathlib.Omega.{arith}
use lib.Dec.{T}
use lib.ListN.{length}
use Rattle.format.specs.declared.Place.TheVariants.{Root}
use Rattle.format.specs.Forest.{count}
use Rattle.format.specs.Book.{Book, trees}
use Rattle.format.specs.Fits.{forest_fits}
use Rattle.format.specs.Layout.{nodes_part, definitions_part, siblings, whole, layout}
use Rattle.format.proofs.Encoded.{all-fit}
use Rattle.format.proofs.Admitted.{admitted-parts, nodes-long, definitions-held, trees-are, trees-whole, node-stored, definition-stored}
use Rattle.book.specs.declared.kinds.Contents.{Contents}
use Rattle.book.specs.Reading.{EntryWithin, Admitted}
use Rattle.book.proofs.Opened.{names-count, nodes-count, definitions-count}
use Rattle.environment.specs.Tables.{Nodes, Entries}
use Rattle.environment.specs.Trees.{AllTrees}

-- ---- Bytes bs that lay out the book b
module _ (bs : List ℕ) {b : Book} (w : layout bs ≡ whole b) where
  pub few-definitions : length b.definitions ≤ 512
  few-definitions = (admitted-parts bs w).few_definitions

  pub definitions-within : EntryWithin (definitions_part bs) (length b.definitions)
  definitions-within = let h = definitions-held bs w in record { held = h.0; few = h.1 }

  pub nodes-known : Nodes (nodes_part bs) (length b.names) (count (trees b))
  nodes-known =
      record {
        few_names = (admitted-parts bs w).few_names;
        few_nodes = (admitted-parts bs w).few_nodes;
        within = (trees-whole bs w).within;
        tree = λ n h. (node-stored bs w n h).tree;
        row = λ n h. (node-stored bs w n h).row;
      }

  pub entries-known : (from to : ℕ) → from ≤ to → to ≤ length b.definitions → Entries (definitions_part bs) (length b.names) (count (trees b)) from to
  entries-known from to h k =
      record {
        ordered = h;
        held = omega (arith, definitions-within.held);
        few = definitions-within.few;
        name = λ d l m. (definition-stored bs w d (omega arith)).name;
        root = λ d l m. let t = (definition-stored bs w d (omega arith)).tree in omega (arith, t.ends, t.whole.one);
      }

  pub trees-fit : T (forest_fits (length b.names) Root (siblings (nodes_part bs) 0 (count (trees b))))
  trees-fit = rw (trees-are bs w) (all-fit (admitted-parts bs w))

-- ---- An admitted book, by its contents
module _ {bs : List ℕ} {c : Contents} (a : Admitted bs c) where
  pub entries-held : EntryWithin (definitions_part bs) c.definitions
  entries-held = rw (definitions-count a) (definitions-within bs a.laid)

  pub entry-within : {to k : ℕ} → to ≤ c.definitions → k < to → EntryWithin (definitions_part bs) (k + 1)
  entry-within h l = record { held = omega (arith, entries-held.held); few = entries-held.few }

  pub few-all : c.definitions ≤ 512
  few-all = omega (arith, few-definitions bs a.laid, definitions-count a)

  pub book-trees : AllTrees (nodes_part bs) (length a.book.names) (count (trees a.book))
  book-trees = record { nodes = nodes-known bs a.laid; whole = trees-whole bs a.laid; fits = trees-fit bs a.laid }

  pub all-trees : AllTrees (nodes_part bs) c.names c.nodes
  all-trees = rw (names-count a, nodes-count a) book-trees

  pub rows-exact : length (nodes_part bs) ≤ c.nodes * 12
  rows-exact = omega (arith, nodes-long bs a.laid, nodes-count a)

  pub nodes-of : Nodes (nodes_part bs) c.names c.nodes
  nodes-of = all-trees.nodes

  -- the entries from one to another
  module _ {from to : ℕ} (l : from ≤ to) (h : to ≤ c.definitions) where
    pub entries-of : Entries (definitions_part bs) c.names c.nodes from to
    entries-of = rw (names-count a, nodes-count a) (entries-known bs a.laid from to l (omega (arith, definitions-count a)))
