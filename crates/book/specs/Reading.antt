-- What the reader answers, from the definitions of the crate `format`. Definitions; assumes nothing.
use Rattle.std.specs.Prelude.{Option, Some, None, List, ◌≡◌, cond, ℕ, ◌+◌, ◌*◌, ◌≤◌, eqb, length}
use Rattle.labels.specs.declared.Label.{Label}
use Rattle.labels.specs.declared.Label.TheVariants.{Id}
use Rattle.format.specs.Forest.{count}
use Rattle.format.specs.Node.{Labelled, unlabelled, labelled}
use Rattle.format.specs.Book.{Book, trees}
use Rattle.format.specs.Encode.{Row, name_bytes, names_bytes, nodes_bytes, definitions_bytes}
use Rattle.format.specs.Encode as stored
use Rattle.format.specs.Layout.{Layout, broken, whole, layout}
use Rattle.book.specs.declared.kinds.Contents.{Contents}
use Rattle.book.specs.declared.read.Node.{Node}
use Rattle.book.specs.declared.read.Entry.{Entry}

-- The table of contents of a book's encoding.
unfoldable pub contents_of : Book → Contents
contents_of b =
    let nodes_at = 32 + length (names_bytes b) in
    let definitions_at = nodes_at + length (nodes_bytes b) in
    record {
      names = length b.names;
      nodes_at = nodes_at;
      nodes = count (trees b);
      definitions_at = definitions_at;
      definitions = length b.definitions;
      files_at = definitions_at + length (definitions_bytes b);
      files = length b.files;
    }

-- What bytes are, as the code answers it: no book, or one with this table of contents.
abbrev pub as_reading : Layout → Option Contents
as_reading broken = None
as_reading (whole b) = Some (contents_of b)

unfoldable pub reading : List ℕ → Option Contents
reading bs = as_reading (layout bs)

-- Bytes that are a book, with this table of contents, whether 24 or 18 follows or not: what all code after the layout stands on.
pub record Admitted (bs : List ℕ) (c : Contents) : Type 0 where
  pub book : Book
  pub laid : layout bs ≡ whole book
  pub table : contents_of book ≡ c

-- ---- What the readers of rows, entries and names ask and say

-- A stored node and a stored entry, as the definitions have them.
abbrev pub as_row : Node → Row
as_row n = record { kind = n.kind; lkind = n.label_kind; size = n.size; value = n.value; label = n.label }

abbrev pub as_entry : Entry → stored.Entry
as_entry e = record { name = e.name; owner = e.owner; root = e.root; reserved = e.reserved }

-- The label of a node; the number n for one that has none.
abbrev pub label_or : ℕ → Labelled → Label
label_or n unlabelled = Id n
label_or n (labelled l) = l

-- The bytes hold the entries before entry n; no book has more than 512.
pub record EntryWithin (es : List ℕ) (n : ℕ) : Type 0 where
  pub held : n * 8 ≤ length es
  pub few : length es ≤ 4096

-- The node that a stored root is; none where it is 65,535.
unfoldable pub stored_root : ℕ → Option ℕ
stored_root root = cond (eqb root 65535) None (Some root)
