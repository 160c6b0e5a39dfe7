-- What walks over a book yield. Definitions; assumes nothing.
use Rattle.std.specs.Prelude.{◌≡◌, Option, None, Some, List, length, ℕ, ◌+◌, ◌-◌, ◌≤◌, ◌<◌}
use Rattle.format.specs.Encode as stored
use Rattle.format.specs.Layout.{names_of, row_at, run, entry_at}
use Rattle.book.specs.declared.walks.Siblings.{Siblings}
use Rattle.book.specs.declared.walks.Entries.{Entries}
use Rattle.book.specs.declared.walks.Names.{Names}
use Rattle.book.specs.declared.read.Node.{Node}
use Rattle.book.specs.declared.read.Entry.{Entry}
use Rattle.book.specs.Reading.{as_row, as_entry}

-- A walk over trees goes over these rows, up to this node.
pub record Over (ns : List ℕ) (e : ℕ) (s : Siblings) : Type 0 where
  pub rows : s.rows.now ≡ ns
  pub until : s.until ≡ e

-- A walk over trees gave the one at its place, and went on to the place after it.
pub record NextTree (s : Siblings) (n : ℕ) (node : Node) (t : Siblings) : Type 0 where
  pub left : s.at < s.until
  pub place : n ≡ s.at
  pub row : as_row node ≡ row_at s.rows.now s.at
  pub rows : t.rows ≡ s.rows
  pub until : t.until ≡ s.until
  pub at : t.at ≡ s.at + (row_at s.rows.now s.at).size

abbrev pub Walks : Siblings → Option (ℕ × Node) → Siblings → Type 0
Walks s None t = (s.at ≡ s.until) × (t ≡ s)
Walks s (Some x) t = NextTree s x.0 x.1 t

-- The place of a walk, if there is one.
abbrev pub place_of : Option Siblings → Option ℕ
place_of None = None
place_of (Some s) = Some s.at

-- A walk over entries goes over these bytes, up to this entry.
pub record OverEntries (es : List ℕ) (e : ℕ) (s : Entries) : Type 0 where
  pub bytes : s.bytes.now ≡ es
  pub until : s.until ≡ e

-- A walk over entries gave the one at its place, and went on to the next.
pub record NextEntry (s : Entries) (e : Entry) (t : Entries) : Type 0 where
  pub left : s.at < s.until
  pub entry : as_entry e ≡ entry_at s.bytes.now s.at
  pub bytes : t.bytes ≡ s.bytes
  pub until : t.until ≡ s.until
  pub at : t.at ≡ s.at + 1

abbrev pub WalksEntries : Entries → Option Entry → Entries → Type 0
WalksEntries s None t = (s.until ≤ s.at) × (t ≡ s)
WalksEntries s (Some e) t = NextEntry s e t

-- The entries that a walk over entries has left.
abbrev pub entries_left : Entries → List stored.Entry
entries_left s = run (entry_at s.bytes.now) s.at (s.until - s.at)

-- The names that a walk over names has left.
abbrev pub names_left : Names → List (List ℕ)
names_left s = names_of (length s.rest.now) s.rest.now
