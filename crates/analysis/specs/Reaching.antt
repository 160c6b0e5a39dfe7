-- Which names reach one of some names, and which rows tell one that does; and what the tables hold by which they are found. Definitions; assumes
-- nothing.
use Rattle.std.specs.Prelude.{◌≡◌, ◌↔◌, ◌⊎◌, List, ℕ, suc, ◌+◌, ◌≤◌, ◌<◌, T, length, get_or, replicate}
use mathlib.Core.List.{Memᴰ}
use Rattle.format.specs.Book.{Definition}
use Rattle.format.specs.Layout.{row_at, entry_at}
use Rattle.environment.specs.Tables.{Nodes, Entries, definitions_in}
use Rattle.book.specs.Tables.{is_set}
use Rattle.listing.specs.References.{Reaches}

-- ---- What is answered

-- A wanted name is m, or is reached from it.
abbrev pub ReachesAny : List Definition → List ℕ → ℕ → Type 0
ReachesAny ds wanted m = (n : ℕ) × Memᴰ n wanted × ((m ≡ n) ⊎ Reaches ds m n)

-- A flag for each name: set where a wanted name is it or is reached from it.
pub record ReachAs (ds : List Definition) (wanted flags : List ℕ) : Type 0 where
  pub long : length flags ≡ 1024
  pub exact : (m : ℕ) → m < 1024 → T (is_set flags m) ↔ ReachesAny ds wanted m

-- Row i is the name v.
pub record IsName (ns : List ℕ) (i v : ℕ) : Type 0 where
  pub kind : (row_at ns i).kind ≡ 18
  pub value : (row_at ns i).value ≡ v

-- Row i is a name with its flag set.
pub record Hit (ns flags : List ℕ) (i : ℕ) : Type 0 where
  pub kind : (row_at ns i).kind ≡ 18
  pub flag : T (is_set flags (row_at ns i).value)

-- x is the first row from i on, before row `until`, that is a name with its flag set; `until` where there is none.
pub record FirstHit (ns flags : List ℕ) (i until x : ℕ) : Type 0 where
  pub later : i ≤ x
  pub inside : x ≤ until
  pub none : (j : ℕ) → i ≤ j → j < x → Hit ns flags j → ⊥
  pub some : x < until → Hit ns flags x

pub record NearAs (ns flags : List ℕ) (nodes : ℕ) (near : List ℕ) : Type 0 where
  pub long : length near ≡ 4097
  pub first : (i : ℕ) → i ≤ nodes → FirstHit ns flags i nodes (get_or near i 0)

-- A table has from place n on what it had.
pub record KeptFrom (n : ℕ) (old new : List ℕ) : Type 0 where
  pub kept : (i : ℕ) → n ≤ i → get_or new i 0 ≡ get_or old i 0

-- ---- Which rows are whose

-- The bodies of the first definitions lie apart, in the order of their entries.
pub record Apart (ns es : List ℕ) (definitions : ℕ) : Type 0 where
  pub apart : (c d : ℕ) → c < d → d < definitions → (entry_at es c).root + (row_at ns (entry_at es c).root).size ≤ (entry_at es d).root

-- What is asked of a book: its rows, and its first definitions.
pub record Defining (ns es : List ℕ) (names nodes definitions : ℕ) : Type 0 where
  pub known : Nodes ns names nodes
  pub entries : Entries es names nodes 0 definitions
  pub bodies : Apart ns es definitions

-- Row i lies in the body of a definition of the name n, one of the first `definitions`.
pub record OwnedBy (ns es : List ℕ) (definitions i n : ℕ) : Type 0 where
  pub entry : ℕ
  pub below : entry < definitions
  pub name : (entry_at es entry).name ≡ n
  pub from : (entry_at es entry).root ≤ i
  pub until : i < (entry_at es entry).root + (row_at ns (entry_at es entry).root).size

-- For each row one more than the name that owns it; 0 where none does.
pub record OwnersAs (ns es : List ℕ) (definitions : ℕ) (owners : List ℕ) : Type 0 where
  pub long : length owners ≡ 4096
  pub exact : (i n : ℕ) → OwnedBy ns es definitions i n ↔ (get_or owners i 0 ≡ suc n)

-- A table of rows that has nothing, and one that is one entry longer, as that of first rows is.
unfoldable pub no_rows : List ℕ
no_rows = replicate 4096 0

unfoldable pub no_places : List ℕ
no_places = replicate 4097 0

-- ---- Links: one more than a row, or 0 for none

-- x links the last row before row j that is the name v.
pub record LastName (ns : List ℕ) (v j x : ℕ) : Type 0 where
  pub inside : x ≤ j
  pub none : (i : ℕ) → x ≤ i → i < j → IsName ns i v → ⊥
  pub some : (i : ℕ) → x ≡ suc i → IsName ns i v

-- `head` links the last row that is a name, and `next` from a row that is a name the row before it that is the same name. `next` is kept where
-- the table of first rows is made after it.
pub record LinksAs (ns : List ℕ) (nodes : ℕ) (head next : List ℕ) : Type 0 where
  pub heads : length head ≡ 1024
  pub nexts : length next ≡ 4097
  pub last : (v : ℕ) → v < 1024 → LastName ns v nodes (get_or head v 0)
  pub before : (i v : ℕ) → i < nodes → IsName ns i v → LastName ns v i (get_or next i 0)

-- A table has what it had, but for rows that are names.
pub record KeptElse (ns : List ℕ) (nodes : ℕ) (old new : List ℕ) : Type 0 where
  pub kept : (i : ℕ) → ((v : ℕ) → i < nodes → IsName ns i v → ⊥) → get_or new i 0 ≡ get_or old i 0

-- The tables by which names that reach others are found are those of a book, whichever it is.
pub record Linked (owners head next : List ℕ) : Type 0 where
  pub rows : List ℕ
  pub entries : List ℕ
  pub names : ℕ
  pub nodes : ℕ
  pub definitions : ℕ
  pub book : Defining rows entries names nodes definitions
  pub owned : OwnersAs rows entries definitions owners
  pub links : LinksAs rows nodes head next

-- For each row the first one from it on that is a name which is a wanted one or reaches one; nothing for what is no row.
pub record NearestAs (ns es : List ℕ) (nodes definitions : ℕ) (wanted near : List ℕ) : Type 0 where
  pub flags : List ℕ
  pub reach : ReachAs (definitions_in ns es 0 definitions) wanted flags
  pub first : NearAs ns flags nodes near
  pub rest : (i : ℕ) → nodes < i → get_or near i 0 ≡ 0
