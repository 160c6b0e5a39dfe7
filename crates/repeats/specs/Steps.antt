-- What the functions that find a repeat ask and promise each other. Definitions; assumes nothing.
-- The book of bytes bs that are one is `read bs` (format, specs/Layout.antt).
use Rattle.std.specs.Prelude.{◌≡◌, false, Option, Some, None, List, ℕ, ◌≤◌, ◌<◌, get_or, min}
use Rattle.labels.specs.Number.{label_number}
use Rattle.format.specs.Forest.{count}
use Rattle.format.specs.Book.{trees}
use Rattle.format.specs.Layout.{nodes_part, row_at, read, whole, layout, name_in}
use Rattle.format.specs.Whole.{Whole}
use Rattle.repeats.specs.Keys.{is_parent}

-- The bytes are a book, whose nodes' bytes are ns.
pub record Stands (bs ns : List ℕ) : Type 0 where
  pub laid : layout bs ≡ whole (read bs)
  pub rows : ns ≡ nodes_part bs

-- The label numbers that are known are those of their names.
pub record Hashed (bs : List ℕ) (hashes : List (Option ℕ)) : Type 0 where
  pub right : (n v : ℕ) → get_or hashes n None ≡ Some v → v ≡ label_number (name_in bs n)

-- The trees from node i up to node e are whole, and nodes of the book.
pub record Between (bs ns : List ℕ) (i e : ℕ) : Type 0 where
  pub whole : Whole ns i e
  pub inside : e ≤ count (trees (read bs))

-- The lower of two numbers, where there are any.
abbrev pub LowerOf : Option ℕ → Option ℕ → Option ℕ → Type 0
LowerOf None b r = r ≡ b
LowerOf (Some a) None r = r ≡ Some a
LowerOf (Some a) (Some b) r = r ≡ Some (min a b)

-- No node before node r has siblings to compare below it.
abbrev pub Skipped : List ℕ → ℕ → Type 0
Skipped ns r = (i : ℕ) → i < r → is_parent (row_at ns i) ≡ false
