-- The values of a book's definitions, counted once for any number of names. Definitions; assumes nothing.
use Rattle.std.specs.Prelude.{◌≡◌, ℕ, get_or}
use Rattle.judgement.specs.Environment.{main_definitions}
use Rattle.listing.specs.Values.{name_values}
use Rattle.inhabitants.specs.declared.counting.NodeValues.{NodeValues}
use Rattle.passed.specs.declared.CheckedBook.{CheckedBook}
use Rattle.passed.specs.Checked.{book_of}

-- The number at the root of each definition is that of its values.
abbrev pub Counted : CheckedBook → NodeValues → Type 0
Counted b v = (n : ℕ) → (get_or b.tables.roots n 65535 ≡ 65535 → ⊥) → get_or v.numbers (get_or b.tables.roots n 65535) 0 ≡ name_values (main_definitions (book_of b)) n
