-- Flags by name number. Definitions; assumes nothing.
use Rattle.std.specs.Prelude.{◌≡◌, List, ℕ, ◌<◌}
use Rattle.judgement.specs.Check.{member}
use Rattle.book.specs.Tables.{is_set}

-- Flags tell a set of names.
abbrev pub Agrees : List ℕ → List ℕ → Type 0
Agrees flags set = (n : ℕ) → n < 1024 → is_set flags n ≡ member n set
