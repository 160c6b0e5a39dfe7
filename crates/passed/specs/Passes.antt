-- What a checked book holds. Definitions; assumes nothing.
use Rattle.std.specs.Prelude.{List, ℕ}
use Rattle.book.specs.declared.kinds.Contents.{Contents}
use Rattle.syntax.specs.declared.interface.Interface.{Interface}
use Rattle.typing.specs.declared.tables.Tables.{Tables}
use Rattle.typing.specs.Passing.{PassedBook}

-- A book passed, and this is its own.
abbrev pub Passes : List ℕ → Contents → ℕ → Interface → Tables → Type 0
Passes bs c main i t = PassedBook bs c t.roots t.ends (record { main = main; interface = i })
