-- Tables of roots and of alias ends. Definitions; assumes nothing.
use Rattle.std.specs.Prelude.{◌≡◌}
use Rattle.book.specs.Tables.{blank_table, zero_table}
use Rattle.typing.specs.declared.tables.Tables.{Tables}

-- They have nothing.
pub record IsBlank (t : Tables) : Type 0 where
  pub roots : t.roots ≡ blank_table
  pub ends : t.ends ≡ zero_table
