-- What the contract of `empty_names` says. Definitions; assumes nothing.
use Rattle.std.specs.Prelude.{◌≡◌, List, ℕ, length}
use Rattle.format.specs.Book.{Definition}
use Rattle.listing.specs.Recursive.{sorted}
use Rattle.listing.specs.Empty.{unfilled}
use Rattle.environment.specs.Tables.{Binds}
use Rattle.book.specs.Tables.{flagged}

-- The flags that are set are those of the names that are empty.
pub record EmptiedAs (ns roots : List ℕ) (names : ℕ) (flags : List ℕ) : Type 0 where
  pub long : length flags ≡ 1024
  pub is : (ds : List Definition) → Binds ns roots ds → flagged flags 0 names ≡ sorted (unfilled ds) 0 names
