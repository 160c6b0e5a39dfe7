-- The first number of a list that stands in it before. Definitions; assumes nothing.
use mathlib.Core.List.{List, Memᴰ}
use Rattle.std.specs.Prelude.{ℕ, ◌<◌, length, get_or, take}
use Rattle.format.specs.Distinct.{Distinct}

-- The number at place n stands before it.
abbrev pub StandsBefore : List ℕ → ℕ → Type 0
StandsBefore ks n = Memᴰ (get_or ks n 0) (take n ks)

-- Place r is the first whose number stands before it: no number stands twice before.
pub record FirstDuplicate (ks : List ℕ) (r : ℕ) : Type 0 where
  pub inside : r < length ks
  pub distinct : Distinct (take r ks)
  pub again : StandsBefore ks r
