-- How the counts of listed names are handed over. Definitions; assumes nothing.
use Rattle.std.specs.Prelude.{◌≡◌, List, ◌++◌, map, ℕ, ◌<◌, length, get_or, drop, sum}
use Rattle.refusals.specs.declared.UseCounts.{UseCounts}

-- Each of these has a place in a table by name.
abbrev pub SmallNames : List ℕ → Type 0
SmallNames names = (i : ℕ) → i < length names → get_or names i 0 < 1024

-- What a table has for these names, in their order.
abbrev pub counts_in : List ℕ → List ℕ → List ℕ
counts_in counts names = map (λ n. get_or counts n 0) names

pub record CountsHanded (names counts old new : List ℕ) (r : UseCounts) : Type 0 where
  pub listed : r.listed ≡ length names
  pub total : r.total ≡ sum (counts_in counts names)
  pub left : new ≡ counts_in counts names ++ drop (length names) old
