-- The methods that are looked at of a merged actor. Definitions; assumes nothing.
use Rattle.std.specs.Prelude.{◌≡◌, List, [], ℕ, ◌<◌, ◌++◌, ◌⊎◌, length, All}

-- Of the labels ls, all or the first 1,025.
pub record GathersAs (ls names : List ℕ) : Type 0 where
  pub rest : List ℕ
  pub parts : names ++ rest ≡ ls
  pub most : (rest ≡ []) ⊎ (length names ≡ 1025)
  pub small : All (λ v. v < 1024) names
