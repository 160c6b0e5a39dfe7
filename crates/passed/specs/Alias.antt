-- What is asked of a name's alias chain before its last name is looked for. Definitions; assumes nothing.
use Rattle.std.specs.Prelude.{◌≡◌, List, ◌∷◌, ℕ, ◌<◌, length}
use Rattle.format.specs.Book.{Definition}
use Rattle.judgement.specs.Aliases.{circle, chain, alias_end, name_type}
use Rattle.environment.specs.declared.scope.Scope.{Scope}
use Rattle.environment.specs.Scopes.{IsBy}

-- The chain of name n ends, and crosses n and these names, so many together.
pub record Crossing (s : Scope) (n crossed : ℕ) (ms : List ℕ) : Type 0 where
  pub inside : n < s.names
  pub definitions : List Definition
  pub binds : IsBy s definitions
  pub ended : alias_end definitions (name_type n) ≡ circle → ⊥
  pub is : (chain definitions (name_type n)).crossed ≡ n ∷ ms
  pub counted : crossed ≡ length (n ∷ ms)
