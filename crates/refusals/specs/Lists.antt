-- Lists, for numbers that are laid out one after the other. Definitions; assumes nothing.
use Rattle.std.specs.Prelude.{List, [], ◌∷◌, ◌++◌, ℕ}

-- What f makes of each element, one after the other.
unfoldable pub flat : {A : Type 0} → (A → List ℕ) → List A → List ℕ
flat f [] = []
flat f (a ∷ as') = f a ++ flat f as'
