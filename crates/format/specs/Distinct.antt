-- Lists without repeats, the first repeat of others, and lists in order. Definitions; assumes nothing.
use Rattle.std.specs.Prelude.{◌≡◌, ℕ, ◌<◌}
use mathlib.Core.List.{List, [], ◌∷◌, ◌++◌, map, Memᴰ}

-- No element stands twice.
pub data Distinct {A : Type 0} : List A → Type 0 where
  none : Distinct []
  more : {a : A} {l : List A} → (Memᴰ a l → ⊥) → Distinct l → Distinct (a ∷ l)

-- The first element whose key an earlier one has.
pub record FirstRepeat {A : Type 0} (key : A → ℕ) (l : List A) (a : A) : Type 0 where
  pub before : List A
  pub following : List A
  pub parts : l ≡ before ++ (a ∷ following)
  pub distinct : Distinct (map key before)
  pub again : Memᴰ (key a) (map key before)

-- Each number is below all after it.
abbrev pub Ascends : List ℕ → Type 0
Ascends [] = Unit {0}
Ascends (n ∷ l) = ((m : ℕ) → Memᴰ m l → n < m) × Ascends l
