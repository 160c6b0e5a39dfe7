-- The names that the program is asked about, and which of a book's names they are. Definitions; assumes nothing.
use Rattle.std.specs.Prelude.{Bool, cond, List, [], ◌∷◌, ◌++◌, ℕ, zero, suc}
use Rattle.std.specs.List.{list_any}
use Rattle.std.specs.Str.{bytes_eq}

-- Names one after another, each ended by a zero byte, where `name` was read of the first one. What no zero byte ends is none.
unfoldable pub names_after : List ℕ → List ℕ → List (List ℕ)
names_after name [] = []
names_after name (zero ∷ bs) = name ∷ names_after [] bs
names_after name (suc b ∷ bs) = names_after (name ++ (suc b ∷ [])) bs

abbrev pub ended : List ℕ → List (List ℕ)
ended bs = names_after [] bs

abbrev pub is_among : List ℕ → List (List ℕ) → Bool
is_among name asked = list_any (λ one. bytes_eq one name) asked

-- The numbers of the names that are asked, where the first name is number n; ascending.
unfoldable pub numbers_from : ℕ → List (List ℕ) → List (List ℕ) → List ℕ
numbers_from n [] asked = []
numbers_from n (name ∷ names) asked = cond (is_among name asked) (n ∷ numbers_from (suc n) names asked) (numbers_from (suc n) names asked)
