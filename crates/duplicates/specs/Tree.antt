-- A digital search tree over the places of a list. Definitions; assumes nothing.
-- A place has two links, by the lowest bit of what is left of a number; 0, the root, is linked from nowhere and stands for none.
use Rattle.std.specs.Prelude.{List, ℕ, ◌+◌, ◌*◌, ◌/◌, ◌%◌, ◌≤◌, ◌<◌, length, get_or}

-- What a place links by the lowest bit of a number.
abbrev pub linked : List ℕ → ℕ → ℕ → ℕ
linked links at rest = get_or links (2 * at + rest % 2) 0

-- From place a with the rest r of a number the links lead to place b with the rest s.
pub data Way (links : List ℕ) : ℕ → ℕ → ℕ → ℕ → Type 0 where
  stop : {a r : ℕ} → Way links a r a r
  step : {a r b s : ℕ} → 0 < linked links a r → Way links (linked links a r) (r / 2) b s → Way links a r b s

-- The first n places are in the tree: the way of its number leads to each. Links lead to later places, so that a search ends.
pub record Tree (ks links : List ℕ) (n : ℕ) : Type 0 where
  pub room : 2 * length ks ≤ length links
  pub some : 0 < n
  pub later : (at rest : ℕ) → 0 < linked links at rest → at < linked links at rest
  pub below : (p : ℕ) → get_or links p 0 < n
  pub ways : (i : ℕ) → i < n → (s : ℕ) × Way links 0 (get_or ks i 0) i s
