-- The definitions of a draft, as the code counts them. Definitions; assumes nothing.
use Rattle.std.specs.Prelude.{◌≡◌, List, ℕ, ◌≤◌, ◌<◌}
use Rattle.format.specs.Layout.{entry_at, files_part}

-- The first k entries are of file 0, and the next one, if there is one, is of another.
pub record OwnAs (es : List ℕ) (count k : ℕ) : Type 0 where
  pub within : k ≤ count
  pub own : (d : ℕ) → d < k → (entry_at es d).owner ≡ 0
  pub next : k < count → (entry_at es k).owner ≡ 0 → ⊥

-- Main's actor as written stands at this node.
pub record MainWritten (bs : List ℕ) (root : ℕ) : Type 0 where
  pub is : root ≡ (entry_at (files_part bs) 0).root
  pub some : root ≡ 65535 → ⊥
