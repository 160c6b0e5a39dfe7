-- Tables by name number, the label numbers of all names, and where each begins. Definitions; assumes nothing.
use Rattle.std.specs.Prelude.{◌≡◌, Bool, cond, List, [], ◌∷◌, ℕ, zero, suc, ◌+◌, ◌≤◌, ◌<◌, eqb, length, get_or, replicate}
use Rattle.labels.specs.Number.{label_number}
use Rattle.refusals.specs.Lists.{flat}
use Rattle.format.specs.Encode.{name_bytes}
use Rattle.format.specs.Layout.{part, names_of, name_in}

-- A table that has nothing: 65,535 for each of the 1,024 names.
unfoldable pub blank_table : List ℕ
blank_table = replicate 1024 65535

-- ---- Flags

-- A flag for each of the 1,024 names; none is set.
unfoldable pub no_flags : List ℕ
no_flags = replicate 1024 0

abbrev pub is_set : List ℕ → ℕ → Bool
is_set flags n = eqb (get_or flags n 0) 1

-- The names among n, n + 1 and so on, k of them, whose flag is set; ascending.
unfoldable pub flagged : List ℕ → ℕ → ℕ → List ℕ
flagged flags n zero = []
flagged flags n (suc k) = cond (is_set flags n) (n ∷ flagged flags (suc n) k) (flagged flags (suc n) k)

-- ---- Label numbers by name number

-- A table that has 0 for each of the 1,024 names.
unfoldable pub zero_table : List ℕ
zero_table = replicate 1024 0

-- The bytes are `count` names.
pub record NamesIn (bs : List ℕ) (count : ℕ) : Type 0 where
  pub filled : flat name_bytes (names_of (length bs) bs) ≡ bs
  pub counted : length (names_of (length bs) bs) ≡ count
  pub few : count ≤ 1024

-- A table has the label number of each name; beyond the names 0, which is that of no bytes.
abbrev pub HashesAgree : List ℕ → List (List ℕ) → Type 0
HashesAgree hashes names = (n : ℕ) → get_or hashes n 0 ≡ label_number (get_or names n [])

pub record HashesOf (hashes : List ℕ) (names : List (List ℕ)) : Type 0 where
  pub long : length hashes ≡ 1024
  pub agree : HashesAgree hashes names

-- ---- Where the names begin

-- A name's length byte stands at a place of the bytes, and the name after it.
pub record NameAt (bs : List ℕ) (n at : ℕ) : Type 0 where
  pub within : at + 1 + get_or bs at 0 ≤ length bs
  pub is : part (at + 1) (at + 1 + get_or bs at 0) bs ≡ name_in bs n

-- A table has the place of each of the book's `count` names, and 0 beyond.
pub record PlacesOf (bs : List ℕ) (count : ℕ) (places : List ℕ) : Type 0 where
  pub long : length places ≡ 1024
  pub few : count ≤ 1024
  pub at : (n : ℕ) → n < count → NameAt bs n (get_or places n 0)
  pub beyond : (n : ℕ) → count ≤ n → get_or places n 0 ≡ 0
  pub outside : (n : ℕ) → count ≤ n → name_in bs n ≡ []
