-- A text in a lent buffer. Definitions; assumes nothing.
use Rattle.std.specs.Prelude.{◌≡◌, List, ℕ, ◌+◌, ◌-◌, ◌<◌, min, length}
use Rattle.std.proofs.lemmas.List.Edits.{sets}
use Rattle.print.specs.declared.Text.{Text}

-- A text over a buffer from place `at` on, stored byte by byte. What the buffer has no place for is left out.
unfoldable pub over : List ℕ → ℕ → List ℕ → List ℕ
over old at text = sets old at text

-- What laying a text from place `at` on makes of the buffer `old`, and the place `next` that is answered.
pub record Laid (text old : List ℕ) (at next : ℕ) (new : List ℕ) : Type 0 where
  pub bytes : new ≡ over old at text
  pub place : next ≡ at + min (length text) (length old - at)

-- The same of a text of fewer than so many bytes.
pub record LaidWithin (room : ℕ) (text old : List ℕ) (at next : ℕ) (new : List ℕ) : Type 0 where
  pub laid : Laid text old at next new
  pub few : length text < room

-- The same of a buffer with its place, which stays the buffer that was lent.
pub record Lays (text : List ℕ) (old new : Text) : Type 0 where
  pub laid : Laid text old.out.now old.end new.end new.out.now
  pub same : new.out.ghost_name ≡ old.out.ghost_name

pub record LaysWithin (room : ℕ) (text : List ℕ) (old new : Text) : Type 0 where
  pub laid : LaidWithin room text old.out.now old.end new.end new.out.now
  pub same : new.out.ghost_name ≡ old.out.ghost_name
