-- What came of reading into a buffer, and of writing a text. Definitions; assumes nothing.
use Rattle.std.specs.Prelude.{◌≡◌, List, ℕ, ◌≤◌, ◌<◌, length, Option, IfSome}
use Rattle.std.specs.Borrow.{Bor}
use Rattle.std.specs.Io.KnownBytes.{Consumes, IsAtEnd}

-- A reader with these bytes left, where that is known, gave this part of them to a buffer of so many places and has the others left: all that
-- there are, or as many as the buffer has places.
pub record Filled (before after : Option (List ℕ)) (places : ℕ) (part : List ℕ) : Type 0 where
  pub bound : length part ≤ places
  pub bytes : Consumes before after part
  pub all : length part < places → IsAtEnd after

-- A part of the buffer; of a failure nothing is said.
abbrev pub ReadAs : Option (Bor (List ℕ)) → List ℕ → Type 0
ReadAs r bs = IfSome r (λ part. length part.now ≤ length bs)

-- All of a text; of a failure nothing is said.
abbrev pub WrittenAs : Option ℕ → List ℕ → Type 0
WrittenAs r text = IfSome r (λ n. n ≡ length text)
