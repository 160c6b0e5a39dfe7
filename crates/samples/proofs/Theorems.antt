-- Every example is read as the book that is written for it. Assumes nothing.
--     all-read    by computation, the one theorem of the table
--     all-fit     so each book fits, and the bytes are its encoding
use mathlib.Core.Path.{◌≡◌, refl, ap, ◌∙◌, sym}
use mathlib.Core.List.{List, [], ◌∷◌, map, Memᴰ, head-eq_of_cons-eq, tail-eq_of_cons-eq}
use mathlib.Core.List.Memᴰ
use Rattle.format.specs.Encode.{encode}
use Rattle.format.specs.Fits.{Fits}
use Rattle.format.specs.Layout.{layout, whole}
use Rattle.format.proofs.Theorems.{found}
use Rattle.samples.specs.Table.{Sample, samples}
use Rattle.samples.proofs.Computed.{layout-computed, samples-computed}

-- Two columns that are equal as lists are equal in every row.
pub in-row : {A B : Type 0} (f g : A → B) (l : List A) → map f l ≡ map g l → (a : A) → Memᴰ a l → f a ≡ g a
in-row f g [] e a m = absurd (Memᴰ.not-nil m)
in-row f g (b ∷ l) e a (Memᴰ.head h) = ap f h ∙ head-eq_of_cons-eq e ∙ ap g (sym h)
in-row f g (b ∷ l) e a (Memᴰ.tail m) = in-row f g l (tail-eq_of_cons-eq e) a m

-- The bytes of every example are read as its book: the column of what is read is the column of what is written.
pub all-read : (s : Sample) → Memᴰ s samples → layout s.bytes ≡ whole s.book
unfolding layout-computed samples-computed
all-read = in-row (λ s. layout s.bytes) (λ s. whole s.book) samples refl

-- So each book fits and is encoded as the example's bytes, by the theorem on all bytes.
pub all-fit : (s : Sample) → Memᴰ s samples → Fits s.book × (encode s.book ≡ s.bytes)
all-fit s m = (found s.bytes s.book).0 (all-read s m)
