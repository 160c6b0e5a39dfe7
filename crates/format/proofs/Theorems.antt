-- The theorems that pin what a declaration book is in bytes. Assumes nothing.
--     found                           a book is found in bytes exactly if it fits and its encoding is the bytes
--     encode-read, layout-encode      its two readings: what was read encodes to the very bytes; what fits is read back from its encoding
--     broken-not                      no book is found exactly if there is none
--     rules-fit, read-encode, fit-rules
--                                     the rules say the same: what meets them is read as a book that fits and is its encoding; a book that
--                                     fits is read back, and its encoding meets them
--     rules-whole, rules-broken       so code that tests the rules tells what `layout` is
--     rules-placed, fit-placed        what the numbers of the table of contents are
use mathlib.Core.Path.{◌≡◌, sym, ap, subst, ◌∙◌, refl}
use mathlib.Core.Logic.{◌↔◌}
use mathlib.Core.Bool.{Bool, true, false, cond, ◌&&◌}
use mathlib.Core.List.{List}
use Prim.Native.Nat.{ℕ}
use lib.Dec.{T}
use Rattle.format.specs.Book.{Book}
use Rattle.format.specs.Encode.{encode}
use Rattle.format.specs.Fits.{fits, Fits}
use Rattle.format.specs.Layout.{read, same, Layout, broken, whole, layout}
use Rattle.format.specs.Rules.{Bytes, Rules}
use Rattle.format.proofs.Logic.{both, join, is-true, of-true}
use Rattle.format.proofs.Names.{same-eq, eq-same}
use Rattle.format.proofs.Encoded.{fit-parts, parts-fit, Placed, placed, read-back, rules-met}
use Rattle.format.proofs.Decoded.{read-fits, read-kept, read-placed}

-- ---- The rules

-- Bytes that meet the rules are read as a book that fits, and are its encoding.
pub rules-fit : (bs : List ℕ) → Bytes bs → Rules bs → Fits (read bs) × (encode (read bs) ≡ bs)
rules-fit bs h r = (parts-fit (read-fits bs h r), read-kept bs h r)

-- A book that fits is read back from its encoding.
pub read-encode : (b : Book) → Fits b → read (encode b) ≡ b
read-encode b h = read-back (fit-parts h)

-- The encoding of a book that fits meets the rules.
pub fit-rules : (b : Book) → Fits b → Rules (encode b)
fit-rules b h = rules-met (fit-parts h)

-- The table of contents of bytes that meet the rules says where the bodies are and how many things each has.
pub rules-placed : (bs : List ℕ) → Bytes bs → Rules bs → Placed bs (read bs)
rules-placed bs h r = read-placed bs h r

-- And so does that of the encoding of a book that fits.
pub fit-placed : (b : Book) → Fits b → Placed (encode b) b
fit-placed b h = placed (fit-parts h)

-- ---- What `layout` finds

-- The test of `layout`, which the encoding of a book that fits passes.
abbrev test : List ℕ → Bool
test bs = fits (read bs) && same (encode (read bs)) bs

passes : (b : Book) → Fits b → T (test (encode b))
passes b h = rw (read-encode b h) (join (fits b) (same (encode b) (encode b)) h (eq-same (encode b) (encode b) refl))

-- The encoding of a book that fits is read back as that book.
pub layout-encode : (b : Book) → Fits b → layout (encode b) ≡ whole b
unfolding layout
layout-encode b h = rw (is-true (test (encode b)) (passes b h)) (ap whole (read-encode b h))

-- What each answer of `layout` says.
abbrev Told : List ℕ → Layout → Type 0
Told bs (whole b) = Fits b × (encode b ≡ bs)
Told bs broken = (b : Book) → Fits b → encode b ≡ bs → ⊥

told : (bs : List ℕ) → Told bs (layout bs)
unfolding layout
told bs = go (test bs) refl
  where
    go : (t : Bool) → test bs ≡ t → Told bs (cond t (whole (read bs)) broken)
    go true e = let p = both (fits (read bs)) (same (encode (read bs)) bs) (of-true (test bs) e) in (p.0, same-eq (encode (read bs)) bs p.1)
    go false e = λ b h x. subst T (ap test x ∙ e) (passes b h)

-- A book is found exactly if it fits and its encoding is the bytes.
pub found : (bs : List ℕ) (b : Book) → (layout bs ≡ whole b) ↔ (Fits b × (encode b ≡ bs))
found bs b = (λ w. subst (Told bs) w (told bs), λ p. ap layout (sym p.1) ∙ layout-encode b p.0)

-- A book that was read encodes to the very bytes.
pub encode-read : (bs : List ℕ) (b : Book) → layout bs ≡ whole b → encode b ≡ bs
encode-read bs b w = ((found bs b).0 w).1

-- No book is found exactly if there is none.
pub broken-not : (bs : List ℕ) → (layout bs ≡ broken) ↔ ((b : Book) → Fits b → encode b ≡ bs → ⊥)
broken-not bs = (λ w. subst (Told bs) w (told bs), λ n. go n (layout bs) (told bs))
  where
    go : ((b : Book) → Fits b → encode b ≡ bs → ⊥) → (l : Layout) → Told bs l → l ≡ broken
    go n broken s = refl
    go n (whole b) s = absurd (n b s.0 s.1)

-- ---- For code that tests the rules
pub rules-whole : (bs : List ℕ) → Bytes bs → Rules bs → layout bs ≡ whole (read bs)
rules-whole bs h r = (found bs (read bs)).1 (rules-fit bs h r)

pub rules-broken : (bs : List ℕ) → (Rules bs → ⊥) → layout bs ≡ broken
rules-broken bs n = (broken-not bs).1 (λ b h e. n (subst Rules e (fit-rules b h)))
