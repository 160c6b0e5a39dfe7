-- Names in bytes, there and back: a length byte and the bytes of each, end to end. Assumes nothing.
--     names-read, names-all       names that are laid out are read again
--     names-step, names-none      the names from place i on, for a loop that stands there
--     names-fuel                  how often `names_of` may go on does not matter once it is often enough
--     filled-step, filled-not     the names that are read are laid out as the very bytes, unless a name runs past the end
--     names-are                   names that are read are names
--     names-bytes                 names are laid out as bytes
--     same-eq, eq-same            `same` is equality
use mathlib.Core.Path.{◌≡◌, refl, sym, ap, ap₂, ◌∙◌}
use mathlib.Core.Logic.{◌↔◌}
use mathlib.Core.List.{List, [], ◌∷◌, ◌++◌}
use Prim.Native.Nat.{ℕ, zero, suc, ◌+◌, ◌-◌, ◌≤◌, ◌<◌}
use native.Mathlib.Nat.{not-suc-le-zero, le_of_suc-le-suc}
use native.Mathlib.Numerals.{add-one}
use native.Mathlib.Omega.{arith}
use lib.Dec.{T, leb, ltb, eqb, leb→le, ltb→lt, le→leb, lt→ltb, eqb→eq, eqb_refl}
use lib.ListN.{length, get_or, take, drop, length-append, length-take, length-drop, drop_of_length-le, take-append-drop}
use lib.Seq.{drop-cons, drop-drop, drop_at, take-append_seam, drop-append_seam, length-take-le}
use Rattle.refusals.specs.Lists.{flat}
use Rattle.format.specs.Encode.{name_bytes}
use Rattle.format.specs.Fits.{every, is_byte, is_name}
use Rattle.format.specs.Layout.{names_of, same}
use Rattle.format.specs.Rules.{Bytes}
use Rattle.format.proofs.Logic.{both, join}
use Rattle.format.proofs.Lists.{all-map, all-every}
use Rattle.format.proofs.Bytes.{drop-bytes, take-bytes, no-bytes, cons-bytes, flat-bytes}

-- ---- There and back

pub names-read : (ns : List (List ℕ)) (k : ℕ) → length ns ≤ k → names_of k (flat name_bytes ns) ≡ ns
unfolding flat name_bytes names_of
names-read [] zero h = refl
names-read [] (suc k) h = refl
names-read (n ∷ ns) zero h = absurd (not-suc-le-zero h)
names-read (n ∷ ns) (suc k) h =
    rw (take-append_seam n (flat name_bytes ns), drop-append_seam n (flat name_bytes ns), names-read ns k (le_of_suc-le-suc h))

pub names-enough : (ns : List (List ℕ)) → length ns ≤ length (flat name_bytes ns)
unfolding flat name_bytes
names-enough [] = omega arith
names-enough (n ∷ ns) = omega (arith, length-append n (flat name_bytes ns), names-enough ns)

pub names-all : (ns : List (List ℕ)) → names_of (length (flat name_bytes ns)) (flat name_bytes ns) ≡ ns
names-all ns = names-read ns (length (flat name_bytes ns)) (names-enough ns)

pub names-fuel : (j k : ℕ) (bs : List ℕ) → length bs ≤ j → length bs ≤ k → names_of j bs ≡ names_of k bs
unfolding names_of
names-fuel zero zero bs h g = refl
names-fuel zero (suc k) [] h g = refl
names-fuel (suc j) zero [] h g = refl
names-fuel (suc j) (suc k) [] h g = refl
names-fuel zero (suc k) (b ∷ bs) h g = absurd (not-suc-le-zero h)
names-fuel (suc j) zero (b ∷ bs) h g = absurd (not-suc-le-zero g)
names-fuel (suc j) (suc k) (b ∷ bs) h g =
    let d = length-drop b bs in
    ap (λ (ns : List (List ℕ)). take b bs ∷ ns) (names-fuel j k (drop b bs) (omega arith) (omega arith))

-- ---- The names from place i on

pub names-none : (k : ℕ) (bs : List ℕ) (i : ℕ) → length bs ≤ i → names_of k (drop i bs) ≡ []
unfolding names_of
names-none k bs i h = ap (names_of k) (drop_of_length-le bs h) ∙ nothing k
  where
    nothing : (k : ℕ) → names_of k [] ≡ []
    nothing zero = refl
    nothing (suc k) = refl

-- a name at place i: its length, its bytes, or what is left of them, and what stands after it
module _ (bs : List ℕ) (i : ℕ) (h : i < length bs) where
  opens : drop i bs ≡ get_or bs i 0 ∷ drop (i + 1) bs
  opens = rw (add-one i) (drop-cons bs i 0 h)

  after : (n : ℕ) → drop n (drop (i + 1) bs) ≡ drop (i + 1 + n) bs
  after n = drop-drop n (i + 1) bs

  names-suc : (k : ℕ) → names_of (suc k) (drop i bs) ≡ take (get_or bs i 0) (drop (i + 1) bs) ∷ names_of k (drop (i + 1 + get_or bs i 0) bs)
  unfolding names_of
  names-suc k = rw (opens, after (get_or bs i 0))

  pub names-at : (k : ℕ) → 1 ≤ k → names_of k (drop i bs) ≡ take (get_or bs i 0) (drop (i + 1) bs) ∷ names_of (k - 1) (drop (i + 1 + get_or bs i 0) bs)
  names-at k le = let e : k ≡ suc (k - 1) = omega arith in ap (λ (j : ℕ). names_of j (drop i bs)) e ∙ names-suc (k - 1)

  -- where the fuel is enough, it need not fall
  pub names-step : (k : ℕ) → length bs ≤ k → names_of k (drop i bs) ≡ take (get_or bs i 0) (drop (i + 1) bs) ∷ names_of k (drop (i + 1 + get_or bs i 0) bs)
  names-step k le =
      let n : ℕ = get_or bs i 0 in
      let d = length-drop (i + 1 + n) bs in
      names-at k (omega arith)
      ∙ ap (λ (ns : List (List ℕ)). take n (drop (i + 1) bs) ∷ ns) (names-fuel (k - 1) k (drop (i + 1 + n) bs) (omega arith) (omega arith))

-- ---- Where the names fill the bytes

-- The names of the bytes, laid out, are the very bytes.
abbrev pub Filled : ℕ → List ℕ → Type 0
Filled k bs = flat name_bytes (names_of k bs) ≡ bs

pub filled-none : (k : ℕ) (bs : List ℕ) (i : ℕ) → length bs ≤ i → Filled k (drop i bs)
unfolding flat
filled-none k bs i h = rw (names-none k bs i h) (sym (drop_of_length-le bs h))

-- a length byte n before l, of which a whole name is the beginning, and then r
name-on : (n : ℕ) (l r : List ℕ) → n ≤ length l → r ≡ drop n l → name_bytes (take n l) ++ r ≡ n ∷ l
unfolding name_bytes
name-on n l r h e = rw (length-take-le n l h, e, take-append-drop n l)

name-off : (n : ℕ) (l r : List ℕ) → n ≤ length l → name_bytes (take n l) ++ r ≡ n ∷ l → r ≡ drop n l
unfolding name_bytes
name-off n l r h e = sym (drop_at (take n l) r n (length-take-le n l h)) ∙ ap (drop (suc n)) e

module _ (bs : List ℕ) (i : ℕ) where
  -- a whole name at place i, with any fuels j and k at which it opens the names
  filled-by : (j k : ℕ) → i + 1 + get_or bs i 0 ≤ length bs
      → names_of j (drop i bs) ≡ take (get_or bs i 0) (drop (i + 1) bs) ∷ names_of k (drop (i + 1 + get_or bs i 0) bs)
      → Filled j (drop i bs) ↔ Filled k (drop (i + 1 + get_or bs i 0) bs)
  unfolding flat
  filled-by j k le e =
      let n : ℕ = get_or bs i 0 in
      let l : List ℕ = drop (i + 1) bs in
      let m : List ℕ = flat name_bytes (names_of k (drop (i + 1 + n) bs)) in
      let ll = length-drop (i + 1) bs in
      let long : n ≤ length l = omega arith in
      let is : flat name_bytes (names_of j (drop i bs)) ≡ name_bytes (take n l) ++ m = ap (flat name_bytes) e in
      let o : drop i bs ≡ n ∷ l = opens bs i (omega arith) in
      let r : drop n l ≡ drop (i + 1 + n) bs = drop-drop n (i + 1) bs in
      (λ f. name-off n l m long (sym is ∙ f ∙ o) ∙ r, λ f. is ∙ name-on n l m long (f ∙ sym r) ∙ sym o)

  pub filled-step : (k : ℕ) → length bs ≤ k → i + 1 + get_or bs i 0 ≤ length bs → Filled k (drop i bs) ↔ Filled k (drop (i + 1 + get_or bs i 0) bs)
  filled-step k g le = filled-by k k le (names-step bs i (omega arith) k g)

  -- a name that runs past the end: its length byte is not the number of its bytes
  pub filled-not : (k : ℕ) → i < length bs → length bs < i + 1 + get_or bs i 0 → Filled k (drop i bs) → ⊥
  unfolding flat name_bytes names_of
  filled-not zero h lt f = omega (arith, ap length f, length-drop i bs)
  filled-not (suc k) h lt f =
      let n : ℕ = get_or bs i 0 in
      let l : List ℕ = drop (i + 1) bs in
      let e : length (take n l) ≡ n = ap (λ (x : List ℕ). get_or x 0 0) (sym (ap (flat name_bytes) (names-suc bs i h k)) ∙ f ∙ opens bs i h) in
      omega (arith, length-take n l, length-drop (i + 1) bs)

-- ---- Names that are read are names, and `same` is equality

every-byte : (bs : List ℕ) → Bytes bs → T (every is_byte bs)
unfolding every is_byte
every-byte [] h = tt
every-byte (b ∷ bs) h = join (ltb b 256) (every is_byte bs) (lt→ltb b 256 (h 0)) (every-byte bs (λ i. h (suc i)))

pub names-are : (k : ℕ) (bs : List ℕ) → Bytes bs → T (every is_name (names_of k bs))
unfolding every names_of is_name
names-are zero bs h = tt
names-are (suc k) [] h = tt
names-are (suc k) (b ∷ bs) h =
    let t : List ℕ = take b bs in
    let tail : Bytes bs = λ i. h (suc i) in
    let few : length t ≤ 255 = omega (arith, h 0, length-take b bs) in
    join (is_name t) (every is_name (names_of k (drop b bs)))
    (join (leb (length t) 255) (every is_byte t) (le→leb (length t) 255 few) (every-byte t (take-bytes b bs tail)))
    (names-are k (drop b bs) (drop-bytes b bs tail))

byte-every : (bs : List ℕ) → T (every is_byte bs) → Bytes bs
unfolding every is_byte
byte-every [] h = no-bytes
byte-every (b ∷ bs) h = let p = both (ltb b 256) (every is_byte bs) h in cons-bytes b bs (ltb→lt b 256 p.0) (byte-every bs p.1)

name-bytes : (n : List ℕ) → T (is_name n) → Bytes (name_bytes n)
unfolding is_name name_bytes
name-bytes n h =
    let p = both (leb (length n) 255) (every is_byte n) h in
    cons-bytes (length n) n (omega (arith, leb→le (length n) 255 p.0)) (byte-every n p.1)

pub names-bytes : (ns : List (List ℕ)) → T (every is_name ns) → Bytes (flat name_bytes ns)
names-bytes ns h = flat-bytes name_bytes ns (all-map name-bytes ns (all-every is_name ns h))

pub same-eq : (xs ys : List ℕ) → T (same xs ys) → xs ≡ ys
unfolding same
same-eq [] [] h = refl
same-eq [] (y ∷ ys) h = absurd h
same-eq (x ∷ xs) [] h = absurd h
same-eq (x ∷ xs) (y ∷ ys) h =
    let p = both (eqb x y) (same xs ys) h in
    ap₂ (λ (a : ℕ) (l : List ℕ). a ∷ l) (eqb→eq x y p.0) (same-eq xs ys p.1)

same-refl : (xs : List ℕ) → T (same xs xs)
unfolding same
same-refl [] = tt
same-refl (x ∷ xs) = join (eqb x x) (same xs xs) (eqb_refl x) (same-refl xs)

pub eq-same : (xs ys : List ℕ) → xs ≡ ys → T (same xs ys)
eq-same xs ys e = rw e (same-refl ys)
