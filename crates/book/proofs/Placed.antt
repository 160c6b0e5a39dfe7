-- Where the names of an admitted book begin: the walk goes over the names' part, and a place is one of the whole book. Assumes nothing.
--     start, start-on   where a name begins in the bytes of all
--     names-in          the names' part of an admitted book is its names
--     place-small       a place fits 16 bits
--     places-end        the table at its end
use mathlib.Core.Path.{◌≡◌, refl, sym, ap, subst, ◌∙◌}
use mathlib.Core.List.{List, [], ◌∷◌, ◌++◌}
use Prim.Native.Nat.{ℕ, zero, suc, ◌+◌, ◌-◌, ◌≤◌, ◌<◌}
use native.Mathlib.Omega.{arith}
use lib.ListN.{length, get_or, take, drop, length-take, length-drop, length-append, take-append-drop}
use lib.Seq.{take-append-le, take-append_seam, drop-append-le, drop-append-add, get_or-take, get_or-drop, drop-drop}
use Rattle.refusals.specs.Lists.{flat}
use Rattle.format.specs.Encode.{name_bytes}
use Rattle.format.specs.Layout.{part, names_part, names_of}
use Rattle.format.proofs.Encoded.{fit-parts}
use Rattle.format.proofs.Theorems.{found}
use Rattle.book.specs.declared.kinds.Contents.{Contents}
use Rattle.book.specs.Reading.{Admitted}
use Rattle.book.specs.Tables.{NamesIn, NameAt, PlacesOf}
use Rattle.book.proofs.Named as named
use Rattle.book.proofs.Named.{names-few, name-there, name-outside, names-start, names-within}
use Rattle.book.proofs.Opened.{names-here}
use Rattle.book.proofs.Blank.{Filling, filling-end}

-- ---- a part of a part
module _ (bs : List ℕ) (a e : ℕ) (h : e ≤ length bs) where
  part-length : length (part a e bs) ≡ e - a
  unfolding part
  part-length = length-take (e - a) (drop a bs) ∙ omega (arith, length-drop a bs)

  part-at : (i : ℕ) → i < length (part a e bs) → get_or (part a e bs) i 0 ≡ get_or bs (a + i) 0
  unfolding part
  part-at i g = get_or-take (e - a) (drop a bs) i 0 (omega (arith, part-length)) ∙ get_or-drop a bs i 0

  part-part : (i k : ℕ) → i + k ≤ length (part a e bs) → take k (drop i (part a e bs)) ≡ take k (drop (a + i) bs)
  unfolding part
  part-part i k g =
      let p = part a e bs in
      let r = drop (e - a) (drop a bs) in
      sym (take-append-le k (drop i p) r (omega (arith, length-drop i p)))
      ∙ ap (take k) (sym (drop-append-le i p r (omega arith)) ∙ ap (drop i) (take-append-drop (e - a) (drop a bs)) ∙ drop-drop i a bs)

-- ---- where name n begins in the bytes of all
abbrev pub start : List (List ℕ) → ℕ → ℕ
start all n = length (flat name_bytes (take n all))

pub start-none : (all : List (List ℕ)) → 32 ≡ 32 + start all 0
unfolding flat
start-none all = refl

start-suc : (all : List (List ℕ)) (n : ℕ) → n < length all → start all (suc n) ≡ start all n + suc (length (get_or all n []))
unfolding flat name_bytes
start-suc [] n h = absurd (omega arith)
start-suc (x ∷ xs) zero h = omega (arith, length-append x [])
start-suc (x ∷ xs) (suc n) h =
    omega (arith, start-suc xs n (omega arith), length-append x (flat name_bytes (take (suc n) xs)), length-append x (flat name_bytes (take n xs)))

pub start-on : (all : List (List ℕ)) (n : ℕ) → n < length all → start all (n + 1) ≡ start all n + suc (length (get_or all n []))
start-on all n h = let z : n + 1 ≡ suc n = omega arith in rw z (start-suc all n h)

-- there its length byte and its bytes stand, and then the names after it
begins : (all : List (List ℕ)) (n : ℕ) → n < length all →
    drop (start all n) (flat name_bytes all) ≡ name_bytes (get_or all n []) ++ flat name_bytes (drop (suc n) all)
unfolding flat
begins [] n h = absurd (omega arith)
begins (x ∷ xs) zero h = refl
begins (x ∷ xs) (suc n) h =
    let l = length-append (name_bytes x) (flat name_bytes (take n xs)) in
    rw l (drop-append-add (name_bytes x) (flat name_bytes xs) (start xs n) ∙ begins xs n (omega arith))

module _ (all : List (List ℕ)) (n : ℕ) (h : n < length all) where
  abbrev name : List ℕ
  name = get_or all n []

  after : drop (suc (start all n)) (flat name_bytes all) ≡ name ++ flat name_bytes (drop (suc n) all)
  unfolding name_bytes
  after =
      let bytes = flat name_bytes all in
      let p = start all n in
      let z : suc p ≡ p + 1 = omega arith in
      ap (λ (k : ℕ). drop k bytes) z ∙ sym (drop-drop 1 p bytes) ∙ ap (drop 1) (begins all n h)

  size-there : get_or (flat name_bytes all) (start all n) 0 ≡ length name
  unfolding name_bytes
  size-there =
      let bytes = flat name_bytes all in
      let p = start all n in
      let z : p ≡ p + 0 = omega arith in
      ap (λ (k : ℕ). get_or bytes k 0) z ∙ sym (get_or-drop p bytes 0 0) ∙ ap (λ (l : List ℕ). get_or l 0 0) (begins all n h)

  name-fits : start all n + suc (length name) ≤ length (flat name_bytes all)
  unfolding name_bytes
  name-fits =
      let rest = flat name_bytes (drop (suc n) all) in
      omega (arith, length-drop (start all n) (flat name_bytes all), ap length (begins all n h), length-append name rest)

  name-read : take (length name) (drop (suc (start all n)) (flat name_bytes all)) ≡ name
  name-read = rw after (take-append_seam name (flat name_bytes (drop (suc n) all)))

module _ {bs : List ℕ} {c : Contents} (o : Admitted bs c) where
  pub names-in : NamesIn (names_part bs) c.names
  names-in = rw (sym (names-here o)) (named.names-in o)

  abbrev names : List (List ℕ)
  names = names_of (length (names_part bs)) (names_part bs)

  pub place-fits : (n : ℕ) → n < length names → 32 + start names n + suc (length (get_or names n [])) ≤ 65536
  place-fits n h =
      let f = (found bs o.book).0 o.laid in
      omega (
        arith,
        name-fits names n h,
        ap length (names-in).filled,
        ap length (names-here o),
        part-length bs 32 c.nodes_at (names-within o),
        names-start o,
        names-within o,
        (fit-parts f.0).short,
        ap length f.1,
      )

  pub place-small : (n : ℕ) → n < length names → 32 + start names n < 65536
  place-small n h = omega (arith, place-fits n h)

  name-at : (n v : ℕ) → n < length names → v ≡ 32 + start names n → NameAt bs n v
  unfolding part
  name-at n v h p =
      let w = names-within o in
      let all = names in
      let at = start names n in
      let k = length (get_or names n []) in
      let f : flat name_bytes names ≡ part 32 c.nodes_at bs = names-in.filled ∙ sym (names-here o) in
      let fits : at + suc k ≤ length (part 32 c.nodes_at bs) = subst (λ (l : List ℕ). at + suc k ≤ length l) f (name-fits names n h) in
      let g : get_or bs v 0 ≡ k =
      ap (λ (i : ℕ). get_or bs i 0) p ∙ sym (part-at bs 32 c.nodes_at w at (omega (arith, fits))) ∙ ap (λ (l : List ℕ). get_or l at 0) (sym f) ∙ size-there names n h in
      record {
        within = omega (arith, g, p, fits, part-length bs 32 c.nodes_at w);
        is =
            ap (λ (j : ℕ). take j (drop (v + 1) bs)) (let a : v + 1 + get_or bs v 0 - (v + 1) ≡ k = omega (arith, g) in a)
            ∙ ap (λ (i : ℕ). take k (drop i bs)) (let b : v + 1 ≡ 32 + suc at = omega (arith, p) in b)
            ∙ sym (part-part bs 32 c.nodes_at w (suc at) k (omega (arith, fits)))
            ∙ ap (λ (l : List ℕ). take k (drop (suc at) l)) (sym f)
            ∙ name-read names n h
            ∙ ap (λ (l : List ℕ). get_or (names_of (length l) l) n []) (sym (names-here o))
            ∙ name-there o n;
      }

  pub places-end : {left : List (List ℕ)} {places : List ℕ} {n : ℕ} → Filling names left (λ m v. v ≡ 32 + start names m) n places → left ≡ [] → PlacesOf bs c.names places
  places-end {places = places} l e =
      let z = filling-end l e in
      record {
        long = l.long;
        few = names-few o;
        at = λ n i. name-at n (get_or places n 0) (omega (arith, names-in.counted)) (l.done n (omega (arith, names-in.counted)));
        beyond = λ n i. l.beyond n (omega (arith, l.passed, names-in.counted));
        outside = λ n i. sym (name-outside o n i);
      }
