-- Numbers, rows, entries and the table of contents in bytes, there and back, and parts of the bytes. Assumes nothing.
--     le16-of, le32-of, bytes16-le, bytes32-le    a number and its bytes
--     Chunks, chunks-read, chunks-write           records of one width that lie end to end, for any way to lay out one of them
--     rows-read, rows-write, entries-read, ..     the same of rows and of entries
--     toc-read, toc-write                         the table of contents
--     part-of, part-join, ..                      the bytes from one place up to another
--     append-bytes, flat-bytes, row-bytes, ..     what is put together of bytes is bytes
use mathlib.Core.Path.{◌≡◌, refl, sym, ap, ap₂, ◌∙◌}
use mathlib.Core.List.{List, [], ◌∷◌, ◌++◌, append_assoc}
use Prim.Native.Nat.{ℕ, zero, suc, ◌+◌, ◌-◌, ◌*◌, ◌/◌, ◌%◌, ◌≤◌, ◌<◌}
use native.Mathlib.Nat.{not-suc-le-zero, add-zero, add_assoc, zero-mul, suc-mul, sub-zero, mod-eq_of_lt, div-div-eq-div-mul}
use native.Mathlib.Omega.{arith}
use lib.ListN.{length, get_or, take, drop, length-append, length-drop}
use lib.Seq.{take_all, take-length, take_at, drop_at, drop-drop, take-add, get_or-drop, length-take-le}
use Rattle.format.specs.Encode.{bytes16, bytes32, Row, row_bytes, Entry, entry_bytes, toc_row}
use Rattle.refusals.specs.Lists.{flat}
use Rattle.format.specs.Layout.{le16, le32, row_at, entry_at, run, part}
use Rattle.format.specs.Rules.{Bytes}
use Rattle.format.proofs.Lists.{All, all-of}

-- ---- Numbers

-- the digits of a number in base 256
join16 : (n : ℕ) → n < 65536 → n % 256 + n / 256 % 256 * 256 ≡ n
join16 n h = omega arith

join32 : (n : ℕ) → n < 4294967296 → n % 256 + n / 256 % 256 * 256 + n / 65536 % 256 * 65536 + n / 16777216 % 256 * 16777216 ≡ n
join32 n h =
    let a : n / 256 / 256 ≡ n / 65536 = div-div-eq-div-mul n 256 256 in
    let b : n / 65536 / 256 ≡ n / 16777216 = div-div-eq-div-mul n 65536 256 in
    let c : n / 16777216 % 256 ≡ n / 16777216 = mod-eq_of_lt (omega arith) in
    omega arith

pub bytes16-le : (bs : List ℕ) (i : ℕ) → Bytes bs → bytes16 (le16 bs i) ≡ get_or bs i 0 ∷ get_or bs (i + 1) 0 ∷ []
unfolding bytes16 le16
bytes16-le bs i h =
    let a : ℕ = get_or bs i 0 in
    let b : ℕ = get_or bs (i + 1) 0 in
    let ha : get_or bs i 0 < 256 = h i in
    let hb : get_or bs (i + 1) 0 < 256 = h (i + 1) in
    ap₂ (λ (x y : ℕ). x ∷ y ∷ []) (omega arith) (omega arith)

pub bytes32-le : (bs : List ℕ) (i : ℕ) → Bytes bs → bytes32 (le32 bs i) ≡ get_or bs i 0 ∷ get_or bs (i + 1) 0 ∷ get_or bs (i + 2) 0 ∷ get_or bs (i + 3) 0 ∷ []
unfolding bytes32 le32
bytes32-le bs i h = digits (get_or bs i 0) (get_or bs (i + 1) 0) (get_or bs (i + 2) 0) (get_or bs (i + 3) 0) (h i) (h (i + 1)) (h (i + 2)) (h (i + 3))
  where
    digits : (a b c d : ℕ) → a < 256 → b < 256 → c < 256 → d < 256 → bytes32 (a + b * 256 + c * 65536 + d * 16777216) ≡ a ∷ b ∷ c ∷ d ∷ []
    digits a b c d ha hb hc hd =
        let n : ℕ = a + b * 256 + c * 65536 + d * 16777216 in
        let one : n / 256 ≡ b + c * 256 + d * 65536 = omega arith in
        let two : n / 65536 ≡ c + d * 256 = omega arith in
        let three : n / 16777216 ≡ d = omega arith in
        let e : n % 256 ≡ a = omega arith in
        let f : (b + c * 256 + d * 65536) % 256 ≡ b = omega arith in
        let g : (c + d * 256) % 256 ≡ c = omega arith in
        rw (one, two, three, e, f, g, mod-eq_of_lt hd)

-- a number behind i other bytes
le16-drop : (bs : List ℕ) (i j : ℕ) → le16 (drop i bs) j ≡ le16 bs (i + j)
unfolding le16
le16-drop bs i j = rw (get_or-drop i bs j 0, get_or-drop i bs (j + 1) 0, add_assoc i j 1)

le32-drop : (bs : List ℕ) (i j : ℕ) → le32 (drop i bs) j ≡ le32 bs (i + j)
unfolding le32
le32-drop bs i j =
    rw (get_or-drop i bs j 0, get_or-drop i bs (j + 1) 0, get_or-drop i bs (j + 2) 0, get_or-drop i bs (j + 3) 0, add_assoc i j 1, add_assoc i j 2, add_assoc i j 3)

pub le16-of : (xs ys : List ℕ) (n i : ℕ) → length xs ≡ i → n < 65536 → le16 (xs ++ bytes16 n ++ ys) i ≡ n
unfolding le16 bytes16
le16-of xs ys n i e h =
    let bs : List ℕ = xs ++ bytes16 n ++ ys in
    ap (le16 bs) (sym (add-zero i)) ∙ sym (le16-drop bs i 0)
    ∙ ap (λ (l : List ℕ). le16 l 0) (ap (drop i) (append_assoc xs (bytes16 n) ys) ∙ drop_at xs (bytes16 n ++ ys) i e)
    ∙ join16 n h

pub le32-of : (xs ys : List ℕ) (n i : ℕ) → length xs ≡ i → n < 4294967296 → le32 (xs ++ bytes32 n ++ ys) i ≡ n
unfolding le32 bytes32
le32-of xs ys n i e h =
    let bs : List ℕ = xs ++ bytes32 n ++ ys in
    ap (le32 bs) (sym (add-zero i)) ∙ sym (le32-drop bs i 0)
    ∙ ap (λ (l : List ℕ). le32 l 0) (ap (drop i) (append_assoc xs (bytes32 n) ys) ∙ drop_at xs (bytes32 n ++ ys) i e)
    ∙ join32 n h

pub le16-small : (bs : List ℕ) (i : ℕ) → Bytes bs → le16 bs i < 65536
unfolding le16
le16-small bs i h = omega (arith, h i, h (i + 1))

pub le32-small : (bs : List ℕ) (i : ℕ) → Bytes bs → le32 bs i < 4294967296
unfolding le32
le32-small bs i h = omega (arith, h i, h (i + 1), h (i + 2), h (i + 3))

pub bytes16-bytes : (n : ℕ) → Bytes (bytes16 n)
unfolding bytes16
bytes16-bytes n zero = omega arith
bytes16-bytes n (suc zero) = omega arith
bytes16-bytes n (suc (suc i)) = omega arith

pub bytes32-bytes : (n : ℕ) → Bytes (bytes32 n)
unfolding bytes32
bytes32-bytes n zero = omega arith
bytes32-bytes n (suc zero) = omega arith
bytes32-bytes n (suc (suc zero)) = omega arith
bytes32-bytes n (suc (suc (suc zero))) = omega arith
bytes32-bytes n (suc (suc (suc (suc i)))) = omega arith

pub drop-bytes : (a : ℕ) (bs : List ℕ) → Bytes bs → Bytes (drop a bs)
drop-bytes a bs h i = rw (get_or-drop a bs i 0) (h (a + i))

pub take-bytes : (k : ℕ) (bs : List ℕ) → Bytes bs → Bytes (take k bs)
take-bytes zero bs h i = omega arith
take-bytes (suc k) [] h i = omega arith
take-bytes (suc k) (b ∷ bs) h zero = h 0
take-bytes (suc k) (b ∷ bs) h (suc i) = take-bytes k bs (λ j. h (suc j)) i

pub no-bytes : Bytes []
no-bytes i = omega arith

pub cons-bytes : (b : ℕ) (bs : List ℕ) → b < 256 → Bytes bs → Bytes (b ∷ bs)
cons-bytes b bs h g zero = h
cons-bytes b bs h g (suc i) = g i

pub append-bytes : (xs ys : List ℕ) → Bytes xs → Bytes ys → Bytes (xs ++ ys)
append-bytes [] ys h g i = g i
append-bytes (x ∷ xs) ys h g zero = h 0
append-bytes (x ∷ xs) ys h g (suc i) = append-bytes xs ys (λ j. h (suc j)) g i

pub append-bytes₄ : (a b c d : List ℕ) → Bytes a → Bytes b → Bytes c → Bytes d → Bytes (a ++ b ++ c ++ d)
append-bytes₄ a b c d x y z t = append-bytes (a ++ b ++ c) d (append-bytes (a ++ b) c (append-bytes a b x y) z) t

pub flat-bytes : {A : Type 0} (f : A → List ℕ) (l : List A) → All (λ (a : A). Bytes (f a)) l → Bytes (flat f l)
unfolding flat
flat-bytes f [] h = no-bytes
flat-bytes f (a ∷ l) h = append-bytes (f a) (flat f l) h.0 (flat-bytes f l h.1)

-- ---- Records of one width that lie end to end

-- A way to lay a thing out in w bytes, and to read the n-th one of bytes.
pub record Chunks {A : Type 0} (w : ℕ) (Good : A → Type 0) (enc : A → List ℕ) (at : List ℕ → ℕ → A) : Type 0 where
  pub wide : (a : A) → length (enc a) ≡ w
  pub behind : (bs : List ℕ) (n : ℕ) → at bs n ≡ at (drop (n * w) bs) 0
  pub reads : (a : A) (ys : List ℕ) → Good a → at (enc a ++ ys) 0 ≡ a
  pub writes : (bs : List ℕ) → Bytes bs → w ≤ length bs → enc (at bs 0) ≡ take w bs

module _ {A : Type 0} {w : ℕ} {Good : A → Type 0} {enc : A → List ℕ} {at : List ℕ → ℕ → A} (c : Chunks w Good enc at) where
  pub chunks-length : (l : List A) → length (flat enc l) ≡ length l * w
  unfolding flat
  chunks-length [] = sym (zero-mul w)
  chunks-length (a ∷ l) =
      length-append (enc a) (flat enc l) ∙ ap₂ ◌+◌ (c.wide a) (chunks-length l) ∙ omega arith

  next : (bs : List ℕ) (n : ℕ) → drop (suc n * w) bs ≡ drop w (drop (n * w) bs)
  next bs n = ap (λ (j : ℕ). drop j bs) (suc-mul n w) ∙ sym (drop-drop w (n * w) bs)

  -- from the n-th on
  reads-from : (bs : List ℕ) (n : ℕ) (l : List A) → drop (n * w) bs ≡ flat enc l → All Good l → run (at bs) n (length l) ≡ l
  unfolding flat run
  reads-from bs n [] e g = refl
  reads-from bs n (a ∷ l) e g =
      let one : at bs n ≡ a = c.behind bs n ∙ ap (λ (r : List ℕ). at r 0) e ∙ c.reads a (flat enc l) g.0 in
      let rest : drop (suc n * w) bs ≡ flat enc l = next bs n ∙ ap (drop w) e ∙ drop_at (enc a) (flat enc l) w (c.wide a) in
      ap₂ (λ (x : A) (r : List A). x ∷ r) one (reads-from bs (suc n) l rest g.1)

  pub chunks-read : (l : List A) → All Good l → run (at (flat enc l)) 0 (length l) ≡ l
  chunks-read l g = reads-from (flat enc l) 0 l (rw (zero-mul w)) g

  writes-from : (bs : List ℕ) (n k : ℕ) → Bytes bs → (n + k) * w ≤ length bs → flat enc (run (at bs) n k) ≡ take (k * w) (drop (n * w) bs)
  unfolding flat run
  writes-from bs n zero h le = rw (zero-mul w)
  writes-from bs n (suc k) h le =
      let d : List ℕ = drop (n * w) bs in
      let long : w ≤ length d = rw (length-drop (n * w) bs) (omega arith) in
      let one : enc (at bs n) ≡ take w d = ap enc (c.behind bs n) ∙ c.writes d (drop-bytes (n * w) bs h) long in
      let e : suc k * w ≡ w + k * w = omega arith in
      ap₂ ◌++◌ one (writes-from bs (suc n) k h (omega arith) ∙ ap (take (k * w)) (next bs n))
      ∙ sym (take-add w (k * w) d) ∙ ap (λ (j : ℕ). take j d) (sym e)

  -- the first k of the bytes' things, and all of them
  pub chunks-first : (bs : List ℕ) (k : ℕ) → Bytes bs → k * w ≤ length bs → flat enc (run (at bs) 0 k) ≡ take (k * w) bs
  chunks-first bs k h le =
      writes-from bs 0 k h (omega arith) ∙ ap (λ (j : ℕ). take (k * w) (drop j bs)) (zero-mul w)

  pub chunks-write : (bs : List ℕ) (k : ℕ) → Bytes bs → length bs ≡ k * w → flat enc (run (at bs) 0 k) ≡ bs
  chunks-write bs k h e = chunks-first bs k h (omega arith) ∙ take_all (k * w) bs (omega arith)

-- Bytes are themselves such things.
byte-chunks : Chunks 1 (λ (b : ℕ). b < 256) (λ (b : ℕ). b ∷ []) (λ (bs : List ℕ) (n : ℕ). get_or bs n 0)
byte-chunks =
    record {
      wide = λ b. refl;
      behind = λ bs n. rw (get_or-drop (n * 1) bs 0 0) (ap (λ (j : ℕ). get_or bs j 0) (omega arith));
      reads = λ b ys h. refl;
      writes = one;
    }
  where
    one : (bs : List ℕ) → Bytes bs → 1 ≤ length bs → get_or bs 0 0 ∷ [] ≡ take 1 bs
    one [] h le = absurd (not-suc-le-zero le)
    one (b ∷ bs) h le = refl

-- ---- Rows

-- The numbers fit in their bytes, but for the kind and the label kind, whose byte is the number itself.
pub record RowGood (r : Row) : Type 0 where
  pub size : r.size < 65536
  pub value : r.value < 4294967296
  pub label : r.label < 4294967296

row-reads : (r : Row) (ys : List ℕ) → RowGood r → row_at (row_bytes r ++ ys) 0 ≡ r
unfolding row_at row_bytes le16 le32 bytes16 bytes32
row-reads r ys h = rw (join16 r.size h.size, join32 r.value h.value, join32 r.label h.label)

row-writes : (bs : List ℕ) → Bytes bs → 12 ≤ length bs → row_bytes (row_at bs 0) ≡ take 12 bs
unfolding row_at row_bytes flat run
row-writes bs h le = rw (bytes16-le bs 2 h, bytes32-le bs 4 h, bytes32-le bs 8 h) (chunks-first byte-chunks bs 12 h le)

pub row-chunks : Chunks 12 RowGood row_bytes row_at
unfolding row_at row_bytes bytes16 bytes32
row-chunks =
    record {
      wide = λ r. refl;
      behind = λ bs n. rw (get_or-drop (n * 12) bs 0 0, get_or-drop (n * 12) bs 1 0, add-zero, le16-drop, le32-drop bs (n * 12) 4, le32-drop bs (n * 12) 8);
      reads = row-reads;
      writes = row-writes;
    }

pub rows-length : (rs : List Row) → length (flat row_bytes rs) ≡ length rs * 12
rows-length = chunks-length row-chunks

pub rows-read : (rs : List Row) → All RowGood rs → run (row_at (flat row_bytes rs)) 0 (length rs) ≡ rs
rows-read = chunks-read row-chunks

pub rows-write : (bs : List ℕ) (k : ℕ) → Bytes bs → length bs ≡ k * 12 → flat row_bytes (run (row_at bs) 0 k) ≡ bs
rows-write = chunks-write row-chunks

-- A row's kind and label kind are bytes; its other numbers are laid out as bytes.
pub row-bytes : (r : Row) → r.kind < 256 → r.lkind < 256 → Bytes (row_bytes r)
unfolding row_bytes
row-bytes r h g =
    let size : List ℕ = bytes16 r.size in
    let value : List ℕ = bytes32 r.value in
    let label : List ℕ = bytes32 r.label in
    append-bytes (r.kind ∷ r.lkind ∷ size ++ value) label
    (append-bytes (r.kind ∷ r.lkind ∷ size) value
    (cons-bytes r.kind (r.lkind ∷ size) h (cons-bytes r.lkind size g (bytes16-bytes r.size))) (bytes32-bytes r.value)) (bytes32-bytes r.label)

-- A row that is read.
pub record RowRead (r : Row) : Type 0 where
  pub kind : r.kind < 256
  pub lkind : r.lkind < 256
  pub good : RowGood r

pub row_at-good : (bs : List ℕ) (n : ℕ) → Bytes bs → RowRead (row_at bs n)
unfolding row_at
row_at-good bs n h =
    record {
      kind = h (n * 12);
      lkind = h (n * 12 + 1);
      good =
          record {
            size = le16-small bs (n * 12 + 2) h;
            value = le32-small bs (n * 12 + 4) h;
            label = le32-small bs (n * 12 + 8) h;
          };
    }

-- ---- Entries

pub record EntryGood (e : Entry) : Type 0 where
  pub name : e.name < 65536
  pub owner : e.owner < 65536
  pub root : e.root < 65536
  pub reserved : e.reserved < 65536

entry-reads : (e : Entry) (ys : List ℕ) → EntryGood e → entry_at (entry_bytes e ++ ys) 0 ≡ e
unfolding entry_at entry_bytes le16 bytes16
entry-reads e ys h =
    rw (join16 e.name h.name, join16 e.owner h.owner, join16 e.root h.root, join16 e.reserved h.reserved)

entry-writes : (bs : List ℕ) → Bytes bs → 8 ≤ length bs → entry_bytes (entry_at bs 0) ≡ take 8 bs
unfolding entry_at entry_bytes flat run
entry-writes bs h le = rw (bytes16-le bs 0 h, bytes16-le bs 2 h, bytes16-le bs 4 h, bytes16-le bs 6 h) (chunks-first byte-chunks bs 8 h le)

pub entry-chunks : Chunks 8 EntryGood entry_bytes entry_at
unfolding entry_at entry_bytes bytes16
entry-chunks =
    record {
      wide = λ e. refl;
      behind = λ bs n. rw (le16-drop bs (n * 8) 0, le16-drop bs (n * 8) 2, le16-drop bs (n * 8) 4, le16-drop bs (n * 8) 6, add-zero);
      reads = entry-reads;
      writes = entry-writes;
    }

pub entries-length : (es : List Entry) → length (flat entry_bytes es) ≡ length es * 8
entries-length = chunks-length entry-chunks

pub entries-read : (es : List Entry) → All EntryGood es → run (entry_at (flat entry_bytes es)) 0 (length es) ≡ es
entries-read = chunks-read entry-chunks

pub entries-write : (bs : List ℕ) (k : ℕ) → Bytes bs → length bs ≡ k * 8 → flat entry_bytes (run (entry_at bs) 0 k) ≡ bs
entries-write = chunks-write entry-chunks

entry-bytes : (e : Entry) → Bytes (entry_bytes e)
unfolding entry_bytes
entry-bytes e =
    append-bytes₄ (bytes16 e.name) (bytes16 e.owner) (bytes16 e.root) (bytes16 e.reserved)
    (bytes16-bytes e.name) (bytes16-bytes e.owner) (bytes16-bytes e.root) (bytes16-bytes e.reserved)

pub entries-bytes : (es : List Entry) → Bytes (flat entry_bytes es)
entries-bytes es = flat-bytes entry_bytes es (all-of (λ (e : Entry). Bytes (entry_bytes e)) entry-bytes es)

-- ---- The table of contents

toc-row : (offset n : ℕ) → Bytes (toc_row offset n)
unfolding toc_row
toc-row offset n = append-bytes (bytes32 offset) (bytes32 n) (bytes32-bytes offset) (bytes32-bytes n)

-- The numbers that the bytes begin with.
pub record Toc (bs : List ℕ) (a b c d e f g h : ℕ) : Type 0 where
  pub names_at : le32 bs 0 ≡ a
  pub names : le32 bs 4 ≡ b
  pub nodes_at : le32 bs 8 ≡ c
  pub nodes : le32 bs 12 ≡ d
  pub definitions_at : le32 bs 16 ≡ e
  pub definitions : le32 bs 20 ≡ f
  pub files_at : le32 bs 24 ≡ g
  pub files : le32 bs 28 ≡ h

-- The number fits in four bytes.
abbrev pub Four : ℕ → Type 0
Four n = n < 4294967296

module _ (a b c d e f g h : ℕ) where
  pub toc-length : length (toc_row a b ++ toc_row c d ++ toc_row e f ++ toc_row g h) ≡ 32
  unfolding toc_row bytes32
  toc-length = refl

  pub toc-bytes : Bytes (toc_row a b ++ toc_row c d ++ toc_row e f ++ toc_row g h)
  toc-bytes = append-bytes₄ (toc_row a b) (toc_row c d) (toc_row e f) (toc_row g h) (toc-row a b) (toc-row c d) (toc-row e f) (toc-row g h)

  pub toc-read : (rest : List ℕ) → Four a → Four b → Four c → Four d → Four e → Four f → Four g → Four h →
      Toc (toc_row a b ++ toc_row c d ++ toc_row e f ++ toc_row g h ++ rest) a b c d e f g h
  unfolding toc_row bytes32 le32
  toc-read rest ha hb hc hd he hf hg hh =
      record {
        names_at = join32 a ha;
        names = join32 b hb;
        nodes_at = join32 c hc;
        nodes = join32 d hd;
        definitions_at = join32 e he;
        definitions = join32 f hf;
        files_at = join32 g hg;
        files = join32 h hh;
      }

pub toc-write : (bs : List ℕ) → Bytes bs → 32 ≤ length bs
    → toc_row (le32 bs 0) (le32 bs 4) ++ toc_row (le32 bs 8) (le32 bs 12) ++ toc_row (le32 bs 16) (le32 bs 20) ++ toc_row (le32 bs 24) (le32 bs 28) ≡ take 32 bs
unfolding toc_row flat run
toc-write bs h le =
    rw (bytes32-le bs 0 h, bytes32-le bs 4 h, bytes32-le bs 8 h, bytes32-le bs 12 h, bytes32-le bs 16 h, bytes32-le bs 20 h, bytes32-le bs 24 h, bytes32-le bs 28 h) (chunks-first byte-chunks bs 32 h le)

-- ---- Parts

pub part-length : (a e : ℕ) (bs : List ℕ) → a ≤ e → e ≤ length bs → length (part a e bs) ≡ e - a
unfolding part
part-length a e bs h k = length-take-le (e - a) (drop a bs) (rw (length-drop a bs) (omega arith))

pub part-bytes : (a e : ℕ) (bs : List ℕ) → Bytes bs → Bytes (part a e bs)
unfolding part
part-bytes a e bs h = take-bytes (e - a) (drop a bs) (drop-bytes a bs h)

-- what stands between other bytes
pub part-of : (xs ys zs : List ℕ) (a e : ℕ) → length xs ≡ a → a + length ys ≡ e → part a e (xs ++ ys ++ zs) ≡ ys
unfolding part
part-of xs ys zs a e h k =
    ap (λ (l : List ℕ). take (e - a) (drop a l)) (append_assoc xs ys zs)
    ∙ ap (take (e - a)) (drop_at xs (ys ++ zs) a h)
    ∙ take_at ys zs (e - a) (omega arith)

pub part-join : (a e g : ℕ) (bs : List ℕ) → a ≤ e → e ≤ g → part a e bs ++ part e g bs ≡ part a g bs
unfolding part
part-join a e g bs h k =
    let p : a + (e - a) ≡ e = omega arith in
    let q : e - a + (g - e) ≡ g - a = omega arith in
    ap (λ (j : ℕ). take (e - a) (drop a bs) ++ take (g - e) (drop j bs)) (sym p)
    ∙ ap (λ (l : List ℕ). take (e - a) (drop a bs) ++ take (g - e) l) (sym (drop-drop (e - a) a bs))
    ∙ sym (take-add (e - a) (g - e) (drop a bs))
    ∙ ap (λ (j : ℕ). take j (drop a bs)) q

pub part-front : (e : ℕ) (bs : List ℕ) → take e bs ≡ part 0 e bs
unfolding part
part-front e bs = rw (sub-zero e)

pub part-whole : (bs : List ℕ) → part 0 (length bs) bs ≡ bs
part-whole bs = sym (part-front (length bs) bs) ∙ take-length bs
