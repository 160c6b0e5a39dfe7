-- What is printed, by the theorems on the question. Assumes nothing.
--     entries-say, entries-count, entries-rise    a name with just what the question gives of it, which counts its values; each name that has a
--                                                 definition once, ascending
--     all-refused, entries-few                    refused just where the check refuses; no more entries than so many
--     bytes-say                                   the same of bytes
--     shown, none-shown, refused-shown            a book that passed, one without definitions, and one that is refused
--     broken-shown, long-shown                    a broken layout: 1, and so for every input that is longer than a book may be
--     p1-shown, p6-shown, ..                      document 01's P1, P6, P10 and P11, letter by letter
--     flag-shown                                  a line with a number
use mathlib.Core.Path.{◌≡◌, refl, sym, ap, subst, ◌∙◌}
use mathlib.Core.Logic.{◌↔◌, inl, inr}
use mathlib.Core.List.Memᴰ
use mathlib.Core.List.{List, [], ◌∷◌, map, Memᴰ}
use Prim.Native.Nat.{ℕ, zero, suc, ◌≤◌, ◌<◌}
use native.Mathlib.Omega.{arith}
use lib.ListN.{length, length-map}
use Rattle.std.specs.Prelude.{Err}
use Rattle.refusals.specs.declared.Refusal.{Refusal}
use Rattle.refusals.specs.declared.Count.{Count}
use Rattle.refusals.specs.declared.Count.TheVariants.{Exactly}
use Rattle.refusals.specs.Verdict.{passes}
use Rattle.refusals.specs.Outcome.{Outcome, refused, given, asked}
use Rattle.refusals.proofs.Outcomes.{given-refused, same-given, after-passed, after-given, after-refused, after-stops}
use Rattle.format.specs.Book.{Definition, Book}
use Rattle.format.specs.Distinct.{Ascends}
use Rattle.format.specs.Fits.{Fits}
use Rattle.format.specs.Layout.{Layout, broken, whole, layout}
use Rattle.format.specs.Within.{full}
use Rattle.format.specs.Admission.{Source, ◌under◌, admitted, admitted_by, on_bytes}
use Rattle.format.proofs.Admission.{admitted-fits, asked-is}
use Rattle.format.proofs.Distinct.{pigeonhole, ascends-distinct}
use Rattle.format.proofs.Encoded.{fit-parts}
use Rattle.format.proofs.Theorems.{found}
use Rattle.judgement.specs.Environment.{main_definitions}
use Rattle.judgement.specs.WellFormed.{defined_name, Defined}
use Rattle.judgement.specs.Check.{member, check, check_bytes}
use Rattle.judgement.proofs.Books.{main-definitions-fit}
use Rattle.listing.specs.Recursive.{sorted}
use Rattle.listing.specs.Room.{AfterCheck}
use Rattle.listing.specs.Values.{HasName, Counts, values}
use Rattle.listing.proofs.List.{main-few}
use Rattle.listing.proofs.Recursive.{sorted-says, sorted-ascends}
use Rattle.listing.proofs.Values.{values-counts, values-computed}
use Rattle.passed.proofs.Asking.{stops}
use Rattle.print.specs.Ascii.{ascii}
use Rattle.print.specs.Decimal.{digit, digits, decimal}
use Rattle.print.specs.Quoted.{plain, hex_digit, escape, escapes, quoted}
use Rattle.print.specs.Refused.{in_table, name_or_number, named_or_dash, refusal_of}
use Rattle.print.proofs.Laws.{refused-nothing}
use Rattle.samples.specs.Bytes as bytes
use Rattle.samples.proofs.Computed.{samples-computed}
use Rattle.examples.proofs.Computed.{answer-computed}
use Rattle.values.specs.Printed.{Entry, defined_names, entry_of, counted, all_values, number, line, lines, text_of, printed}
use Rattle.values.proofs.Counted.{values-is, is-values}

-- ---- The names
module _ (b : Book) where
  abbrev ds : List Definition
  ds = main_definitions b

  names-rise : Ascends (defined_names b)
  unfolding defined_names
  names-rise = sorted-ascends (map defined_name ds) 0 (length b.names)

  names-defined : {n : ℕ} → Memᴰ n (defined_names b) → Defined ds n
  unfolding defined_names
  names-defined {n} i = ((sorted-says (map defined_name ds) 0 (length b.names) n).0 i).0

  defined-names : Fits b → {n : ℕ} → Defined ds n → Memᴰ n (defined_names b)
  unfolding defined_names
  defined-names fits {n} d =
      let c = Memᴰ.of_map defined_name ds d in
      let inside : n < length b.names = rw (← c.2) ((main-definitions-fit b fits).exists c.0 c.1) in
      (sorted-says (map defined_name ds) 0 (length b.names) n).1 (d, omega arith, omega (arith, inside))

-- ---- The entries of a book
abbrev pub first : Entry → ℕ
first e = e.0

firsts : (b : Book) (l : List ℕ) → map first (map (entry_of b) l) ≡ l
firsts b [] = refl
firsts b (n ∷ l) = ap (λ (k : List ℕ). n ∷ k) (firsts b l)

module _ (b : Book) where
  -- Refused just where the check refuses.
  pub all-refused : (r : Refusal) → (all_values b ≡ refused r) ↔ (check b ≡ Err r)
  unfolding all_values
  all-refused r = (λ e. elim (after-refused (check b) _ e) [ inl h ↦ h | inr h ↦ given-refused (sym h.1) ], λ e. after-stops (check b) _ e)

  pub all-given : check b ≡ passes → all_values b ≡ given (counted b)
  unfolding all_values
  all-given passed = after-passed (check b) _ passed

  module _ {es : List Entry} (e : all_values b ≡ given es) where
    passed : check b ≡ passes
    unfolding all_values
    passed = (after-given (check b) _ e).0

    same : counted b ≡ es
    unfolding all_values
    same = same-given (after-given (check b) _ e).1

    -- The names are just those that have a definition, once and ascending.
    pub entries-rise : Fits b → Ascends (map first es) × ((n : ℕ) → Memᴰ n (map first es) ↔ Defined (main_definitions b) n)
    unfolding counted
    entries-rise fits =
        let are : map first es ≡ defined_names b = ap (map first) (sym same) ∙ firsts b (defined_names b) in
        rw are (names-rise b, λ n. (names-defined b, defined-names b fits))

    -- A name stands there with a count exactly if the question gives this of it.
    pub entries-say : Fits b → (n : ℕ) (c : Count) → Memᴰ (n, c) es ↔ (values b n ≡ given c)
    unfolding counted
    entries-say fits n c = rw (← same) (forth, back)
      where
        forth : Memᴰ (n, c) (counted b) → values b n ≡ given c
        forth i =
            let m = Memᴰ.of_map (entry_of b) (defined_names b) i in
            subst (λ (x : Entry). values b x.0 ≡ given x.1) m.2 (is-values b m.0 passed (names-defined b m.1))

        back : values b n ≡ given c → Memᴰ (n, c) (counted b)
        back f = let x = values-is b n f in rw x.1 (Memᴰ.map (entry_of b) (defined-names b fits x.0))

    -- So it counts the values of the name.
    pub entries-count : Fits b → {n : ℕ} {c : Count} → Memᴰ (n, c) es → Counts (HasName (main_definitions b) n) c
    entries-count fits {n} {c} i = (values-counts b n ((entries-say fits n c).0 i)).1

    pub entries-few : Fits b → length es ≤ 512
    entries-few fits =
        let r = entries-rise fits in
        omega (
          arith,
          length-map es first,
          pigeonhole (ascends-distinct (map first es) r.0) (map defined_name (main_definitions b)) (λ n i. (r.1 n).0 i),
          length-map (main_definitions b) defined_name,
          main-few b fits,
        )

pub all-after : AfterCheck all_values
all-after b r e = (all-refused b r).1 e

-- ---- On bytes
pub bytes-say : (bs : Source) {es : List Entry} → on_bytes all_values bs ≡ given es → (n : ℕ) (c : Count) →
    Memᴰ (n, c) es ↔ (on_bytes (λ b. values b n) bs ≡ given c)
unfolding asked
bytes-say bs {es} e n c = go (admitted bs) refl e
  where
    go : (o : Outcome Book) → admitted bs ≡ o → asked all_values o ≡ given es → Memᴰ (n, c) es ↔ (asked (λ b. values b n) o ≡ given c)
    go (refused r) w e = given-refused e
    go (given b) w e = entries-say b e (admitted-fits bs w) n c

-- ---- What is printed of a book that passed, and of one that is refused
pub shown : (bs : List ℕ) (b : Book) → admitted (bs under full) ≡ given b → check b ≡ passes → printed bs ≡ lines bs (counted b)
unfolding text_of printed
shown bs b read passed = ap (text_of bs) (asked-is (bs under full) all_values read ∙ all-given b passed)

none-sorted : (n k : ℕ) → sorted [] n k ≡ []
unfolding sorted member
none-sorted n zero = refl
none-sorted n (suc k) = none-sorted (suc n) k

pub none-shown : (bs : List ℕ) (b : Book) → admitted (bs under full) ≡ given b → check b ≡ passes → main_definitions b ≡ [] → printed bs ≡ []
unfolding defined_names counted lines
none-shown bs b read passed e = shown bs b read passed ∙ rw (e, none-sorted 0 (length b.names)) refl

pub refused-shown : (bs : List ℕ) {r : Refusal} → check_bytes (bs under full) ≡ Err r → printed bs ≡ refusal_of bs r
unfolding text_of printed
refused-shown bs e = ap (text_of bs) (stops all_values (bs under full) all-after e)

-- A broken layout, as that of every input that is longer than a book may be.
pub broken-shown : (bs : List ℕ) → layout bs ≡ broken → printed bs ≡ ascii "refused 1 -\n"
unfolding asked admitted admitted_by text_of printed
broken-shown bs e = rw e (refused-nothing bs)

pub long-shown : (bs : List ℕ) → 65536 < length bs → printed bs ≡ ascii "refused 1 -\n"
long-shown bs h = go (layout bs) refl
  where
    go : (l : Layout) → layout bs ≡ l → printed bs ≡ ascii "refused 1 -\n"
    go broken e = broken-shown bs e
    go (whole b) e = let p = (found bs b).0 e in absurd (omega (arith, (fit-parts p.0).short, ap length p.1))

-- What is printed, by all that it computes by.
unfoldable printed-computed : List ℕ → List ℕ
unfolding
    values-computed counted defined_names all_values number line lines text_of decimal digits digit quoted escapes escape plain hex_digit
    in_table name_or_number named_or_dash refusal_of printed
printed-computed = printed

-- ---- Books of document 01, and a line with a number
pub p1-shown : printed bytes.p1 ≡ ascii "\"pair\" many\n\"spare\" many\n\"tree\" many\n"
unfolding answer-computed samples-computed printed-computed
p1-shown = refl

pub p6-shown : printed bytes.p6 ≡ ascii "refused 2 \"b\"\n"
unfolding answer-computed samples-computed printed-computed
p6-shown = refl

pub p10-shown : printed bytes.p10 ≡ []
unfolding answer-computed samples-computed printed-computed
p10-shown = refl

pub p11-shown : printed bytes.p11-empty ≡ ascii "\"r\" 0\n\"s\" 0\n\"t\" 0\n"
unfolding answer-computed samples-computed printed-computed
p11-shown = refl

pub flag-shown : line (ascii "flag") (Exactly 2) ≡ ascii "\"flag\" 2\n"
unfolding printed-computed
flag-shown = refl
