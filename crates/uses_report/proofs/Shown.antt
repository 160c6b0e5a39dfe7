-- What is printed, by the theorems on the questions. Assumes nothing.
--     names-are, numbers-are, entries-say    the names of the list, in its order; the numbers that the question gives, each of which is how many
--                                            entries the row of its name has
--     total-is, total-reads                  the total is the one from the other side; the last line's digits stand for the sum of what those of
--                                            the others do
--     report-refused, entries-few            refused just where the list is; no more entries than so many
--     shown, some-shown, none-shown          a book that passed and has an actor is printed line by line, and never refused; one that lists nothing
--     no-actor-shown, refused-shown          17, and what the check refuses
--     broken-shown, long-shown               a broken layout: 1, and so for every input that is longer than a book may be
--     p1-shown, p4-shown, ..                 document 01's P1, P4, P6 and P10, letter by letter
use mathlib.Core.Path.{◌≡◌, refl, sym, ap, subst, ◌∙◌}
use mathlib.Core.Logic.{◌↔◌}
use mathlib.Core.List.Memᴰ
use mathlib.Core.List.{List, [], ◌∷◌, ◌++◌, map, Memᴰ}
use Prim.Native.Nat.{ℕ, ◌≤◌, ◌<◌}
use native.Mathlib.Omega.{arith}
use lib.ListN.{length, length-map}
use Rattle.std.specs.Prelude.{Err, sum}
use Rattle.refusals.specs.declared.Refusal.{Refusal}
use Rattle.refusals.specs.declared.Refusal.TheVariants.{NoActor}
use Rattle.refusals.specs.Verdict.{passes}
use Rattle.refusals.specs.Outcome.{Outcome, refused, given, asked}
use Rattle.refusals.specs.Handed.{Use}
use Rattle.refusals.proofs.Outcomes.{given-refused, same-given, same-refusal}
use Rattle.format.specs.Forest.{end}
use Rattle.format.specs.Book.{Book}
use Rattle.format.specs.Fits.{Fits}
use Rattle.format.specs.Layout.{Layout, broken, whole, layout}
use Rattle.format.specs.Within.{full}
use Rattle.format.specs.Admission.{◌under◌, admitted, admitted_by}
use Rattle.format.proofs.Admission.{admitted-fits, asked-is}
use Rattle.format.proofs.Encoded.{fit-parts}
use Rattle.format.proofs.Theorems.{found}
use Rattle.judgement.specs.Environment.{main_definitions}
use Rattle.judgement.specs.Resolve.{resolve_actor}
use Rattle.judgement.specs.Check.{check, check_bytes}
use Rattle.listing.specs.List.{list}
use Rattle.listing.specs.Room.{AfterCheck}
use Rattle.listing.specs.Uses.{uses}
use Rattle.listing.specs.UseCounts.{use_count, counts_of, use_counts, TotalOf}
use Rattle.listing.proofs.List.{list-says, list-few, list-after, list-answered, list-no-actor}
use Rattle.listing.proofs.Uses.{uses-answered}
use Rattle.listing.proofs.UseCounts.{use-counts-given, total-is-sum, counts-computed}
use Rattle.passed.proofs.Asking.{stops}
use Rattle.print.specs.Ascii.{ascii}
use Rattle.print.specs.Decimal.{digit, digits, decimal, value_from}
use Rattle.print.specs.Quoted.{plain, hex_digit, escape, escapes, quoted}
use Rattle.print.specs.Refused.{in_table, name_or_number, named_or_dash, refusal_of}
use Rattle.print.proofs.Laws.{decimal-value, refused-nothing}
use Rattle.samples.specs.Bytes as bytes
use Rattle.samples.proofs.Computed.{samples-computed}
use Rattle.examples.proofs.Computed.{answer-computed}
use Rattle.uses_report.specs.Printed.{Entry, entry_of, report, total, line, lines, last_line, text_of, printed}

-- ---- The entries of a book
abbrev pub names_of : List Entry → List ℕ
names_of es = map (λ e. e.0) es

abbrev pub numbers_of : List Entry → List ℕ
numbers_of es = map (λ e. e.1) es

names-entered : (b : Book) (l : List ℕ) → names_of (map (entry_of b) l) ≡ l
names-entered b [] = refl
names-entered b (n ∷ l) = ap (λ (k : List ℕ). n ∷ k) (names-entered b l)

numbers-entered : (b : Book) (l : List ℕ) → numbers_of (map (entry_of b) l) ≡ counts_of b l
unfolding counts_of
numbers-entered b [] = refl
numbers-entered b (n ∷ l) = ap (λ (k : List ℕ). (entry_of b n).1 ∷ k) (numbers-entered b l)

module _ (b : Book) where
  pub report-given : {l : List ℕ} → list b ≡ given l → report b ≡ given (map (entry_of b) l)
  unfolding report asked
  report-given e = rw e

  -- Refused just where the list is.
  pub report-refused : (r : Refusal) → (report b ≡ refused r) ↔ (list b ≡ refused r)
  unfolding report asked
  report-refused r = (go (list b), λ e. rw e)
    where
      go : (o : Outcome (List ℕ)) → asked (λ l. given (map (entry_of b) l)) o ≡ refused r → o ≡ refused r
      go (refused q) e = ap refused (same-refusal e)
      go (given l) e = given-refused (sym e)

  module _ {es : List Entry} (e : report b ≡ given es) where
    pub listed : (l : List ℕ) × (list b ≡ given l) × (map (entry_of b) l ≡ es)
    unfolding report asked
    listed = go (list b) refl e
      where
        go : (o : Outcome (List ℕ)) → list b ≡ o → asked (λ l. given (map (entry_of b) l)) o ≡ given es →
            (l : List ℕ) × (list b ≡ given l) × (map (entry_of b) l ≡ es)
        go (refused q) f e = given-refused e
        go (given l) f e = (l, f, same-given e)

    -- The names are those of the list, in its order.
    pub names-are : list b ≡ given (names_of es)
    names-are = listed.1 ∙ ap given (sym (names-entered b listed.0) ∙ ap names_of listed.2)

    -- The numbers are those that the question about all of them gives, in the same order.
    pub numbers-are : use_counts b ≡ given (numbers_of es)
    numbers-are = use-counts-given b listed.1 ∙ ap given (sym (numbers-entered b listed.0) ∙ ap numbers_of listed.2)

    module _ (fits : Fits b) where
      -- Each number is how many entries the row of its name has.
      pub entries-say : {n k : ℕ} → Memᴰ (n, k) es → (row : List Use) × (uses b n ≡ given row) × (length row ≡ k)
      unfolding use_count
      entries-say {n} {k} i =
          let s = (list-says b fits listed.0).0 listed.1 in
          let m = Memᴰ.of_map (entry_of b) listed.0 (subst (Memᴰ (n, k)) (sym listed.2) i) in
          (_, uses-answered b fits s.0 s.1 n, subst (λ (e : Entry). use_count (main_definitions b) (resolve_actor b) e.0 ≡ e.1) m.2 refl)

      pub entries-few : length es ≤ 512
      entries-few = omega (arith, list-few b fits (names_of es) names-are, length-map es (λ e. e.0))

      -- The total is what comes of all that the actor offers, and nothing else is.
      pub total-is : TotalOf b (total es)
      unfolding total
      total-is = total-is-sum b fits numbers-are

pub report-after : AfterCheck report
report-after b r e = (report-refused b r).1 (list-after b r e)

-- ---- What is printed of a book that passed: its lines, and last the sum of their numbers
module _ (bs : List ℕ) (b : Book) (read : admitted (bs under full) ≡ given b) where
  pub shown : printed bs ≡ text_of bs (report b)
  unfolding printed
  shown = ap (text_of bs) (asked-is (bs under full) report read)

  pub page-shown : {es : List Entry} → report b ≡ given es → printed bs ≡ lines bs es ++ last_line (total es)
  unfolding text_of
  page-shown e = shown ∙ ap (text_of bs) e

  pub none-shown : list b ≡ given [] → printed bs ≡ ascii "total 0\n"
  unfolding lines total last_line decimal digits digit
  none-shown e = page-shown (report-given b e)

  module _ (passed : check b ≡ passes) where
    -- With an actor it is never refused.
    pub some-shown : (resolve_actor b ≡ end → ⊥) → (es : List Entry) × (report b ≡ given es) × (printed bs ≡ lines bs es ++ last_line (total es))
    some-shown some =
        let e = report-given b (list-answered b (admitted-fits (bs under full) read) passed some).answer in (_, e, page-shown e)

    pub no-actor-shown : resolve_actor b ≡ end → printed bs ≡ ascii "refused 17 -\n"
    unfolding text_of refusal_of named_or_dash decimal digits digit
    no-actor-shown none = shown ∙ ap (text_of bs) ((report-refused b NoActor).1 (list-no-actor b (admitted-fits (bs under full) read) passed none))

-- What the digits of the last line stand for is the sum of what those of the other lines do.
values-printed : (es : List Entry) → map (λ (e : Entry). value_from 0 (decimal e.1)) es ≡ numbers_of es
values-printed [] = refl
values-printed (e ∷ es) = rw (decimal-value e.1, values-printed es)

pub total-reads : (es : List Entry) → value_from 0 (decimal (total es)) ≡ sum (map (λ (e : Entry). value_from 0 (decimal e.1)) es)
unfolding total
total-reads es = decimal-value (total es) ∙ ap sum (sym (values-printed es))

-- ---- What is printed of one that is refused
pub refused-shown : (bs : List ℕ) {r : Refusal} → check_bytes (bs under full) ≡ Err r → printed bs ≡ refusal_of bs r
unfolding text_of printed
refused-shown bs e = ap (text_of bs) (stops report (bs under full) report-after e)

-- A broken layout, as that of every input that is longer than a book may be.
pub broken-shown : (bs : List ℕ) → layout bs ≡ broken → printed bs ≡ ascii "refused 1 -\n"
unfolding asked admitted admitted_by text_of printed
broken-shown bs e = rw e (refused-nothing bs)

pub long-shown : (bs : List ℕ) → 65536 < length bs → printed bs ≡ ascii "refused 1 -\n"
long-shown bs h = go (layout bs) refl
  where
    go : (l : Layout) → layout bs ≡ l → printed bs ≡ ascii "refused 1 -\n"
    go broken e = broken-shown bs e
    go (whole b) e = let p = (found bs b).0 e in absurd (omega (arith, (fit-parts p.0).short, ap length p.1))

-- What is printed, by all that it computes by.
unfoldable printed-computed : List ℕ → List ℕ
unfolding
    counts-computed report total line lines last_line text_of decimal digits digit quoted escapes escape plain hex_digit
    in_table name_or_number named_or_dash refusal_of printed
printed-computed = printed

-- ---- Books of document 01
pub p1-shown : printed bytes.p1 ≡ ascii "\"pair\" 1\n\"tree\" 1\ntotal 2\n"
unfolding answer-computed samples-computed printed-computed
p1-shown = refl

pub p4-shown : printed bytes.p4 ≡ ascii "refused 17 -\n"
unfolding answer-computed samples-computed printed-computed
p4-shown = refl

pub p6-shown : printed bytes.p6 ≡ ascii "refused 2 \"b\"\n"
unfolding answer-computed samples-computed printed-computed
p6-shown = refl

pub p10-shown : printed bytes.p10 ≡ ascii "total 0\n"
unfolding answer-computed samples-computed printed-computed
p10-shown = refl
