-- What is printed, by the theorems on the questions. Assumes nothing.
--     shown                       a passed book with an actor: the list and the marks of demand 3, never a refusal
--     broken-shown, long-shown    a broken layout: 1, and so for every input that is longer than a book may be
--     p1-shown                    document 01's P1, letter by letter
use mathlib.Core.Path.{◌≡◌, refl, ap, ◌∙◌}
use mathlib.Core.List.{List, [], ◌∷◌, ◌++◌, map}
use Prim.Native.Nat.{ℕ, ◌≤◌, ◌<◌}
use native.Mathlib.Omega.{arith}
use lib.ListN.{length, length-map}
use Rattle.format.specs.Forest.{end}
use Rattle.format.specs.Book.{Book}
use Rattle.format.specs.Layout.{Layout, broken, whole, layout, name_in}
use Rattle.format.proofs.Encoded.{fit-parts}
use Rattle.format.proofs.Theorems.{found}
use Rattle.refusals.specs.Verdict.{passes}
use Rattle.judgement.specs.Environment.{main_definitions}
use Rattle.judgement.specs.Resolve.{resolve_actor}
use Rattle.judgement.specs.Check.{member, check}
use Rattle.judgement.specs.WellFormed.{defined_name}
use Rattle.format.proofs.Distinct.{pigeonhole, ascends-distinct}
use Rattle.refusals.specs.Outcome.{given, fit, asked}
use Rattle.listing.specs.List.{list}
use Rattle.listing.specs.Marks.{marks_over}
use Rattle.listing.proofs.List.{main-few}
use Rattle.samples.specs.Bytes as bytes
use Rattle.samples.specs.Notation.{spelled}
use Rattle.samples.specs.Notation as notation
use Rattle.samples.specs.Written.{p1}
use Rattle.examples.proofs.P1.{p1-read, p1-source, p1-admitted, p1-list, p1-marks}
use Rattle.listing.specs.Demand3.{Answers}
use Rattle.listing.proofs.Demand3.{asked as sent-on, sent}
use Rattle.print.specs.Ascii.{ascii}
use Rattle.print.specs.Decimal.{digit, digits, decimal}
use Rattle.print.specs.Quoted.{plain, escape, escapes, quoted}
use Rattle.print.specs.Refused.{named_or_dash, refusal_of}
use Rattle.list.specs.Printed.{heading, mark_of, line, lines, list_in, marks_in, marked_text, listed_text, printed}
use Rattle.format.specs.Within.{full}
use Rattle.format.specs.Admission.{◌under◌, admitted, admitted_by}
use Rattle.format.proofs.Admission.{admitted-fits}

-- Both questions are answered.
text : (bs : List ℕ) {l m : List ℕ} → list_in bs ≡ given l → marks_in bs l ≡ given m → printed bs ≡ heading (length l) (length m) ++ lines bs m 1 l
unfolding marked_text listed_text printed
text bs e f = rw (e, f)

-- ---- A book that is passed and has an actor
module _ (bs : List ℕ) (b : Book) (read : admitted (bs under full) ≡ given b) (passed : check b ≡ passes) (some : resolve_actor b ≡ end → ⊥) where
  abbrev answers : Answers b
  answers = sent (bs under full) b read passed some

  -- The lists that are lent are long enough.
  few-listed : length answers.listed ≤ 512
  few-listed =
      let ds = main_definitions b in
      omega (
        arith,
        pigeonhole answers.lists.once (map defined_name ds) answers.lists.defined,
        length-map ds defined_name,
        main-few b (admitted-fits (bs under full) read),
      )

  few-marked : length answers.marked ≤ 1024
  few-marked =
      omega (
        arith,
        pigeonhole (ascends-distinct answers.marked answers.marks.ascends) answers.listed (λ n i. ((answers.marks.exactly n).0 i).0),
        few-listed,
      )

  pub shown : printed bs ≡ heading (length answers.listed) (length answers.marked) ++ lines bs answers.marked 1 answers.listed
  unfolding list_in marks_in
  shown =
      text bs (ap (fit 512) (sent-on (bs under full) b read list) ∙ answers.list_given.1 512 few-listed)
      (ap (fit 1024) (sent-on (bs under full) b read (λ c. marks_over c answers.listed)) ∙ answers.marks_given.1 1024 few-marked)

-- ---- A broken layout, as that of every input that is longer than a book may be
pub broken-shown : (bs : List ℕ) → layout bs ≡ broken → printed bs ≡ ascii "refused 1 -\n"
unfolding asked admitted admitted_by fit list_in listed_text printed refusal_of named_or_dash decimal digits digit
broken-shown bs e = rw e

pub long-shown : (bs : List ℕ) → 65536 < length bs → printed bs ≡ ascii "refused 1 -\n"
long-shown bs h = go (layout bs) refl
  where
    go : (l : Layout) → layout bs ≡ l → printed bs ≡ ascii "refused 1 -\n"
    go broken e = broken-shown bs e
    go (whole b) e = let p = (found bs b).0 e in absurd (omega (arith, (fit-parts p.0).short, ap length p.1))

-- ---- P1
p1-names : p1.names ≡ map ascii ("" ∷ "fork" ∷ "leaf" ∷ "pair" ∷ "put" ∷ "spare" ∷ "tree" ∷ [])
unfolding p1 spelled notation.ascii_bytes
p1-names = refl

pub p1-shown : printed bytes.p1 ≡ ascii "list 2 marked 1\n1 - \"pair\"\n2 r \"tree\"\n"
unfolding fit list_in marks_in heading line lines mark_of member name_in decimal digits digit quoted escapes escape plain
p1-shown =
    text bytes.p1 (ap (fit 512) (sent-on p1-source p1 p1-admitted list ∙ p1-list))
    (ap (fit 1024) (sent-on p1-source p1 p1-admitted (λ c. marks_over c (3 ∷ 6 ∷ [])) ∙ p1-marks))
    ∙ rw (p1-read, p1-names)
