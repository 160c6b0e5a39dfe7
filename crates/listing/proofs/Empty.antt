-- Emptiness by values: the question on a book that fits, as one that was read from bytes does. Assumes nothing.
--     unfilled-exact, unfilled-ascends        of the names of a list those that are empty, in their order
--     unfilled-below, unfilled-kept           of the names below a number; what a test keeps that tells of each
--     empty_names-exact, empty_names-ascends  just the names that are empty, ascending
--     emptiness-in-row, emptiness-numbers     a refusal lies in its row; the rows that there are
--     emptiness-few, emptiness-most           no more entries than so many
--     emptiness-bytes-in-row, ..              all on bytes
use mathlib.Core.Path.{◌≡◌, refl, sym, ap, subst}
use mathlib.Core.Logic.{inl, inr, ◌↔◌}
use mathlib.Core.Bool.{not}
use mathlib.Core.List.Memᴰ
use mathlib.Core.List.{List, ◌++◌, map, Memᴰ}
use Prim.Native.Nat.{ℕ, ◌≤◌, ◌<◌}
use native.Mathlib.Omega.{arith}
use lib.ListN.{length, length-map}
use Rattle.format.specs.Node.{prim_number}
use Rattle.format.specs.Book.{Definition, Book}
use Rattle.format.specs.Distinct.{Ascends}
use Rattle.format.specs.Fits.{every, Fits}
use Rattle.format.specs.Admission.{on_bytes, admission_rows, InRow, Source}
use Rattle.format.proofs.Distinct.{ascends-distinct, pigeonhole}
use Rattle.format.proofs.Admission.{asked-row, row-numbers}
use Rattle.refusals.specs.declared.Refusal.{Refusal}
use Rattle.refusals.specs.declared.Refusal.TheVariants.{Short}
use Rattle.refusals.specs.Refusal.{number_of}
use Rattle.refusals.specs.Outcome.{Outcome, refused, given, fit}
use Rattle.refusals.proofs.Outcomes.{given-refused, after-given, after-refused, same-given, after-stops}
use Rattle.judgement.specs.Environment.{main_definitions}
use Rattle.judgement.specs.WellFormed.{defined_name, Defined}
use Rattle.judgement.specs.Check.{member, check}
use Rattle.judgement.proofs.Lookup.{member-says}
use Rattle.judgement.proofs.Books.{main-definitions-fit}
use Rattle.judgement.proofs.Rows.{check-row, check-numbers}
use Rattle.listing.specs.Uses.{kept}
use Rattle.listing.specs.Room.{EachOnce, ShortRow, AfterCheck, Most}
use Rattle.listing.specs.Empty.{Empty, one_true, prim_fills, kind_fills, each_fills, found_fills, rounds, unfilled, empty_names, emptiness, EmptinessRow, emptiness_rows, checked, short}
use Rattle.refusals.proofs.Verdicts.{not-says}
use Rattle.listing.specs.Recursive.{sorted}
use Rattle.listing.proofs.Recursive.{sorted-says, sorted-ascends}
use Rattle.listing.proofs.Uses.{kept-says}
use Rattle.listing.proofs.Room.{fit-row, check-short, fit-most, bytes-most}
use Rattle.listing.proofs.List.{main-few}
use Rattle.listing.proofs.Filling.{filled-exact}

-- ---- The names whose definition does not fill
module _ (ds : List Definition) where
  pub unfilled-exact : (n : ℕ) → Memᴰ n (unfilled ds) ↔ Empty ds n
  unfolding unfilled
  unfilled-exact n =
      let filled = rounds ds (length ds) in
      let k = kept-says (λ n. not (member n filled)) (map defined_name ds) n in
      let no = not-says (member n filled) in
      let m = member-says n filled in
      let f = filled-exact ds n in (
        λ i. let p = k.0 i in record { defined = p.0; unfilled = λ x. no.0 p.1 (m.1 (f.1 x)) },
        λ e. k.1 (e.defined, no.1 (λ t. e.unfilled (f.0 (m.0 t)))),
      )

-- ---- Of a book

-- The names that are empty, ascending.
pub empty_names-exact : (b : Book) → Fits b → (n : ℕ) → Memᴰ n (empty_names b) ↔ Empty (main_definitions b) n
unfolding empty_names
empty_names-exact b fits n =
    let s = sorted-says (unfilled (main_definitions b)) 0 (length b.names) n in
    let u = unfilled-exact (main_definitions b) n in
    (λ i. u.0 (s.0 i).0, λ e. s.1 (u.1 e, omega arith, omega (arith, inside e.defined)))
  where
    inside : Defined (main_definitions b) n → n < length b.names
    inside d = let c = Memᴰ.of_map defined_name (main_definitions b) d in rw (← c.2) ((main-definitions-fit b fits).exists c.0 c.1)

pub empty_names-ascends : (b : Book) → Ascends (empty_names b)
unfolding empty_names
empty_names-ascends b = sorted-ascends (unfilled (main_definitions b)) 0 (length b.names)

-- ---- The check comes first
pub emptiness-after : AfterCheck emptiness
unfolding emptiness
emptiness-after b r e = after-stops (check b) _ e

-- ---- What is refused
module _ (b : Book) (fits : Fits b) (places : ℕ) where
  pub emptiness-in-row : {r : Refusal} → fit places (emptiness b) ≡ refused r → EmptinessRow b places r
  unfolding emptiness
  emptiness-in-row = fit-row places (emptiness b) _ (EmptinessRow b places) own result (λ k x. short x)
    where
      own : (r : Refusal) → emptiness b ≡ refused r → EmptinessRow b places r
      own r e = elim (after-refused (check b) _ e) [ inl h ↦ checked (check-row b fits h) | inr h ↦ given-refused (sym h.1) ]

      result : (l : List ℕ) → emptiness b ≡ given l → EachOnce (Empty (main_definitions b)) l
      result l e =
          let p = after-given (check b) (given (empty_names b)) e in
          subst (EachOnce (Empty (main_definitions b))) (same-given p.1) (ascends-distinct (empty_names b) (empty_names-ascends b), empty_names-exact b fits)

-- The rows that there are.
pub emptiness-numbers : {b : Book} {places : ℕ} {r : Refusal} → EmptinessRow b places r → Memᴰ (number_of r) emptiness_rows
emptiness-numbers {b} (checked {r = r} x) = Memᴰ.tail (check-numbers b r x)
emptiness-numbers (short x) = Memᴰ.head refl

-- ---- How many entries there are at most
pub emptiness-few : (b : Book) → Fits b → (l : List ℕ) → emptiness b ≡ given l → length l ≤ 512
unfolding emptiness
emptiness-few b fits l e =
    let ds = main_definitions b in
    let p = after-given (check b) (given (empty_names b)) e in
    let once = ascends-distinct (empty_names b) (empty_names-ascends b) in
    let few = pigeonhole once (map defined_name ds) (λ n i. ((empty_names-exact b fits n).0 i).defined) in
    omega (arith, few, length-map ds defined_name, main-few b fits, ap length (same-given p.1))

emptiness-short : (b : Book) {places k : ℕ} → EmptinessRow b places (Short k) → ShortRow places (emptiness b) (EachOnce (Empty (main_definitions b))) k
emptiness-short b (checked x) = absurd (check-short b x)
emptiness-short b (short x) = x

pub emptiness-most : (b : Book) → Fits b → (places : ℕ) → Most 512 (fit places (emptiness b))
emptiness-most b fits places = fit-most 512 places (emptiness b) (emptiness-few b fits) (λ k e. emptiness-short b (emptiness-in-row b fits places e))

-- ---- On bytes
module _ (bs : Source) (places : ℕ) {r : Refusal} (e : fit places (on_bytes emptiness bs) ≡ refused r) where
  pub emptiness-bytes-in-row : InRow bs (λ b. EmptinessRow b places) r
  emptiness-bytes-in-row = asked-row bs places emptiness (λ b. EmptinessRow b places) (λ b fits. emptiness-in-row b fits places) e

  pub emptiness-bytes-numbers : Memᴰ (number_of r) (admission_rows ++ emptiness_rows)
  emptiness-bytes-numbers = row-numbers bs (λ b. EmptinessRow b places) emptiness_rows r (λ b. emptiness-numbers) emptiness-bytes-in-row

pub emptiness-bytes-most : (bs : Source) (places : ℕ) → Most 512 (fit places (on_bytes emptiness bs))
emptiness-bytes-most bs places = bytes-most 512 places emptiness (λ b fits. emptiness-most b fits places) bs

-- ---- What the question computes by, said once: to unfold this is to unfold all that its `unfolding` line names
unfoldable pub empty-computed : Book → Outcome (List ℕ)
unfolding prim_number sorted member every one_true prim_fills kind_fills each_fills found_fills kept rounds unfilled empty_names emptiness
empty-computed = emptiness
