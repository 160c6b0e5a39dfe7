-- The init list of a book: what it answers, and what it refuses. Assumes that the book fits, as one that was read from bytes does.
--     init-answered, init-says               a book that passes the init check
--     init-answers, init-answers-bytes       .. in demand 3's words, also on bytes
--     init-refused, init-list-none           any other; one without an init file
--     init-list-in-row, init-list-numbers    a refusal lies in its row; the rows that there are
--     init-list-few, init-list-most          no more entries than so many
--     init-list-bytes-in-row, ..             all on bytes
use mathlib.Core.Path.{◌≡◌, refl, sym, ◌∙◌, subst}
use mathlib.Core.Logic.{◌↔◌, inl, inr, ⊎_elim}
use mathlib.Core.Bool.{Bool, not}
use mathlib.Core.List.{List, [], map, Memᴰ, ◌++◌}
use Prim.Native.Nat.{ℕ, ◌≤◌}
use native.Mathlib.Omega.{arith}
use lib.ListN.{length, length-append}
use Rattle.format.specs.Forest.{Forest}
use Rattle.format.specs.Node.{Node}
use Rattle.format.specs.Book.{Definition, Book}
use Rattle.format.specs.Fits.{max_definitions, is_init_role, Fits}
use Rattle.format.proofs.Encoded.{fit-parts}
use Rattle.refusals.specs.declared.Refusal.{Refusal}
use Rattle.std.specs.Prelude.{Err}
use Rattle.refusals.specs.Verdict.{passes}
use Rattle.judgement.specs.Environment.{role_at, keep, main_definitions, init_definitions, merge_definitions, find_type, is_missing, kids_of}
use Rattle.judgement.specs.Check.{check, init_check}
use Rattle.judgement.specs.Actor.{init_tree, NoInit}
use Rattle.format.specs.Distinct.{Distinct}
use Rattle.judgement.specs.WellFormed.{defined_name, Bound, Typed, TypedInit}
use Rattle.judgement.proofs.Lookup.{merge-listed, merge-says, merge-distinct}
use Rattle.judgement.proofs.Theorems.{init-check-typed, no-init-tree, without-init}
use Rattle.judgement.proofs.Rows.{init-check-row, init-numbers}
use Rattle.listing.specs.Chase.{chase_types, walked, chase}
use Rattle.refusals.specs.Outcome.{refused, given, after, fit}
use Rattle.listing.specs.InitList.{init_list, InitAnswers, InitListRow, init_list_rows, checked, short}
use Rattle.listing.proofs.Leaves.{LeafyBodies, init-leafy, kept-leafy}
use Rattle.listing.proofs.Chases.{Listed}
use Rattle.listing.proofs.Chase.{Answered, bound-answered, keep-few, listed-once, walked-listed, answered-few}
use Rattle.format.proofs.Admission.{admitted-fits, asked-row, row-numbers, asked-is}
use Rattle.refusals.specs.Refusal.{number_of}
use Rattle.format.specs.Admission.{admitted, on_bytes, admission_rows, InRow, Source}
use Rattle.refusals.proofs.Outcomes.{given-refused, after-given, after-passed, after-refused, after-stops}
use Rattle.listing.proofs.Room.{fit-row, init-short, fit-most, bytes-most}
use Rattle.listing.proofs.List.{main-bodies}
use Rattle.listing.proofs.Delivered.{gives}
use Rattle.listing.proofs.Demand3.{lists-all}
use Rattle.listing.specs.Room.{ShortRow, EachOnce, AfterCheck, Most}
use Rattle.refusals.specs.declared.Refusal.TheVariants.{Short}
use Rattle.listing.specs.References.{Reachable}

module _ (b : Book) (fits : Fits b) where
  abbrev ds : List Definition
  ds = main_definitions b

  init-bodies : LeafyBodies (init_definitions b)
  unfolding init_definitions
  init-bodies = kept-leafy b fits _

  merged-few : length (merge_definitions (init_definitions b) (main_definitions b)) ≤ max_definitions
  unfolding merge_definitions init_definitions main_definitions
  merged-few =
      let test : Definition → Bool = λ d. is_init_role (role_at b.files d.file) in
      let only : Definition → Bool = λ d. is_missing (find_type (keep test b.definitions) d.name) in
      let main = keep (λ d. not (test d)) b.definitions in
      omega (arith, length-append (keep test b.definitions) (keep only main), keep-few only main, keep-few test b.definitions, (fit-parts fits).few_definitions)

  pub merged-bodies : LeafyBodies (merge_definitions (init_definitions b) (main_definitions b))
  merged-bodies d m = ⊎_elim (init-bodies d) (λ p. main-bodies b fits d p.0) ((merge-listed (init_definitions b) (main_definitions b) d).0 m)

  abbrev merged : List Definition
  merged = merge_definitions (init_definitions b) ds

  abbrev arguments : Forest Node
  arguments = kids_of (init_tree b.files)

  module _ (w : Typed b) (i : TypedInit b) where
    pub merged-once : Distinct (map defined_name merged)
    merged-once = merge-distinct (init_definitions b) ds i.definitions.once w.definitions.once

    merged-bound : (d : Definition) → Memᴰ d merged → Bound merged d.body
    merged-bound d m n h = (merge-says (init_definitions b) ds n).1
        (elim ((merge-listed (init_definitions b) ds d).0 m) [ inl k ↦ inl ((i.definitions.trees d k).bound n h) | inr k ↦ inr ((w.definitions.trees d k.0).bound n h) ])

  pub init-answered : init_check b ≡ passes → Answered merged arguments (init_list b)
  unfolding init_list
  init-answered e =
      let p = (init-check-typed b fits).0 e in
      let w = p.0.0 in
      let i = p.1.0 in
      rw (after-passed (init_check b) (walked (chase_types merged arguments)) e)
      (bound-answered merged (merged-once w i) merged-bodies arguments (init-leafy b fits) merged-few (merged-bound w i) i.arguments.bound)

  pub init-refused : {r : Refusal} → init_check b ≡ Err r → init_list b ≡ refused r
  unfolding init_list after
  init-refused e = rw e

  pub init-says : (l : List ℕ) → (init_list b ≡ given l) ↔ ((init_check b ≡ passes) × ((seen : List ℕ) × Listed merged arguments seen l))
  unfolding init_list
  init-says l = (
    λ e. let p = after-given (init_check b) _ e in (p.0, (walks p.0).0 p.1),
    λ p. after-passed (init_check b) _ p.0 ∙ (walks p.0).1 p.1,
  )
    where
      walks : init_check b ≡ passes → (walked (chase_types merged arguments) ≡ given l) ↔ ((seen : List ℕ) × Listed merged arguments seen l)
      walks e =
          let p = (init-check-typed b fits).0 e in
          walked-listed merged (merged-once p.0.0 p.1.0) merged-bodies arguments (init-leafy b fits) l

  -- what is refused lies in its row
  pub init-list-in-row : (places : ℕ) {r : Refusal} → fit places (init_list b) ≡ refused r → InitListRow b places r
  unfolding init_list
  init-list-in-row places = fit-row places (init_list b) _ (InitListRow b places) own (λ l e. listed-once ((init-says l).0 e).1.1) (λ k x. short x)
    where
      own : (r : Refusal) → init_list b ≡ refused r → InitListRow b places r
      own r e =
          elim (after-refused (init_check b) _ e) [
            | inl h ↦ checked (init-check-row b fits h)
            | inr h ↦ given-refused (sym e ∙ (init-answered h.0).answer)
          ]

-- The rows that there are.
pub init-list-numbers : {b : Book} {places : ℕ} {r : Refusal} → InitListRow b places r → Memᴰ (number_of r) init_list_rows
init-list-numbers {b} (checked {r = r} x) = Memᴰ.tail (init-numbers b r x)
init-list-numbers (short x) = Memᴰ.head refl

-- ---- How many entries there are at most
pub init-list-few : (b : Book) → Fits b → (l : List ℕ) → init_list b ≡ given l → length l ≤ 512
init-list-few b fits l e = answered-few (init-answered b fits ((init-says b fits l).0 e).0) e

init-list-short : (b : Book) {places k : ℕ} → InitListRow b places (Short k) → ShortRow places (init_list b) (EachOnce (Reachable (merge_definitions (init_definitions b) (main_definitions b)) (kids_of (init_tree b.files)))) k
init-list-short b (checked x) = absurd (init-short b x)
init-list-short b (short x) = x

pub init-list-most : (b : Book) → Fits b → (places : ℕ) → Most 512 (fit places (init_list b))
init-list-most b fits places = fit-most 512 places (init_list b) (init-list-few b fits) (λ k e. init-list-short b (init-list-in-row b fits places e))

-- ---- On bytes
module _ (bs : Source) (places : ℕ) {r : Refusal} (e : fit places (on_bytes init_list bs) ≡ refused r) where
  pub init-list-bytes-in-row : InRow bs (λ b. InitListRow b places) r
  init-list-bytes-in-row = asked-row bs places init_list (λ b. InitListRow b places) (λ b fits. init-list-in-row b fits places) e

  pub init-list-bytes-numbers : Memᴰ (number_of r) (admission_rows ++ init_list_rows)
  init-list-bytes-numbers = row-numbers bs (λ b. InitListRow b places) init_list_rows r (λ b. init-list-numbers) init-list-bytes-in-row

pub init-list-bytes-most : (bs : Source) (places : ℕ) → Most 512 (fit places (on_bytes init_list bs))
init-list-bytes-most bs places = bytes-most 512 places init_list (λ b fits. init-list-most b fits places) bs

-- ---- In demand 3's words
pub init-answers : (b : Book) → Fits b → init_check b ≡ passes → InitAnswers b (init_list b)
init-answers b fits passed =
    let a = init-answered b fits passed in
    let p = (init-check-typed b fits).0 passed in
    record { listed = a.names; list_given = gives (init_list b) a.answer; lists = lists-all a.listed (merged-once b fits p.0.0 p.1.0); list_enough = a.short }

pub init-answers-bytes : (bs : Source) (b : Book) → admitted bs ≡ given b → init_check b ≡ passes → InitAnswers b (on_bytes init_list bs)
init-answers-bytes bs b read passed =
    subst (InitAnswers b) (sym (asked-is bs init_list read)) (init-answers b (admitted-fits bs read) passed)

-- Without an init file it is empty.
pub init-list-none : (b : Book) → NoInit b.files → check b ≡ passes → init_list b ≡ given []
unfolding init_list after walked chase_types chase kids_of
init-list-none b none passed = rw (without-init b none, passed, no-init-tree b.files none)

-- ---- The check comes first
pub init-list-after : AfterCheck init_list
unfolding init_list init_check
init-list-after b r e = after-stops (init_check b) _ (rw e)
