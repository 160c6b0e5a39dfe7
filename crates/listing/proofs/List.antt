-- The list of a book: what it answers, and what it refuses. Assumes that the book fits, as one that was read from bytes does.
--     list-answered, list-says        a book that passes and has an actor
--     list-refused, list-no-actor     any other
--     list-in-row, list-numbers       a refusal lies in its row; the rows that there are
--     list-few, list-most             no more entries than so many
--     list-bytes-in-row, ..           all on bytes
use mathlib.Core.Path.{◌≡◌, refl, sym, ◌∙◌}
use mathlib.Core.Logic.{◌↔◌}
use mathlib.Core.Bool.{Bool, true, false, cond}
use mathlib.Core.List.{List, [], ◌∷◌, append-nil, Memᴰ, ◌++◌}
use Prim.Native.Nat.{ℕ, ◌≤◌}
use native.Mathlib.Omega.{arith}
use lib.Dec.{T}
use lib.ListN.{length}
use Rattle.format.specs.Forest.{Forest, end, tree, breadth, no_trees}
use Rattle.format.specs.Node.{Kind, PrimT, VarT, OptT, VecT, RecordT, VariantT, FuncT, ServT, ClassT, InitT, Labelled, Node}
use Rattle.format.specs.Book.{Definition, File, Book}
use Rattle.format.specs.Fits.{max_definitions, every, file_fits, Fits}
use Rattle.format.specs.References as refer
use Rattle.format.specs.References.{references}
use Rattle.format.proofs.Logic.{both, says}
use Rattle.format.proofs.Encoded.{fit-parts}
use Rattle.refusals.specs.declared.Refusal.{Refusal}
use Rattle.refusals.specs.declared.Refusal.TheVariants.{NoActor, Short}
use Rattle.std.specs.Prelude.{Err}
use Rattle.refusals.specs.Verdict.{passes, and_then}
use Rattle.judgement.specs.Environment.{main_definitions, kids_of}
use Rattle.judgement.specs.Actor.{is_class_kind, is_class, first_actor, main_actor, service_imports, class_of, service_of}
use Rattle.judgement.specs.Resolve.{merged_actor, resolve_with, resolve_actor}
use Rattle.judgement.specs.Check.{check}
use Rattle.judgement.specs.WellFormed.{Bound, below_top}
use Rattle.judgement.proofs.Theorems.{check-typed, actor-trees}
use Rattle.judgement.proofs.Rows.{check-numbers}
use Rattle.listing.specs.Chase.{chase_types, walked}
use Rattle.refusals.specs.Outcome.{refused, given, after, fit}
use Rattle.listing.specs.Room.{needs_actor, ShortRow, EachOnce, AfterCheck, Most}
use Rattle.listing.specs.List.{list, ListRow, list_rows, checked, no_actor, short}
use Rattle.listing.proofs.Leaves.{LeafyBodies, kept-leafy, resolved-leafy}
use Rattle.listing.proofs.Chases.{Listed}
use Rattle.listing.proofs.Chase.{Answered, bound-answered, kept-few, listed-once, walked-listed, answered-few}
use Rattle.format.proofs.Admission.{asked-row, row-numbers}
use Rattle.refusals.specs.Refusal.{number_of}
use Rattle.format.specs.Admission.{on_bytes, admission_rows, InRow, Source}
use Rattle.refusals.proofs.Outcomes.{given-refused, after-given}
use Rattle.listing.proofs.Room.{answered, actor-given, after-actor, fit-row, check-short, fit-most, bytes-most, check-stops}
use Rattle.listing.specs.References.{Reachable}

-- ---- The definitions of a book
module _ (b : Book) (fits : Fits b) where
  pub main-few : length (main_definitions b) ≤ max_definitions
  unfolding main_definitions
  main-few = kept-few b fits _

  pub main-bodies : LeafyBodies (main_definitions b)
  unfolding main_definitions
  main-bodies = kept-leafy b fits _

-- ---- A class's own node refers to nothing: what is walked of an actor refers to what the actor does
top-references : (κ : Kind) (label : Labelled) (kids : Forest Node) →
    references (cond (is_class_kind κ) kids (tree (record { kind = κ; label = label }) kids end)) ≡ references (tree (record { kind = κ; label = label }) kids end)
unfolding is_class_kind references refer.reference_of
top-references (PrimT p) label kids = refl
top-references (VarT n) label kids = refl
top-references OptT label kids = refl
top-references VecT label kids = refl
top-references RecordT label kids = refl
top-references VariantT label kids = refl
top-references (FuncT a ms) label kids = refl
top-references ServT label kids = refl
top-references ClassT label kids = sym (append-nil (references kids))
top-references InitT label kids = refl

pub class-references : (t : Forest Node) → breadth t ≤ 1 → references (below_top t) ≡ references t
unfolding below_top is_class kids_of breadth
class-references end h = refl
class-references (tree n kids end) h = top-references n.kind n.label kids
class-references (tree n kids (tree m lids next)) h = absurd (omega arith)

single : (names : ℕ) (fs : List File) → T (every (file_fits names) fs) → breadth (first_actor fs) ≤ 1
unfolding every first_actor file_fits breadth
single names [] t = omega arith
single names (f ∷ fs) t = (simp says at (both (file_fits names f) (every (file_fits names) fs) t).0).0.0.1

resolved-single : (ds : List Definition) (main : Forest Node) (fs : List File) → breadth main ≤ 1 → breadth (resolve_with ds main fs) ≤ 1
unfolding resolve_with merged_actor breadth
resolved-single ds main [] h = h
resolved-single ds main (f ∷ fs) h = go (is_class main) _ _
  where
    go : (c : Bool) (x y : Forest Node) → breadth (cond c (class_of x (service_of y)) (service_of y)) ≤ 1
    go true x y = omega arith
    go false x y = omega arith

-- ---- The list
module _ (b : Book) (fits : Fits b) where
  abbrev ds : List Definition
  ds = main_definitions b

  pub actor-bound : Bound ds (below_top (resolve_actor b)) → Bound ds (resolve_actor b)
  unfolding resolve_actor main_actor
  actor-bound h n i = h n (rw (class-references (resolve_actor b) (resolved-single ds (main_actor b) (service_imports b.files) (single _ b.files (fit-parts fits).files))) i)

  pub list-answered : check b ≡ passes → (resolve_actor b ≡ end → ⊥) → Answered ds (resolve_actor b) (list b)
  unfolding list
  list-answered e some =
      let w = ((check-typed b fits).0 e).0 in
      rw (answered b e some (walked (chase_types ds (resolve_actor b))))
      (bound-answered ds w.definitions.once (main-bodies b fits) (resolve_actor b) (resolved-leafy b fits) (main-few b fits)
      (λ d m. (w.definitions.trees d m).bound) (actor-bound (actor-trees b fits e).bound))

  pub list-refused : {r : Refusal} → check b ≡ Err r → list b ≡ refused r
  unfolding list after
  list-refused e = rw e

  pub list-no-actor : check b ≡ passes → resolve_actor b ≡ end → list b ≡ refused NoActor
  unfolding list after needs_actor no_trees
  list-no-actor e none = rw (e, none)

  -- A list is given exactly if the book passes and has an actor, and then it is the one of what is reachable.
  pub list-says : (l : List ℕ) →
      (list b ≡ given l) ↔ ((check b ≡ passes) × (resolve_actor b ≡ end → ⊥) × ((seen : List ℕ) × Listed ds (resolve_actor b) seen l))
  unfolding list
  list-says l = (
    λ e. let p = actor-given b _ e in (p.0, p.1, (walks p.0).0 (after-given (and_then (check b) (needs_actor (resolve_actor b))) _ e).1),
    λ p. answered b p.0 p.1 _ ∙ (walks p.0).1 p.2,
  )
    where
      walks : check b ≡ passes → (walked (chase_types ds (resolve_actor b)) ≡ given l) ↔ ((seen : List ℕ) × Listed ds (resolve_actor b) seen l)
      walks e = walked-listed ds ((check-typed b fits).0 e).0.definitions.once (main-bodies b fits) (resolve_actor b) (resolved-leafy b fits) l

  -- what is refused lies in its row
  pub list-in-row : (places : ℕ) {r : Refusal} → fit places (list b) ≡ refused r → ListRow b places r
  unfolding list
  list-in-row places = fit-row places (list b) _ (ListRow b places) own (λ l e. listed-once ((list-says l).0 e).2.1) (λ k x. short x)
    where
      own : (r : Refusal) → list b ≡ refused r → ListRow b places r
      own r e = after-actor b fits _ (ListRow b places) (λ r. checked) no_actor (λ passed some. given-refused (sym e ∙ (list-answered passed some).answer)) e

-- The rows that there are.
pub list-numbers : {b : Book} {places : ℕ} {r : Refusal} → ListRow b places r → Memᴰ (number_of r) list_rows
list-numbers {b} (checked {r = r} x) = Memᴰ.tail (Memᴰ.tail (check-numbers b r x))
list-numbers (no_actor x) = Memᴰ.head refl
list-numbers (short x) = Memᴰ.tail (Memᴰ.head refl)

-- ---- How many entries there are at most
pub list-few : (b : Book) → Fits b → (l : List ℕ) → list b ≡ given l → length l ≤ 512
list-few b fits l e = let s = (list-says b fits l).0 e in answered-few (list-answered b fits s.0 s.1) e

list-short : (b : Book) {places k : ℕ} → ListRow b places (Short k) → ShortRow places (list b) (EachOnce (Reachable (main_definitions b) (resolve_actor b))) k
list-short b (checked x) = absurd (check-short b x)
list-short b (short x) = x

pub list-most : (b : Book) → Fits b → (places : ℕ) → Most 512 (fit places (list b))
list-most b fits places = fit-most 512 places (list b) (list-few b fits) (λ k e. list-short b (list-in-row b fits places e))

-- ---- On bytes
module _ (bs : Source) (places : ℕ) {r : Refusal} (e : fit places (on_bytes list bs) ≡ refused r) where
  pub list-bytes-in-row : InRow bs (λ b. ListRow b places) r
  list-bytes-in-row = asked-row bs places list (λ b. ListRow b places) (λ b fits. list-in-row b fits places) e

  pub list-bytes-numbers : Memᴰ (number_of r) (admission_rows ++ list_rows)
  list-bytes-numbers = row-numbers bs (λ b. ListRow b places) list_rows r (λ b. list-numbers) list-bytes-in-row

pub list-bytes-most : (bs : Source) (places : ℕ) → Most 512 (fit places (on_bytes list bs))
list-bytes-most bs places = bytes-most 512 places list (λ b fits. list-most b fits places) bs

-- ---- The check comes first
pub list-after : AfterCheck list
unfolding list
list-after b r e = check-stops b _ e
