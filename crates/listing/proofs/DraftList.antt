-- The draft list of a book: what it answers, and what it refuses. Assumes that the book fits, as one that was read from bytes does.
--     draft-says, draft-stops, draft-lost  a draft is listed, or stops at a name without definition
--     draft-either, draft-actor, ..        all that it answers
--     draft-refuses                        what is refused before 16, exactly and in its order
--     draft-in-row, draft-numbers          a refusal lies in its row; the rows that there are
--     draft-row-refused, draft-row-short   where a row holds, the draft is refused
--     draft-few, draft-most                no more entries than so many
--     draft-bytes-in-row, ..               all on bytes
use mathlib.Core.Path.{◌≡◌, refl, sym, ap, ◌∙◌, subst}
use mathlib.Core.Logic.{◌↔◌, ◌⊎◌, inl, inr, ⊎_elim}
use mathlib.Core.List.{List, [], map, Memᴰ, ◌++◌}
use Prim.Native.Nat.{ℕ, ◌≤◌}
use lib.ListN.{length}
use Rattle.format.specs.Forest.{end, no_trees}
use Rattle.format.specs.Book.{Definition, Book}
use Rattle.format.specs.Fits.{max_definitions, Fits}
use Rattle.format.specs.References.{references}
use Rattle.refusals.specs.declared.Refusal.{Refusal}
use Rattle.refusals.specs.declared.Refusal.TheVariants.{Twice, Unbound, NoActor, Short}
use Rattle.std.specs.Prelude.{Ok, Err}
use Rattle.refusals.specs.Verdict.{Verdict, passes, and_then}
use Rattle.judgement.specs.Actor.{main_actor}
use Rattle.judgement.specs.Check.{once_verdict}
use Rattle.format.specs.Distinct.{Distinct}
use Rattle.judgement.specs.WellFormed.{defined_name}
use Rattle.refusals.proofs.Verdicts.{both-pass, pass-both, which-refused}
use Rattle.judgement.proofs.Decs.{once-says, once-say, first-repeated}
use Rattle.judgement.proofs.Rows.{repeated-distinct}
use Rattle.listing.specs.Chase.{Walk, going, unbound, chase_types, walked}
use Rattle.refusals.specs.Outcome.{refused, given, after, fit}
use Rattle.listing.specs.Room.{needs_actor, EachOnce, ShortRow, Most}
use Rattle.listing.specs.DraftList.{draft_definitions, draft_list, DraftRefuses, lacks_actor, defines_again, misses_name, DraftRow, draft_rows, no_actor, twice, short}
use Rattle.listing.proofs.Leaves.{LeafyBodies, main-leafy, kept-leafy}
use Rattle.listing.proofs.Chases.{Listed, misses-lost}
use Rattle.listing.specs.References.{Lost, Misses, Reachable, direct}
use Rattle.listing.proofs.Chase.{walk-lost, lost-says, Answered, going-answered, kept-few, listed-once, walked-listed, walked-missed, walked-refused, answered-few}
use Rattle.format.proofs.Admission.{asked-refuses, asked-row, row-numbers}
use Rattle.refusals.specs.Refusal.{number_of}
use Rattle.format.specs.Admission.{on_bytes, admission_rows, InRow, Source}
use Rattle.refusals.proofs.Outcomes.{given-refused, after-given, after-passed, after-refused, after-stops, same-refusal}
use Rattle.listing.proofs.Room.{passed-actor, actor-passed, actor-refused, fit-row, short-refuses, fit-most, bytes-most}
use Rattle.listing.specs.DraftList as rows

module _ (b : Book) (fits : Fits b) where
  abbrev draft : List Definition
  draft = draft_definitions b

  pub draft-bodies : LeafyBodies (draft_definitions b)
  unfolding draft_definitions
  draft-bodies = kept-leafy b fits _

  draft-definitions : length (draft_definitions b) ≤ max_definitions
  unfolding draft_definitions
  draft-definitions = kept-few b fits _

  pub draft-actor : main_actor b ≡ end → draft_list b ≡ refused NoActor
  unfolding draft_list needs_actor no_trees after
  draft-actor e = rw e

  module _ (some : main_actor b ≡ end → ⊥) (once : Distinct (map defined_name draft)) where
    draft-walk : draft_list b ≡ walked (chase_types draft (main_actor b))
    unfolding draft_list
    draft-walk = after-passed (and_then (needs_actor (main_actor b)) (once_verdict [] draft)) _
        (pass-both (needs_actor (main_actor b)) (once_verdict [] draft) (actor-passed (main_actor b) some) ((once-says draft).1 once))

    pub draft-says : (l : List ℕ) → (draft_list b ≡ given l) ↔ ((seen : List ℕ) × Listed draft (main_actor b) seen l)
    draft-says l = rw draft-walk (walked-listed draft once draft-bodies (main_actor b) (main-leafy b fits) l)

    -- It stops at the first name without definition that is met.
    pub draft-stops : (n : ℕ) → (draft_list b ≡ refused (Unbound n)) ↔ Misses draft (references (main_actor b)) [] [] n
    draft-stops n = rw draft-walk (walked-missed draft once draft-bodies (main_actor b) (main-leafy b fits) n)

    pub draft-lost : ((n : ℕ) × (draft_list b ≡ refused (Unbound n))) ↔ ((n : ℕ) × Lost draft (main_actor b) n)
    unfolding walked
    draft-lost =
        let s = lost-says draft once draft-bodies (main_actor b) (main-leafy b fits) in (
          λ p. s.0 (p.0, walked-refused (chase_types draft (main_actor b)) (sym draft-walk ∙ p.1)),
          λ p. let q = s.1 p in (q.0, draft-walk ∙ ap walked q.1),
        )

    pub draft-either : ((n : ℕ) × (draft_list b ≡ refused (Unbound n)) × Lost draft (main_actor b) n) ⊎ Answered draft (main_actor b) (draft_list b)
    unfolding walked
    draft-either = rw draft-walk (go (chase_types draft (main_actor b)) refl)
      where
        go : (w : Walk) → chase_types draft (main_actor b) ≡ w →
            ((n : ℕ) × (walked (chase_types draft (main_actor b)) ≡ refused (Unbound n)) × Lost draft (main_actor b) n) ⊎ Answered draft (main_actor b) (walked (chase_types draft (main_actor b)))
        go (going s o) e = inr (going-answered draft once draft-bodies (main_actor b) (main-leafy b fits) draft-definitions e)
        go (unbound n) e = inl (n, ap walked e, walk-lost draft once draft-bodies (main_actor b) (main-leafy b fits) e)

  -- ---- What is refused
  abbrev draft-verdict : Verdict
  draft-verdict = and_then (needs_actor (main_actor b)) (once_verdict [] draft)

  draft-begun : draft-verdict ≡ passes → (main_actor b ≡ end → ⊥) × Distinct (map defined_name draft)
  draft-begun e =
      let p = both-pass (needs_actor (main_actor b)) (once_verdict [] draft) e in
      (passed-actor (main_actor b) p.0, (once-says draft).0 p.1)

  -- It is refused exactly so, in this order.
  pub draft-refuses : (r : Refusal) → (draft_list b ≡ refused r) ↔ DraftRefuses b r
  unfolding draft_list
  draft-refuses r = (there, back)
    where
      there : draft_list b ≡ refused r → DraftRefuses b r
      there e =
          elim (after-refused draft-verdict _ e) [
            | inl h ↦ elim (which-refused (needs_actor (main_actor b)) (once_verdict [] draft) h) [
              | inl k ↦ let x = actor-refused (main_actor b) k in subst (DraftRefuses b) x.1 (lacks_actor x.0)
              | inr k ↦
                  let x = ((once-say draft).refused r).0 k.1 in
                  subst (DraftRefuses b) (sym x.1) (defines_again (passed-actor (main_actor b) k.0) x.2)
            ]
            | inr h ↦
                let p = draft-begun h.0 in
                elim (draft-either p.0 p.1) [
                  | inl x ↦
                      subst (DraftRefuses b) (same-refusal (sym x.1 ∙ e)) (misses_name p.0 p.1 ((draft-stops p.0 p.1 x.0).0 x.1))
                  | inr x ↦ given-refused (sym e ∙ x.answer)
                ]
          ]

      back : {s : Refusal} → DraftRefuses b s → draft_list b ≡ refused s
      back (lacks_actor e) = draft-actor e
      back (defines_again {d = d} some x) =
          after-stops draft-verdict _ (rw (actor-passed (main_actor b) some) (((once-say draft).refused (Twice d.name)).1 (d, refl, x)))
      back (misses_name {n = n} some once x) = (draft-stops some once n).1 x

  -- ---- The rows

  -- a draft is refused at once, or it has an actor and defines no name twice
  draft-starts : ((r : Refusal) × (draft_list b ≡ refused r)) ⊎ ((main_actor b ≡ end → ⊥) × Distinct (map defined_name draft))
  unfolding draft_list
  draft-starts = go draft-verdict refl
    where
      go : (v : Verdict) → draft-verdict ≡ v → ((r : Refusal) × (draft_list b ≡ refused r)) ⊎ ((main_actor b ≡ end → ⊥) × Distinct (map defined_name draft))
      go (Ok tt) e = inr (draft-begun e)
      go (Err r) e = inl (r, after-stops draft-verdict _ e)

  -- What is refused lies in its row.
  pub refuses-in-row : (places : ℕ) {r : Refusal} → DraftRefuses b r → DraftRow b places r
  refuses-in-row places (lacks_actor e) = no_actor e
  refuses-in-row places (defines_again some x) = twice (first-repeated x)
  refuses-in-row places (misses_name some once x) = rows.unbound (misses-lost draft (main_actor b) x (λ m i. direct i))

  pub draft-in-row : (places : ℕ) {r : Refusal} → fit places (draft_list b) ≡ refused r → DraftRow b places r
  draft-in-row places = fit-row places (draft_list b) _ (DraftRow b places) (λ r e. refuses-in-row places ((draft-refuses r).0 e)) result (λ k x. short x)
    where
      result : (l : List ℕ) → draft_list b ≡ given l → EachOnce (Reachable draft (main_actor b)) l
      result l e = ⊎_elim (λ x. given-refused (sym x.1 ∙ e)) (λ p. listed-once ((draft-says p.0 p.1 l).0 e).1) draft-starts

  -- And where a row holds, the draft is refused: with 16 for row 16, and before that for any other.
  pub draft-row-refused : {places : ℕ} {r : Refusal} → DraftRow b places r → ((k : ℕ) → r ≡ Short k → ⊥) → (s : Refusal) × (draft_list b ≡ refused s)
  draft-row-refused (no_actor e) h = (NoActor, draft-actor e)
  draft-row-refused (twice x) h = ⊎_elim (λ y. y) (λ p. absurd (repeated-distinct x p.1)) draft-starts
  draft-row-refused (rows.unbound {n = n} x) h =
      ⊎_elim (λ y. y) (λ p. let q = (draft-lost p.0 p.1).1 (n, x) in (Unbound q.0, q.1)) draft-starts
  draft-row-refused (short {k = k} x) h = absurd (h k refl)

  pub draft-row-short : {places k : ℕ} → DraftRow b places (Short k) → fit places (draft_list b) ≡ refused (Short k)
  draft-row-short {places} (short x) = short-refuses places (draft_list b) x

-- The rows that there are.
pub draft-numbers : {b : Book} {places : ℕ} {r : Refusal} → DraftRow b places r → Memᴰ (number_of r) draft_rows
draft-numbers (no_actor x) = Memᴰ.tail (Memᴰ.tail (Memᴰ.tail (Memᴰ.head refl)))
draft-numbers (twice x) = Memᴰ.head refl
draft-numbers (rows.unbound x) = Memᴰ.tail (Memᴰ.head refl)
draft-numbers (short x) = Memᴰ.tail (Memᴰ.tail (Memᴰ.head refl))

-- ---- How many entries there are at most
pub draft-few : (b : Book) → Fits b → (l : List ℕ) → draft_list b ≡ given l → length l ≤ 512
unfolding draft_list
draft-few b fits l e =
    let p = draft-begun b fits (after-given (draft-verdict b fits) _ e).0 in
    ⊎_elim (λ x. given-refused (sym x.1 ∙ e)) (λ a. answered-few a e) (draft-either b fits p.0 p.1)

draft-short : (b : Book) {places k : ℕ} → DraftRow b places (Short k) → ShortRow places (draft_list b) (EachOnce (Reachable (draft_definitions b) (main_actor b))) k
draft-short b (short x) = x

pub draft-most : (b : Book) → Fits b → (places : ℕ) → Most 512 (fit places (draft_list b))
draft-most b fits places = fit-most 512 places (draft_list b) (draft-few b fits) (λ k e. draft-short b (draft-in-row b fits places e))

-- ---- On bytes
pub draft-bytes-refuses : (bs : Source) (r : Refusal) → (on_bytes draft_list bs ≡ refused r) ↔ InRow bs DraftRefuses r
draft-bytes-refuses bs r = asked-refuses bs draft_list DraftRefuses (λ b fits. draft-refuses b fits r)

module _ (bs : Source) (places : ℕ) {r : Refusal} (e : fit places (on_bytes draft_list bs) ≡ refused r) where
  pub draft-bytes-in-row : InRow bs (λ b. DraftRow b places) r
  draft-bytes-in-row = asked-row bs places draft_list (λ b. DraftRow b places) (λ b fits. draft-in-row b fits places) e

  pub draft-bytes-numbers : Memᴰ (number_of r) (admission_rows ++ draft_rows)
  draft-bytes-numbers = row-numbers bs (λ b. DraftRow b places) draft_rows r (λ b. draft-numbers) draft-bytes-in-row

pub draft-bytes-most : (bs : Source) (places : ℕ) → Most 512 (fit places (on_bytes draft_list bs))
draft-bytes-most bs places = bytes-most 512 places draft_list (λ b fits. draft-most b fits places) bs
