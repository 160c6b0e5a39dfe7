-- Laws of every question: of one that follows the check, of one that needs an actor, and of one whose list has to fit. Assumes nothing.
--     actor-passed, actor-refused, ..    17
--     check-stops, actor-lacks, ..       a question that needs an actor
--     after-check, after-actor           a refusal lies in a row of the check, or is of what follows
--     fit-row, short-refuses             .. or the list does not fit
--     check-short, init-short            no check refuses with 16
--     fit-most, bytes-most               entries given or needed are no more than so many
use mathlib.Core.Path.{◌≡◌, refl, sym, ◌∙◌, subst, ap}
use mathlib.Core.Logic.{inl, inr, ◌⊎◌}
use mathlib.Core.Bool.{Bool, true, false, cond}
use mathlib.Core.List.{List, [], ◌∷◌, ◌++◌}
use Prim.Native.Nat.{ℕ, ◌≤◌}
use native.Mathlib.Omega.{arith}
use lib.Dec.{leb}
use lib.ListN.{length}
use Rattle.format.specs.Forest.{Forest, end, tree, no_trees}
use Rattle.format.specs.Node.{Node}
use Rattle.format.specs.Book.{Book}
use Rattle.refusals.specs.declared.Refusal.{Refusal}
use Rattle.refusals.specs.declared.Refusal.TheVariants.{NoActor, Short}
use Rattle.std.specs.Prelude.{Err}
use Rattle.refusals.specs.Verdict.{passes, and_then}
use Rattle.judgement.specs.Resolve.{resolve_actor}
use Rattle.judgement.specs.Check.{check, member}
use Rattle.judgement.specs.Rows.{CheckRow, InitRow, check_rows}
use Rattle.refusals.proofs.Verdicts.{both-pass, pass-both, passed-refused, which-refused}
use Rattle.judgement.proofs.Rows.{check-row, check-numbers, init-numbers}
use Rattle.refusals.specs.Outcome.{Outcome, refused, given, after, fit, asked}
use Rattle.listing.specs.Room.{needs_actor, ShortRow, NoActorRow, Most}
use borrow.Author.Tests.{lt-leb, leb-false}
use Rattle.refusals.proofs.Outcomes.{given-refused, after-passed, after-given, after-refused, same-refusal, fit-given}
use Rattle.judgement.proofs.Lookup.{member-says}
use Rattle.format.specs.Fits.{Fits}
use Rattle.format.specs.Admission.{admitted, on_bytes, admission_rows, Source}
use Rattle.format.proofs.Admission.{admitted-fits, not-admitted, row-numbers}

-- ---- 16
module _ {A : Type 0} (places : ℕ) where
  pub short-refuses : (o : Outcome (List A)) {Result : List A → Type 0} {k : ℕ} → ShortRow places o Result k → fit places o ≡ refused (Short k)
  unfolding fit
  short-refuses o x =
      let h : leb (length x.entries) places ≡ false = lt-leb (length x.entries) places (omega (arith, x.short, x.needed)) in
      rw (x.is-given, h, x.needed)

-- ---- 17
pub actor-passed : (t : Forest Node) → (t ≡ end → ⊥) → needs_actor t ≡ passes
unfolding needs_actor no_trees
actor-passed end h = absurd (h refl)
actor-passed (tree n kids next) h = refl

pub passed-actor : (t : Forest Node) → needs_actor t ≡ passes → t ≡ end → ⊥
unfolding needs_actor no_trees
passed-actor end e q = let z : ◌≡◌ {A = ℕ} 0 1 = cc in omega arith
passed-actor (tree n kids next) e q = let z : ◌≡◌ {A = ℕ} 0 1 = cc in omega arith

pub actor-refused : (t : Forest Node) {r : Refusal} → needs_actor t ≡ Err r → (t ≡ end) × (NoActor ≡ r)
unfolding needs_actor no_trees
actor-refused end e = (refl, cc)
actor-refused (tree n kids next) e = passed-refused e

-- ---- A question that needs an actor
module _ {A : Type 0} (b : Book) (o : Outcome A) where
  -- the check refuses first
  pub check-stops : {r : Refusal} → check b ≡ Err r → after (and_then (check b) (needs_actor (resolve_actor b))) o ≡ refused r
  unfolding after
  check-stops e = rw e

  pub actor-lacks : check b ≡ passes → resolve_actor b ≡ end → after (and_then (check b) (needs_actor (resolve_actor b))) o ≡ refused NoActor
  unfolding after needs_actor no_trees
  actor-lacks e f = rw (e, f)

pub answered : {A : Type 0} (b : Book) → check b ≡ passes → (resolve_actor b ≡ end → ⊥) → (o : Outcome A) →
    after (and_then (check b) (needs_actor (resolve_actor b))) o ≡ o
answered b passed some o =
    after-passed (and_then (check b) (needs_actor (resolve_actor b))) o
    (pass-both (check b) (needs_actor (resolve_actor b)) passed (actor-passed (resolve_actor b) some))

-- what was given says that the book passed, and that it has an actor
pub actor-given : {A : Type 0} (b : Book) (o : Outcome A) {l : A} → after (and_then (check b) (needs_actor (resolve_actor b))) o ≡ given l →
    (check b ≡ passes) × (resolve_actor b ≡ end → ⊥)
actor-given b o e =
    let p = both-pass (check b) (needs_actor (resolve_actor b)) (after-given (and_then (check b) (needs_actor (resolve_actor b))) o e).0 in
    (p.0, passed-actor (resolve_actor b) p.1)

-- ---- A refusal lies in its row
module _ (b : Book) (fits : Fits b) {A : Type 0} (o : Outcome A) (Row : Refusal → Type 0) (checked : (r : Refusal) → CheckRow b r → Row r) {r : Refusal} where
  -- a question that follows the check
  pub after-check : (check b ≡ passes → Row r) → after (check b) o ≡ refused r → Row r
  after-check on e = elim (after-refused (check b) o e) [ inl h ↦ checked r (check-row b fits h) | inr h ↦ on h.0 ]

  -- and one that needs an actor
  pub after-actor : (NoActorRow b → Row NoActor) → (check b ≡ passes → (resolve_actor b ≡ end → ⊥) → Row r) →
      after (and_then (check b) (needs_actor (resolve_actor b))) o ≡ refused r → Row r
  after-actor none on e =
      elim (after-refused (and_then (check b) (needs_actor (resolve_actor b))) o e) [
        | inl h ↦ elim (which-refused (check b) (needs_actor (resolve_actor b)) h) [
          | inl k ↦ checked r (check-row b fits k)
          | inr k ↦ let x = actor-refused (resolve_actor b) k.1 in subst Row x.1 (none (k.0, x.0))
        ]
        | inr h ↦ let p = both-pass (check b) (needs_actor (resolve_actor b)) h.0 in on p.0 (passed-actor (resolve_actor b) p.1)
      ]

-- 16: a refusal is the question's own, or its list does not fit
module _ {A : Type 0} (places : ℕ) (o : Outcome (List A)) (Result : List A → Type 0) (Row : Refusal → Type 0) where
  pub fit-row : ((r : Refusal) → o ≡ refused r → Row r) → ((l : List A) → o ≡ given l → Result l) → ((k : ℕ) → ShortRow places o Result k → Row (Short k)) →
      {r : Refusal} → fit places o ≡ refused r → Row r
  unfolding fit
  fit-row own result short {r} = look o refl
    where
      look : (x : Outcome (List A)) → o ≡ x → fit places x ≡ refused r → Row r
      look (refused s) q e = own r (q ∙ e)
      look (given l) q e = cut (leb (length l) places) refl e
        where
          cut : (c : Bool) → leb (length l) places ≡ c → cond c (given l) (refused (Short (length l))) ≡ refused r → Row r
          cut true h e = given-refused (sym e)
          cut false h e =
              subst Row (same-refusal e) (short (length l) record { entries = l; is-given = q; is-result = result l q; needed = refl; short = leb-false (length l) places h })

-- ---- How many entries there are at most

-- No check refuses with 16.
pub check-short : (b : Book) {k : ℕ} → CheckRow b (Short k) → ⊥
unfolding member
check-short b {k} x = (member-says 16 check_rows).1 (check-numbers b (Short k) x)

pub init-short : (b : Book) {k : ℕ} → CheckRow b (Short k) ⊎ InitRow b (Short k) → ⊥
unfolding member
init-short b {k} x = (member-says 16 (11 ∷ check_rows)).1 (init-numbers b (Short k) x)

-- 16 is of a list that does not fit.
pub fit-most : {A : Type 0} {Result : List A → Type 0} (most places : ℕ) (o : Outcome (List A)) → ((l : List A) → o ≡ given l → length l ≤ most) →
    ((k : ℕ) → fit places o ≡ refused (Short k) → ShortRow places o Result k) → Most most (fit places o)
fit-most most places o few short = record {
  entries = λ l e. few l (fit-given places o e);
  needed = λ k e. let x = short k e in omega (arith, x.needed, few x.entries x.is-given);
}

-- On bytes: admission does not refuse with 16 either.
pub bytes-most : {A : Type 0} (most places : ℕ) (question : Book → Outcome (List A)) → ((b : Book) → Fits b → Most most (fit places (question b))) →
    (bs : Source) → Most most (fit places (on_bytes question bs))
unfolding asked fit member
bytes-most {A} most places question few bs = go (admitted bs) refl
  where
    go : (o : Outcome Book) → admitted bs ≡ o → Most most (fit places (asked question o))
    go (given b) e = few b (admitted-fits bs e)
    go (refused r) e = record {
      entries = λ l h. given-refused h;
      needed = λ k h.
          let q = same-refusal {A = List A} h in
          let x = row-numbers bs (λ b s. ⊥) [] (Short k) (λ b (z : ⊥). absurd z) (inl (not-admitted bs (e ∙ ap refused q))) in
          absurd ((member-says 16 (admission_rows ++ [])).1 x);
    }
