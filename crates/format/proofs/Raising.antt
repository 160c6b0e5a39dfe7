-- What limits change, and what they do not (document 02, request 14): said once of admission, and of all that goes by it. Assumes nothing.
--     within-as-before, full-as-before    of a book within its limits, and under full ones, admission is what it is without any
--     within-answer                       and so is all that follows it
--     full-admits                         under full limits what is laid out is admitted, unless a label is repeated
--     clamped-same, clamped-answer        a limit above its figure is the figure
--     raised                              raising limits turns no outcome into another, but 24 into what the roomier model says
--     raised-answer                       and so with whatever follows admission:
--     raised-check, raised-question       a check, a question,
--     raised-handed, raised-uses          and what is handed over, with the lent list
use mathlib.Core.Path.{◌≡◌, refl, sym, ap, ◌∙◌}
use mathlib.Core.Logic.{◌⊎◌, inl, inr, ⊎_elim}
use mathlib.Core.List.{List}
use Prim.Native.Nat.{ℕ, ◌/◌}
use native.Mathlib.Omega.{arith}
use lib.ListN.{length}
use Rattle.refusals.specs.declared.Refusal.{Refusal}
use Rattle.refusals.specs.declared.Refusal.TheVariants.{OverLimit}
use Rattle.std.specs.Prelude.{Err}
use Rattle.refusals.specs.Verdict.{Verdict}
use Rattle.refusals.specs.Outcome.{Outcome, refused, given, asked, judged, fit}
use Rattle.refusals.specs.Handed.{Answer, Use, answer_of, left_in, HandedAs, uses_left, UsesAs}
use Rattle.format.specs.declared.Limits.{Limits}
use Rattle.format.specs.Book.{Book, trees}
use Rattle.format.specs.Layout.{Layout, broken, whole, layout}
use Rattle.format.specs.Within.{full, clamped, size_of, Within, within}
use Rattle.format.specs.Labels.{Labels}
use Rattle.format.specs.Admission.{◌under◌, admitted_by, admitted, on_bytes, AdmissionRow, is_broken, is_over, is_repeated, unlimited, Raised}
use Rattle.format.proofs.Theorems.{found}
use Rattle.format.proofs.Logic.{is-true}
use Rattle.format.proofs.Within.{within-says, within-within, clamped-twice, fits-full}
use Rattle.format.proofs.Admission.{admitted-says, admitted-whole, not-admitted, admission-refuses}

full-full : Within full full
full-full = record { names = omega arith; nodes = omega arith; definitions = omega arith }

module _ (bs : List ℕ) where
  pub within-as-before : (l : Limits) {b : Book} → layout bs ≡ whole b → Within (size_of b) l → admitted (bs under l) ≡ unlimited (layout bs)
  within-as-before l {b} w h = rw (admitted-whole (bs under l) b w, is-true (within (size_of b) l) ((within-says (size_of b) l).1 h), w)

  pub full-as-before : (l : Limits) → Within full l → admitted (bs under l) ≡ unlimited (layout bs)
  unfolding admitted admitted_by
  full-as-before l h = go (layout bs) refl
    where
      go : (x : Layout) → layout bs ≡ x → admitted (bs under l) ≡ unlimited (layout bs)
      go broken w = rw w
      go (whole b) w = within-as-before l w (within-within (fits-full b ((found bs b).0 w).0) h)

  -- and so with whatever follows admission: a check, a question, what is handed over
  pub within-answer : {A : Type 0} (answer : Outcome Book → A) (l : Limits) {b : Book} → layout bs ≡ whole b → Within (size_of b) l →
      answer (admitted (bs under l)) ≡ answer (admitted (bs under full))
  within-answer answer l w h = ap answer (within-as-before l w h ∙ sym (full-as-before full full-full))

  pub full-admits : {b : Book} → layout bs ≡ whole b → Labels b.names (trees b) → admitted (bs under full) ≡ given b
  full-admits {b} w d = (admitted-says (bs under full) b).1 (w, fits-full b ((found bs b).0 w).0, d)

  pub clamped-same : (l : Limits) → admitted (bs under clamped l) ≡ admitted (bs under l)
  unfolding admitted admitted_by
  clamped-same l = go (layout bs)
    where
      go : (x : Layout) → admitted_by (clamped l) x ≡ admitted_by l x
      go broken = refl
      go (whole b) = rw (clamped-twice l)

  pub clamped-answer : {A : Type 0} (answer : Outcome Book → A) (l : Limits) → answer (admitted (bs under clamped l)) ≡ answer (admitted (bs under l))
  clamped-answer answer l = ap answer (clamped-same l)

  module _ {l m : Limits} (h : Within l m) where
    pub raised : Raised (refused OverLimit) (admitted (bs under l)) (admitted (bs under m))
    raised = go (admitted (bs under l)) refl
      where
        row : {r : Refusal} → admitted (bs under l) ≡ refused r → AdmissionRow (bs under l) r → Raised (refused OverLimit) (admitted (bs under l)) (admitted (bs under m))
        row e (is_broken x) = inr (e ∙ sym (admission-refuses (bs under m) (is_broken x)))
        row e (is_over x) = inl e
        row e (is_repeated x) =
            inr (e ∙ sym (admission-refuses (bs under m) (is_repeated record { book = x.book; laid_out = x.laid_out; within = within-within x.within h; holds = x.holds })))

        go : (o : Outcome Book) → admitted (bs under l) ≡ o → Raised (refused OverLimit) (admitted (bs under l)) (admitted (bs under m))
        go (given b) e =
            let p = (admitted-says (bs under l) b).0 e in
            inr (e ∙ sym ((admitted-says (bs under m) b).1 (p.0, within-within p.1 h, p.2)))
        go (refused r) e = row e (not-admitted (bs under l) e)

    pub raised-answer : {A : Type 0} (answer : Outcome Book → A) → Raised (answer (refused OverLimit)) (answer (admitted (bs under l))) (answer (admitted (bs under m)))
    raised-answer answer = ⊎_elim (λ e. inl (ap answer e)) (λ e. inr (ap answer e)) raised

    pub raised-check : (f : Book → Verdict) → Raised (Err OverLimit) (judged f (admitted (bs under l))) (judged f (admitted (bs under m)))
    unfolding judged
    raised-check f = raised-answer (judged f)

    pub raised-question : {A : Type 0} (question : Book → Outcome A) → Raised (refused OverLimit) (on_bytes question (bs under l)) (on_bytes question (bs under m))
    unfolding asked
    raised-question question = raised-answer (asked question)

    -- Two calls with the same lent list.
    module _ {new new' : List ℕ} {r r' : Answer} where
      called : (answer : Outcome Book → Answer) (left : Outcome Book → List ℕ) →
          r ≡ answer (admitted (bs under l)) → new ≡ left (admitted (bs under l)) → r' ≡ answer (admitted (bs under m)) → new' ≡ left (admitted (bs under m)) →
          ((r ≡ answer (refused OverLimit)) × (new ≡ left (refused OverLimit))) ⊎ ((r ≡ r') × (new ≡ new'))
      called answer left a b c d =
          ⊎_elim (λ e. inl (a ∙ ap answer e, b ∙ ap left e)) (λ e. inr (a ∙ ap answer e ∙ sym c, b ∙ ap left e ∙ sym d)) raised

      pub raised-handed : (question : Book → Outcome (List ℕ)) {old : List ℕ} → HandedAs (on_bytes question (bs under l)) old new r → HandedAs (on_bytes question (bs under m)) old new' r' →
          ((r ≡ Err OverLimit) × (new ≡ old)) ⊎ ((r ≡ r') × (new ≡ new'))
      unfolding asked fit answer_of left_in
      raised-handed question {old} x y =
          called (λ o. answer_of (fit (length old) (asked question o))) (λ o. left_in (fit (length old) (asked question o)) old) x.answer x.left y.answer y.left

      pub raised-uses : (question : Book → Outcome (List Use)) {old : List ℕ} → UsesAs (on_bytes question (bs under l)) old new r → UsesAs (on_bytes question (bs under m)) old new' r' →
          ((r ≡ Err OverLimit) × (new ≡ old)) ⊎ ((r ≡ r') × (new ≡ new'))
      unfolding asked fit answer_of uses_left
      raised-uses question {old} x y =
          called (λ o. answer_of (fit (length old / 3) (asked question o))) (λ o. uses_left (fit (length old / 3) (asked question o)) old) x.answer x.left y.answer y.left
