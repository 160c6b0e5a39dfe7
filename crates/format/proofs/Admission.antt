-- Laws of admission. Whatever it comes to refuse, callers use these. Assumes nothing.
--     admitted-says, admitted-laid, ..
--                                      what is admitted is laid out, within the limits, fits, and has no repeated label
--     admitted-book                    what is said of an admitted book, in these terms
--     not-admitted, admission-refuses  a refusal lies in its row, and a row is refused
--     judged-says, judged-refuses, ..  what is said of a check of every book, on bytes
--     asked-is, asked-refuses          a question on bytes is that on the book, and refuses just what that does
--     asked-in-row, asked-row          what a question on bytes refuses, and what in so many places
--     row-numbers                      the numbers of the rows that there are
use mathlib.Core.Path.{◌≡◌, refl, sym, ap, subst, ◌∙◌}
use mathlib.Core.Logic.{◌↔◌, inl, inr, ⊎_elim}
use mathlib.Core.Bool.{Bool, true, false, cond}
use mathlib.Core.List.Memᴰ
use mathlib.Core.List.{List, ◌++◌, Memᴰ}
use Prim.Native.Nat.{ℕ}
use Rattle.refusals.specs.declared.Refusal.{Refusal}
use Rattle.refusals.specs.declared.Refusal.TheVariants.{OverLimit}
use Rattle.refusals.specs.Refusal.{number_of}
use Rattle.std.specs.Prelude.{Ok, Err}
use Rattle.refusals.specs.Verdict.{Verdict, passes}
use Rattle.refusals.specs.Outcome.{Outcome, refused, given, after, asked, judged, fit}
use Rattle.refusals.proofs.Verdicts.{refused-passed}
use Rattle.format.specs.Book.{Book, trees}
use Rattle.format.specs.Fits.{Fits}
use Rattle.format.specs.Layout.{Layout, broken, whole, layout}
use Rattle.format.specs.Within.{clamped, size_of, Within, within}
use Rattle.format.specs.Labels.{Labels}
use Rattle.format.specs.Repeats.{labels_verdict}
use Rattle.format.specs.Admission.{Source, admitted_by, admitted, on_bytes, LaidIn, AdmissionRow, is_broken, is_over, is_repeated, admission_rows, BookIn, InRow}
use Rattle.format.proofs.Logic.{is-true, of-true, clash}
use Rattle.format.proofs.Theorems.{found}
use Rattle.format.proofs.Within.{within-says, over-says, clamped-says, within-clamped}
use Rattle.format.proofs.Repeats.{labels-say, labels-refuse, first-refused}

module _ (bs : Source) where
  -- a layout that is admitted is that of the book, which is within what the limits count as, and whose labels pass
  by-layout : {b : Book} (l : Layout) → admitted_by bs.limits l ≡ given b →
      (l ≡ whole b) × Within (size_of b) (clamped bs.limits) × (labels_verdict b ≡ passes)
  unfolding admitted_by after
  by-layout {b} broken e = clash cc
  by-layout {b} (whole c) e = go (within (size_of c) (clamped bs.limits)) refl (labels_verdict c) refl e
    where
      go : (t : Bool) → within (size_of c) (clamped bs.limits) ≡ t → (v : Verdict) → labels_verdict c ≡ v → cond t (after v (given c)) (refused OverLimit) ≡ given b →
          (whole c ≡ whole b) × Within (size_of b) (clamped bs.limits) × (labels_verdict b ≡ passes)
      go true w (Ok tt) v e =
          let same : c ≡ b = cc in
          subst (λ (d : Book). (whole c ≡ whole d) × Within (size_of d) (clamped bs.limits) × (labels_verdict d ≡ passes)) same
          (refl, (within-says (size_of c) (clamped bs.limits)).0 (of-true (within (size_of c) (clamped bs.limits)) w), v)
      go true w (Err r) v e = clash cc
      go false w x v e = clash cc

  pub admitted-laid : {b : Book} → admitted bs ≡ given b → layout bs.bytes ≡ whole b
  unfolding admitted
  admitted-laid e = (by-layout (layout bs.bytes) e).0

  pub admitted-fits : {b : Book} → admitted bs ≡ given b → Fits b
  admitted-fits {b} e = ((found bs.bytes b).0 (admitted-laid e)).0

  -- Admitted is what is laid out, within the limits and without a repeated label.
  pub admitted-says : (b : Book) → (admitted bs ≡ given b) ↔ ((layout bs.bytes ≡ whole b) × Within (size_of b) bs.limits × Labels b.names (trees b))
  unfolding admitted admitted_by after
  admitted-says b = (
    λ e.
        let p = by-layout (layout bs.bytes) e in
        (p.0, (clamped-says b (admitted-fits e) bs.limits).0 p.1, (labels-say b).0 p.2),
    λ p.
        let w = (clamped-says b ((found bs.bytes b).0 p.0).0 bs.limits).1 p.1 in
        rw (p.0, is-true (within (size_of b) (clamped bs.limits)) ((within-says (size_of b) (clamped bs.limits)).1 w), (labels-say b).1 p.2),
  )

  pub admitted-labels : {b : Book} → admitted bs ≡ given b → Labels b.names (trees b)
  admitted-labels {b} e = ((admitted-says b).0 e).2

  -- A whole book is judged by its limits as they are given, and then by its labels.
  pub admitted-whole : (b : Book) → layout bs.bytes ≡ whole b → admitted bs ≡ cond (within (size_of b) bs.limits) (after (labels_verdict b) (given b)) (refused OverLimit)
  unfolding admitted admitted_by
  admitted-whole b w = rw (w, within-clamped b ((found bs.bytes b).0 w).0 bs.limits)

  -- what is said of a book that is admitted is said of one that is laid out, within the limits, and whose labels differ
  pub admitted-book : (P : Book → Type 0) → BookIn bs P ↔ LaidIn bs (λ b. Labels b.names (trees b) × P b)
  admitted-book P = (
    λ x. let p = (admitted-says x.book).0 x.laid_out in record { book = x.book; laid_out = p.0; within = p.1; holds = (p.2, x.holds) },
    λ x. record { book = x.book; laid_out = (admitted-says x.book).1 (x.laid_out, x.within, x.holds.0); holds = x.holds.1 },
  )

  pub not-admitted : {r : Refusal} → admitted bs ≡ refused r → AdmissionRow bs r
  unfolding admitted admitted_by after
  not-admitted {r} = go (layout bs.bytes) refl
    where
      is : {q : Refusal} → ◌≡◌ {A = Outcome Book} (refused q) (refused r) → AdmissionRow bs q → AdmissionRow bs r
      is {q} e x = let same : q ≡ r = cc in subst (AdmissionRow bs) same x

      look : (b : Book) → layout bs.bytes ≡ whole b → (t : Bool) → within (size_of b) (clamped bs.limits) ≡ t → (v : Verdict) → labels_verdict b ≡ v →
          cond t (after v (given b)) (refused OverLimit) ≡ refused r → AdmissionRow bs r
      look b w true t (Ok tt) v e = clash cc
      look b w true t (Err q) v e =
          let (n, name, first) = labels-refuse b v in
          let h = (within-says (size_of b) (clamped bs.limits)).0 (of-true (within (size_of b) (clamped bs.limits)) t) in
          let h' = (clamped-says b ((found bs.bytes b).0 w).0 bs.limits).0 h in
          is e (subst (AdmissionRow bs) (sym name) (is_repeated record { book = b; laid_out = w; within = h'; holds = first }))
      look b w false t v s e = is e (is_over (b, w, (over-says (size_of b) (clamped bs.limits)).0 t))

      go : (l : Layout) → layout bs.bytes ≡ l → admitted_by bs.limits l ≡ refused r → AdmissionRow bs r
      go broken w e = is e (is_broken w)
      go (whole b) w e = look b w (within (size_of b) (clamped bs.limits)) refl (labels_verdict b) refl e

  pub admission-refuses : {r : Refusal} → AdmissionRow bs r → admitted bs ≡ refused r
  unfolding admitted admitted_by after
  admission-refuses (is_broken w) = rw w
  admission-refuses (is_over x) = let (b, w, o) = x in rw (w, (over-says (size_of b) (clamped bs.limits)).1 o)
  admission-refuses (is_repeated x) =
      let b = x.book in
      let h = (clamped-says b ((found bs.bytes b).0 x.laid_out).0 bs.limits).1 x.within in
      rw (x.laid_out, is-true (within (size_of b) (clamped bs.limits)) ((within-says (size_of b) (clamped bs.limits)).1 h), first-refused b x.holds)

  -- ---- A check
  module _ (f : Book → Verdict) (P : Book → Type 0) where
    pub judged-says : ((b : Book) → Fits b → (f b ≡ passes) ↔ P b) → (judged f (admitted bs) ≡ passes) ↔ BookIn bs P
    unfolding judged
    judged-says says = (go (admitted bs) refl, λ x. rw x.laid_out ((says x.book (admitted-fits x.laid_out)).1 x.holds))
      where
        go : (o : Outcome Book) → admitted bs ≡ o → judged f o ≡ passes → BookIn bs P
        go (refused r) w e = refused-passed e
        go (given b) w e = record { book = b; laid_out = w; holds = (says b (admitted-fits w)).0 e }

    -- in terms of what is laid out, where Q is P with labels that differ
    pub judged-laid : ((b : Book) → Fits b → (f b ≡ passes) ↔ P b) → (Q : Book → Type 0) → ((b : Book) → (Labels b.names (trees b) × P b) ↔ Q b) →
        (judged f (admitted bs) ≡ passes) ↔ LaidIn bs Q
    judged-laid says Q same =
        let j = judged-says says in
        let a = admitted-book P in (
          λ e. let x = a.0 (j.0 e) in record { book = x.book; laid_out = x.laid_out; within = x.within; holds = (same x.book).0 x.holds },
          λ x. j.1 (a.1 (record { book = x.book; laid_out = x.laid_out; within = x.within; holds = (same x.book).1 x.holds })),
        )

  module _ (f : Book → Verdict) (Row : Book → Refusal → Type 0) {r : Refusal} where
    pub judged-row : ((b : Book) → Fits b → f b ≡ Err r → Row b r) → judged f (admitted bs) ≡ Err r → InRow bs Row r
    unfolding judged
    judged-row row = go (admitted bs) refl
      where
        go : (o : Outcome Book) → admitted bs ≡ o → judged f o ≡ Err r → InRow bs Row r
        go (refused q) w e = inl (not-admitted (w ∙ ap refused cc))
        go (given b) w e = inr record { book = b; laid_out = w; holds = row b (admitted-fits w) e }

    -- what lies in a row does not pass
    pub row-judged : ((b : Book) → Fits b → Row b r → f b ≡ passes → ⊥) → InRow bs Row r → judged f (admitted bs) ≡ passes → ⊥
    unfolding judged
    row-judged row (inl x) e = refused-passed (rw (admission-refuses x) at e)
    row-judged row (inr x) e = row x.book (admitted-fits x.laid_out) x.holds (rw x.laid_out at e)

    pub judged-refuses : ((b : Book) → Fits b → (f b ≡ Err r) ↔ Row b r) → (judged f (admitted bs) ≡ Err r) ↔ InRow bs Row r
    unfolding judged
    judged-refuses says = (
      judged-row (λ b fits. (says b fits).0),
      ⊎_elim (λ x. rw (admission-refuses x)) (λ x. rw x.laid_out ((says x.book (admitted-fits x.laid_out)).1 x.holds)),
    )

  -- ---- A question
  pub asked-is : {A : Type 0} (question : Book → Outcome A) {b : Book} → admitted bs ≡ given b → on_bytes question bs ≡ question b
  unfolding asked
  asked-is question e = rw e

  pub asked-in-row : {A : Type 0} (question : Book → Outcome A) (Row : Book → Refusal → Type 0) {r : Refusal} →
      ((b : Book) → Fits b → question b ≡ refused r → Row b r) → on_bytes question bs ≡ refused r → InRow bs Row r
  unfolding asked
  asked-in-row question Row {r} row = go (admitted bs) refl
    where
      go : (o : Outcome Book) → admitted bs ≡ o → asked question o ≡ refused r → InRow bs Row r
      go (refused q) w e = inl (not-admitted (w ∙ ap refused cc))
      go (given b) w e = inr record { book = b; laid_out = w; holds = row b (admitted-fits w) e }

  pub asked-refuses : {A : Type 0} (question : Book → Outcome A) (Row : Book → Refusal → Type 0) {r : Refusal} →
      ((b : Book) → Fits b → (question b ≡ refused r) ↔ Row b r) → (on_bytes question bs ≡ refused r) ↔ InRow bs Row r
  unfolding asked
  asked-refuses question Row {r} says = (
    asked-in-row question Row (λ b fits. (says b fits).0),
    ⊎_elim (λ x. rw (admission-refuses x)) (λ x. rw x.laid_out ((says x.book (admitted-fits x.laid_out)).1 x.holds)),
  )

  pub asked-row : {A : Type 0} (places : ℕ) (question : Book → Outcome (List A)) (Row : Book → Refusal → Type 0) {r : Refusal} →
      ((b : Book) → Fits b → fit places (question b) ≡ refused r → Row b r) → fit places (on_bytes question bs) ≡ refused r → InRow bs Row r
  unfolding asked fit
  asked-row places question Row {r} row = go (admitted bs) refl
    where
      go : (o : Outcome Book) → admitted bs ≡ o → fit places (asked question o) ≡ refused r → InRow bs Row r
      go (refused q) w e = inl (not-admitted (w ∙ ap refused cc))
      go (given b) w e = inr record { book = b; laid_out = w; holds = row b (admitted-fits w) e }

  admission-numbers : {r : Refusal} → AdmissionRow bs r → Memᴰ (number_of r) admission_rows
  admission-numbers (is_broken x) = Memᴰ.head refl
  admission-numbers (is_repeated x) = Memᴰ.tail (Memᴰ.head refl)
  admission-numbers (is_over x) = Memᴰ.tail (Memᴰ.tail (Memᴰ.head refl))

  pub row-numbers : (Row : Book → Refusal → Type 0) (rows : List ℕ) (r : Refusal) → ((b : Book) → Row b r → Memᴰ (number_of r) rows) → InRow bs Row r →
      Memᴰ (number_of r) (admission_rows ++ rows)
  row-numbers Row rows r numbers = ⊎_elim (λ x. Memᴰ.append_left rows (admission-numbers x)) (λ x. Memᴰ.append_right admission_rows (numbers x.book x.holds))
