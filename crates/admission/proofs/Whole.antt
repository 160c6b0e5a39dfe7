-- What admission makes of a whole book, by its table of contents. Assumes nothing.
use mathlib.Core.Path.{◌≡◌, refl, sym, ap, subst, ◌∙◌}
use mathlib.Core.Bool.{true, false, cond}
use mathlib.Core.List.{List}
use Prim.Native.Nat.{ℕ}
use Rattle.refusals.specs.declared.Refusal.TheVariants.{OverLimit}
use Rattle.refusals.specs.Verdict.{Verdict}
use Rattle.refusals.specs.Outcome.{refused, given, after}
use Rattle.format.specs.declared.Limits.{Limits}
use Rattle.format.specs.Book.{Book}
use Rattle.format.specs.Layout.{whole, layout}
use Rattle.format.specs.Within.{full, size_of, Within, within}
use Rattle.format.specs.Repeats.{labels_verdict}
use Rattle.format.specs.Admission.{◌under◌, admitted}
use Rattle.format.proofs.Theorems.{found}
use Rattle.format.proofs.Within.{fits-full}
use Rattle.format.proofs.Admission.{admitted-whole}
use Rattle.book.specs.declared.kinds.Contents.{Contents}
use Rattle.book.specs.Reading as read
use Rattle.book.specs.Reading.{contents_of}
use Rattle.std.specs.Prelude.{Ok, Err}
use Rattle.std.specs.Result.{result_map_both}
use Rattle.admission.specs.Admitting.{admission_of}

-- How much a book has, by its table of contents.
abbrev pub size_in : Contents → Limits
size_in c = record { names = c.names; nodes = c.nodes; definitions = c.definitions }

module _ {bs : List ℕ} {c : Contents} (o : read.Admitted bs c) where
  size-is : size_of o.book ≡ size_in c
  unfolding contents_of
  size-is = ap size_in o.table

  -- it is within the figures
  pub few : Within (size_in c) full
  few = subst (λ (s : Limits). Within s full) size-is (fits-full o.book ((found bs o.book).0 o.laid).0)

  module _ (l : Limits) where
    judged : admitted (bs under l) ≡ cond (within (size_in c) l) (after (labels_verdict o.book) (given o.book)) (refused OverLimit)
    judged = admitted-whole (bs under l) o.book o.laid ∙ ap (λ (s : Limits). cond (within s l) (after (labels_verdict o.book) (given o.book)) (refused OverLimit)) size-is

    pub over : false ≡ within (size_in c) l → Err OverLimit ≡ admission_of (admitted (bs under l))
    unfolding admission_of
    over e = sym (ap admission_of judged ∙ rw (← e))

    module _ (e : true ≡ within (size_in c) l) {v : Verdict} (labels : (b : Book) → layout bs ≡ whole b → v ≡ labels_verdict b) where
      after-labels : admitted (bs under l) ≡ after v (given o.book)
      after-labels = judged ∙ rw (← e, ← labels o.book o.laid)

      pub labelled : result_map_both (λ _. c) (λ why. why) v ≡ admission_of (admitted (bs under l))
      unfolding admission_of after
      labelled = go v ∙ sym (ap admission_of after-labels)
        where
          go : (v : Verdict) → result_map_both (λ _. c) (λ why. why) v ≡ admission_of (after v (given o.book))
          go (Ok tt) = rw o.table
          go (Err why) = refl
