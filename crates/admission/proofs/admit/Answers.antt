-- `admit` meets its contract: a broken book, one over a limit, one with a repeated label, and one that is admitted. Assumes nothing.
use Rattle.std.proofs.Common.{arith, ◌≡◌, ℕ, List, Option, None, Result, Ok, Err, sym, ap, ◌∙◌}
use Rattle.std.specs.Result.{result_ok}
use Rattle.refusals.proofs.Handing.{handed-on}
use Rattle.refusals.specs.declared.Refusal.{Refusal}
use Rattle.refusals.specs.declared.Refusal.TheVariants.{Broken}
use Rattle.format.specs.declared.Limits.{Limits}
use Rattle.format.specs.Admission.{◌under◌, admitted, is_broken}
use Rattle.format.proofs.Admission.{admission-refuses}
use Rattle.book.specs.declared.kinds.Contents.{Contents}
use Rattle.book.specs.Reading.{reading, Admitted}
use Rattle.book.proofs.Named.{broken-of, book-of}
use Rattle.admission.specs.Admitting.{admission_of}
use Rattle.admission.proofs.Whole.{few, over, labelled}
use Rattle.admission.proofs.admit.Goals as goal

broken-refused : (bs : List ℕ) (l : Limits) → None ≡ reading bs → Err Broken ≡ admission_of (admitted (bs under l))
unfolding admission_of
broken-refused bs l e = ap admission_of (sym (admission-refuses (bs under l) (is_broken (broken-of bs e))))

-- the table of contents that `?` goes on with
laid : {bs : List ℕ} {o : Option Contents} {r : Result Contents Refusal} {c : Contents} → o ≡ reading bs → o ≡ result_ok r → r ≡ Ok c → Admitted bs c
laid is part was = book-of _ _ (sym (part ∙ ap result_ok was) ∙ is)

pub returns-in_err-contents-clause-answer : goal.returns-in_err-contents-clause-answer
returns-in_err-contents-clause-answer c =
    let none = c.ok_or.ensures.ok_part ∙ ap result_ok c.in_err-contents.was in
    rw (handed-on c.from_residual.result c.from_residual.ensures, ← c.in_err-contents.was, c.ok_or.ensures.value, none)
    (broken-refused _ _ (sym none ∙ c.layout.ensures))

pub overflow_cast-size : goal.overflow_cast-size
overflow_cast-size c = let f = few (laid c.layout.ensures c.ok_or.ensures.ok_part c.in_ok-contents.was) in omega (arith, f.names)

pub overflow_cast-size-2 : goal.overflow_cast-size-2
overflow_cast-size-2 c = let f = few (laid c.layout.ensures c.ok_or.ensures.ok_part c.in_ok-contents.was) in omega (arith, f.nodes)

pub overflow_cast-size-3 : goal.overflow_cast-size-3
overflow_cast-size-3 c = let f = few (laid c.layout.ensures c.ok_or.ensures.ok_part c.in_ok-contents.was) in omega (arith, f.definitions)

pub returns-then-not-within-clause-answer : goal.returns-then-not-within-clause-answer
returns-then-not-within-clause-answer c = over (laid c.layout.ensures c.ok_or.ensures.ok_part c.in_ok-contents.was) _ (sym (c.if-not-within.true) ∙ c.within.ensures)

pub new-admitted-requires : goal.new-admitted-requires
new-admitted-requires c = laid c.layout.ensures c.ok_or.ensures.ok_part c.in_ok-contents.was

pub returns-in_err-check_labels-clause-answer : goal.returns-in_err-check_labels-clause-answer
returns-in_err-check_labels-clause-answer c =
    rw (handed-on c.from_residual-in_err-check_labels.result c.from_residual-in_err-check_labels.ensures)
    (labelled (laid c.layout.ensures c.ok_or.ensures.ok_part c.in_ok-contents.was) _ (sym (c.if-not-within.false) ∙ c.within.ensures) (rw (c.in_err-check_labels.was, c.new-admitted.ensures.bytes) at c.check_labels.ensures))

pub returns-clause-answer : goal.returns-clause-answer
returns-clause-answer c =
    rw c.new-admitted.ensures.contents
    (labelled (laid c.layout.ensures c.ok_or.ensures.ok_part c.in_ok-contents.was) _ (sym (c.if-not-within.false) ∙ c.within.ensures) (rw (c.in_ok-check_labels.was, c.new-admitted.ensures.bytes) at c.check_labels.ensures))
