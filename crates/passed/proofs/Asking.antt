-- From the bytes of a book to what a question answers: what holds for every question. Assumes nothing.
--     pass-refused, ..               what `pass` finds
--     lacks-actor, has-actor         17
--     stops, answered                a question on bytes: refused before it, or that on the book
--     handed-refused, handed-as, ..  what is handed over then
--     init-stops, init-goes          the init check
use mathlib.Core.Path.{◌≡◌, refl, sym, ap, subst, ◌∙◌}
use mathlib.Core.List.{List}
use Prim.Native.Nat.{ℕ}
use Rattle.refusals.specs.declared.Refusal.{Refusal}
use Rattle.refusals.specs.declared.Refusal.TheVariants.{NoActor}
use Rattle.std.specs.Prelude.{Result, Ok, Err, IfOk}
use Rattle.refusals.specs.declared.Count.{Count}
use Rattle.refusals.specs.declared.Crossed.{Crossed}
use Rattle.refusals.specs.Verdict.{Verdict, and_then}
use Rattle.refusals.specs.Outcome.{Outcome, refused, given, after, asked, judged, fit}
use Rattle.refusals.proofs.Handed.{hands-refused}
use Rattle.refusals.specs.Handed.{HandsOver, use_counts_answer, UseCountsAs, Answer, Use, answer_of, HandedAs, uses_left, UsesAs, alias_answer, count_answer}
use Rattle.format.specs.Forest.{end}
use Rattle.format.specs.Book.{Book}
use Rattle.format.specs.Layout.{Layout, broken, whole, layout}
use Rattle.format.specs.Admission.{Source, admitted, on_bytes}
use Rattle.format.proofs.Admission.{asked-is}
use Rattle.book.specs.declared.kinds.Contents.{Contents}
use Rattle.book.specs.Reading.{Admitted}
use Rattle.admission.specs.Admitting.{admission_of}
use Rattle.admission.proofs.Admitting.{admission-refuses, admission-gives}
use Rattle.refusals.specs.Verdict.{verdict_of}
use Rattle.judgement.specs.Resolve.{resolve_actor}
use Rattle.judgement.specs.Check.{check, check_bytes, init_check, init_check_bytes}
use Rattle.typing.specs.declared.prog.Passed.{Passed}
use Rattle.typing.specs.declared.tables.Tables.{Tables}
use Rattle.typing.specs.Passing.{PassedAs, FoundAs, PassedBook}
use Rattle.listing.specs.Room.{AfterCheck, needs_actor}
use Rattle.listing.proofs.Room as rooms
use Rattle.passed.specs.declared.CheckedBook.{CheckedBook}
use Rattle.passed.specs.Stages.{PassAs}

-- ---- What `pass` finds
-- bytes are one book
of_layout : Layout → Book → Book
of_layout broken b = b
of_layout (whole b) c = b

one-book : {bs cs : List ℕ} {c d : Contents} (x : Admitted bs c) (y : Admitted cs d) → bs ≡ cs → x.book ≡ y.book
unfolding of_layout
one-book x y e = ap (λ l. of_layout l x.book) (sym x.laid ∙ ap layout e ∙ y.laid)

module _ (bs : Source) where
  pub pass-refused : {why : Refusal} → Err why ≡ admission_of (admitted bs) → PassAs bs (Err why)
  unfolding check_bytes judged
  pass-refused e = record { verdict = rw (admission-refuses bs e); passed = tt }

  module _ {c : Contents} (e : Ok c ≡ admission_of (admitted bs)) {t : Tables} {r : Result Passed Refusal}
      (found : (a : Admitted bs.bytes c) → FoundAs a t r) where
    x : FoundAs (admission-gives bs e).read t r
    x = found (admission-gives bs e).read

    verdict-is : verdict_of r ≡ check_bytes bs
    unfolding check_bytes judged
    verdict-is = x.found.verdict ∙ sym (ap (judged check) (admission-gives bs e).is)

    pub check-refused : {why : Refusal} → r ≡ Err why → PassAs bs (Err why)
    check-refused is = record { verdict = ap verdict_of (sym is) ∙ verdict-is; passed = tt }

    module _ {p : Passed} (is : r ≡ Ok p) where
      passed : PassedAs (admission-gives bs e).read t.roots t.ends p
      passed = subst (λ (r : Result Passed Refusal). IfOk r (PassedAs (admission-gives bs e).read t.roots t.ends)) is x.found.passed

      pub book-passed : PassedBook bs.bytes c t.roots t.ends p
      book-passed = record { admitted = (admission-gives bs e).read; passed = passed }

      pub pass-goes : (b : CheckedBook) → b.book.bytes.now ≡ bs.bytes → PassAs bs (Ok b)
      pass-goes b here =
          let g = admission-gives bs e in
          record { verdict = ap verdict_of (sym is) ∙ verdict-is; passed = record { bytes = here; is = g.is ∙ ap given (one-book g.read b.passes.admitted (sym here)) } }

-- ---- 17
module _ {bs : List ℕ} {c : Contents} {a : Admitted bs c} {roots ends' : List ℕ} {p : Passed} (x : PassedAs a roots ends' p) {A : Type 0} (o : Outcome A) where
  pub lacks-actor : resolve_actor a.book ≡ end → after (and_then (check a.book) (needs_actor (resolve_actor a.book))) o ≡ refused NoActor
  lacks-actor h = rooms.actor-lacks a.book o x.passed h

  pub has-actor : (resolve_actor a.book ≡ end → ⊥) → after (and_then (check a.book) (needs_actor (resolve_actor a.book))) o ≡ o
  has-actor h = rooms.answered a.book x.passed h o

-- ---- A question on bytes
module _ {A : Type 0} (question : Book → Outcome A) (bs : Source) where
  pub unadmitted : {r : Refusal} → Err r ≡ admission_of (admitted bs) → on_bytes question bs ≡ refused r
  unfolding asked
  unadmitted e = rw (admission-refuses bs e)

  pub stops : AfterCheck question → {r : Refusal} → check_bytes bs ≡ Err r → on_bytes question bs ≡ refused r
  unfolding check_bytes judged asked
  stops first {r} = go (admitted bs)
    where
      go : (o : Outcome Book) → judged check o ≡ Err r → asked question o ≡ refused r
      go (refused q) e = ap refused cc
      go (given b) e = first b r e

  pub answered : {b : Book} → admitted bs ≡ given b → on_bytes question bs ≡ question b
  answered e = asked-is bs question e

-- ---- What is handed over
pub handed-refused : {o : Outcome (List ℕ)} {r : Refusal} (old : List ℕ) → o ≡ refused r → HandedAs o old old (Err r)
unfolding answer_of
handed-refused old e = hands-refused answer_of e refl

pub counts-refused : {o : Outcome (List ℕ)} {r : Refusal} (old : List ℕ) → o ≡ refused r → UseCountsAs o old old (Err r)
unfolding use_counts_answer
counts-refused old e = hands-refused use_counts_answer e refl

pub handed-as : {R : Type 0} {answering : Outcome (List ℕ) → R} {o p : Outcome (List ℕ)} {old new : List ℕ} {r : R} → o ≡ p → HandsOver answering p old new r → HandsOver answering o old new r
handed-as {answering = answering} {old = old} {new = new} {r = r} e x = subst (λ q. HandsOver answering q old new r) (sym e) x

pub uses-refused : {o : Outcome (List Use)} {r : Refusal} (old : List ℕ) → o ≡ refused r → UsesAs o old old (Err r)
unfolding fit answer_of uses_left
uses-refused old e = record { answer = rw e; left = rw e }

pub uses-as : {o p : Outcome (List Use)} {old new : List ℕ} {r : Answer} → o ≡ p → UsesAs p old new r → UsesAs o old new r
uses-as {old = old} {new = new} {r = r} e x = subst (λ q. UsesAs q old new r) (sym e) x

pub alias-refused : {o : Outcome Crossed} {r : Refusal} → o ≡ refused r → Err r ≡ alias_answer o
unfolding alias_answer
alias-refused e = rw e

pub count-refused : {o : Outcome Count} {r : Refusal} → o ≡ refused r → Err r ≡ count_answer o
unfolding count_answer
count-refused e = rw e

-- ---- The init check, which is no question but starts in the same way
pub init-stops : (bs : Source) {why : Refusal} → check_bytes bs ≡ Err why → init_check_bytes bs ≡ Err why
unfolding check_bytes init_check_bytes judged init_check
init-stops bs {why} = go (admitted bs)
  where
    go : (o : Outcome Book) → judged check o ≡ Err why → judged init_check o ≡ Err why
    go (refused q) e = e
    go (given b) e = rw e

pub init-goes : (bs : Source) {b : Book} {v : Verdict} → admitted bs ≡ given b → v ≡ init_check b → v ≡ init_check_bytes bs
unfolding init_check_bytes judged
init-goes bs is e = rw is e
