-- What a caller has in hand after a call that hands an outcome over. Assumes nothing.
--     gives, fit-unbound               a list that is long enough; a name that is unbound, in lists of any length
--     handed-delivers, uses-delivers   what is given is delivered where it fits
--     counts-delivered, counts-kept    the same of numbers that are told with their sum
--     handed-unbound, handed-kept,
--     handed-gives                     what an answer tells of the outcome, and of the lent list
use mathlib.Core.Path.{◌≡◌, refl, sym, ap, ◌∙◌}
use mathlib.Core.Logic.{◌↔◌}
use mathlib.Core.Bool.{Bool, true, false, cond}
use mathlib.Core.List.{List, [], ◌∷◌, ◌++◌}
use Prim.Native.Nat.{ℕ, ◌*◌, ◌/◌, ◌≤◌, ◌<◌}
use native.Mathlib.Omega.{arith}
use borrow.Author.Tests.{le-leb, lt-leb, leb-true}
use lib.Dec.{leb}
use lib.ListN.{length, drop, length-append, length-drop}
use lib.Seq.{take-append_seam, drop-append_seam}
use Rattle.refusals.specs.declared.Refusal.{Refusal}
use Rattle.refusals.specs.declared.Refusal.TheVariants.{Unbound, Short}
use Rattle.std.specs.Prelude.{Ok, Err}
use Rattle.refusals.specs.Lists.{flat}
use Rattle.refusals.specs.Outcome.{Outcome, refused, given, fit}
use Rattle.refusals.specs.Handed.{Answer, answer_of, left_in, HandedAs, Use, numbers, uses_left, UsesAs, UseCountsAnswer, use_counts_answer, UseCountsAs}
use Rattle.refusals.proofs.Outcomes.{given-refused, fit-said, fit-given}
use Rattle.listing.specs.Demand3.{Gives, Delivered, Kept, Delivers}
use Rattle.listing.specs.UseCounts.{CountsDelivered, CountsKept}

-- ---- An outcome in so many places
module _ {A : Type 0} (o : Outcome (List A)) where
  pub gives : {l : List A} → o ≡ given l → Gives o l
  unfolding fit
  gives {l} e = (e, λ places h. rw (e, le-leb (length l) places h))

  lacks : {l : List A} → o ≡ given l → (places : ℕ) → places < length l → fit places o ≡ refused (Short (length l))
  unfolding fit
  lacks {l} e places h = rw (e, lt-leb (length l) places h)

  fit-room : (places : ℕ) {l : List A} → fit places o ≡ given l → length l ≤ places
  unfolding fit
  fit-room places {l} e = go (leb (length l) places) refl (sym (ap (fit places) (fit-given places o e)) ∙ e)
    where
      go : (c : Bool) → leb (length l) places ≡ c → cond c (given l) (refused (Short (length l))) ≡ given l → length l ≤ places
      go true h q = leb-true (length l) places h
      go false h q = given-refused q

pub fit-unbound : {A : Type 0} (places : ℕ) (o : Outcome (List A)) (n : ℕ) → (fit places o ≡ refused (Unbound n)) ↔ (o ≡ refused (Unbound n))
unfolding fit
fit-unbound places o n = (fit-said places o (λ k e. let z : ◌≡◌ {A = ℕ} 0 1 = cc in omega arith), λ e. rw e)

-- ---- What an answer says of the outcome
module _ {A : Type 0} where
  answer-refused : (x : Outcome (List A)) {why : Refusal} → answer_of x ≡ Err why → x ≡ refused why
  unfolding answer_of
  answer-refused (refused r) e = ap refused cc
  answer-refused (given l) e = let z : ◌≡◌ {A = ℕ} 0 1 = cc in absurd (omega arith)

  answer-given : (x : Outcome (List A)) {k : ℕ} → answer_of x ≡ Ok k → (l : List A) × (x ≡ given l) × (length l ≡ k)
  unfolding answer_of
  answer-given (refused r) e = let z : ◌≡◌ {A = ℕ} 0 1 = cc in absurd (omega arith)
  answer-given (given l) e = (l, refl, cc)

-- ---- The lent list
delivered : {count : ℕ} {entries old new : List ℕ} {r : Answer} → r ≡ Ok count → new ≡ entries ++ drop (length entries) old → length entries ≤ length old →
    Delivered count entries old new r
delivered {entries = entries} {old = old} a e room = record {
  answer = a;
  front = rw e (take-append_seam entries _);
  rest = rw e (drop-append_seam entries _);
  long = rw e (omega (arith, length-append entries (drop (length entries) old), length-drop (length entries) old));
}

pub handed-delivers : (o : Outcome (List ℕ)) {l : List ℕ} → o ≡ given l → Delivers (HandedAs o) (length l) l
unfolding answer_of left_in
handed-delivers o {l} is = record { enough = enough; short = short }
  where
    enough : {old new : List ℕ} {r : Answer} → HandedAs o old new r → length l ≤ length old → Delivered (length l) l old new r
    enough {old} h room =
        let e = (gives o is).1 (length old) room in
        delivered (h.answer ∙ ap answer_of e) (h.left ∙ ap (λ (x : Outcome (List ℕ)). left_in x old) e) room

    short : {old new : List ℕ} {r : Answer} → HandedAs o old new r → length old < length l → Kept (Short (length l)) old new r
    short {old} h few =
        let e = lacks o is (length old) few in
        record { answer = h.answer ∙ ap answer_of e; same = h.left ∙ ap (λ (x : Outcome (List ℕ)). left_in x old) e }

pub flat-length : (es : List Use) → length (flat numbers es) ≡ 3 * length es
unfolding flat numbers
flat-length [] = refl
flat-length (e ∷ es) = omega (arith, flat-length es)

pub uses-delivers : (o : Outcome (List Use)) {es : List Use} → o ≡ given es → Delivers (UsesAs o) (length es) (flat numbers es)
unfolding answer_of uses_left
uses-delivers o {es} is = record { enough = enough; short = short }
  where
    enough : {old new : List ℕ} {r : Answer} → UsesAs o old new r → length (flat numbers es) ≤ length old → Delivered (length es) (flat numbers es) old new r
    enough {old} h room =
        let e = (gives o is).1 (length old / 3) (omega (arith, flat-length es)) in
        delivered (h.answer ∙ ap answer_of e)
        (h.left ∙ ap (λ (x : Outcome (List Use)). uses_left x old) e ∙ ap (λ (k : ℕ). flat numbers es ++ drop k old) (sym (flat-length es))) room

    short : {old new : List ℕ} {r : Answer} → UsesAs o old new r → length old < length (flat numbers es) → Kept (Short (length es)) old new r
    short {old} h few =
        let e = lacks o is (length old / 3) (omega (arith, flat-length es)) in
        record { answer = h.answer ∙ ap answer_of e; same = h.left ∙ ap (λ (x : Outcome (List Use)). uses_left x old) e }

-- The lent list is handed over as with any list.
module _ (o : Outcome (List ℕ)) {l : List ℕ} (is : o ≡ given l) {old new : List ℕ} {r : UseCountsAnswer} (h : UseCountsAs o old new r) where
  as-any : HandedAs o old new (answer_of (fit (length old) o))
  as-any = record { answer = refl; left = h.left }

  pub counts-delivered : length l ≤ length old → CountsDelivered l old new r
  unfolding use_counts_answer
  counts-delivered room =
      let d = (handed-delivers o is).enough as-any room in
      record { answer = h.answer ∙ ap use_counts_answer ((gives o is).1 (length old) room); front = d.front; rest = d.rest; long = d.long }

  pub counts-kept : length old < length l → CountsKept (length l) old new r
  unfolding use_counts_answer
  counts-kept few =
      record { answer = h.answer ∙ ap use_counts_answer (lacks o is (length old) few); same = ((handed-delivers o is).short as-any few).same }

-- ---- What an answer tells of an outcome that was handed over
module _ {o : Outcome (List ℕ)} {old new : List ℕ} {r : Answer} (h : HandedAs o old new r) where
  pub handed-unbound : (n : ℕ) → (r ≡ Err (Unbound n)) ↔ (o ≡ refused (Unbound n))
  unfolding answer_of
  handed-unbound n =
      let f = fit-unbound (length old) o n in
      (λ e. f.0 (answer-refused (fit (length old) o) (sym h.answer ∙ e)), λ e. h.answer ∙ ap answer_of (f.1 e))

  pub handed-kept : {why : Refusal} → r ≡ Err why → Kept why old new r
  unfolding left_in
  handed-kept e =
      record { answer = e; same = h.left ∙ ap (λ (x : Outcome (List ℕ)). left_in x old) (answer-refused (fit (length old) o) (sym h.answer ∙ e)) }

  pub handed-gives : {k : ℕ} → r ≡ Ok k → (l : List ℕ) × (o ≡ given l) × (length l ≡ k) × (length l ≤ length old)
  handed-gives e =
      let x = answer-given (fit (length old) o) (sym h.answer ∙ e) in
      (x.0, fit-given (length old) o x.1, x.2, fit-room o (length old) x.1)
