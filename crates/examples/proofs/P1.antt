-- P1 of document 01, as it is read from its bytes, is a book and a draft as demand 3 speaks of. Assumes nothing.
--     p1-answers, p1-listed, p1-marked           the demand's sentences hold of it; its list is pair and tree, and tree is marked
--     p1-in-three, p1-in-one                     what stands in lent lists of three places and of one
--     p1-counts, p1-counts-in-three, p1-total    each has one use, and together they have two, from the other side too
--     p1-methods, p1-unchanging, ..              put changes with tree and with pair, and no method with any other name
--     p1-read, p1-labels, p1-list, p1-marks      its bytes, its labels, and what is answered, by computation
--     p1-draft                                   the sentences hold of it as a draft
--     p1-within, p1-over                         limits that take it, and limits that do not
use mathlib.Core.Path.{◌≡◌, refl, sym, ap, ap₂, subst, ◌∙◌}
use mathlib.Core.List.Memᴰ
use mathlib.Core.List.{List, [], ◌∷◌, ◌++◌, map}
use Prim.Native.Nat.{ℕ, ◌≤◌}
use native.Mathlib.Omega.{arith}
use lib.ListN.{length, take-append-drop}
use Rattle.std.specs.List.{sum}
use Rattle.format.specs.Forest.{end}
use Rattle.format.specs.Book.{trees}
use Rattle.format.specs.Layout.{whole, layout}
use Rattle.format.specs.Labels.{Labels}
use Rattle.format.specs.declared.Limits.{Limits}
use Rattle.format.specs.Within.{full, size_of, Within, Over}
use Rattle.format.specs.Admission.{Source, ◌under◌, admitted, on_bytes}
use Rattle.format.proofs.Within.{over-says}
use Rattle.format.proofs.Admission.{admitted-fits, admitted-says, admitted-whole}
use Rattle.format.proofs.Raising.{full-admits}
use Rattle.format.proofs.Repeats.{labels-say}
use Rattle.refusals.specs.declared.Refusal.TheVariants.{Short, OverLimit}
use Rattle.std.specs.Prelude.{Ok, Err}
use Rattle.refusals.specs.Verdict.{passes}
use Rattle.refusals.specs.Handed.{Answer, HandedAs, UseCountsAnswer, UseCountsAs}
use Rattle.refusals.proofs.Outcomes.{same-given}
use Rattle.judgement.specs.Actor.{main_actor}
use Rattle.judgement.specs.Resolve.{resolve_actor}
use Rattle.judgement.specs.Check.{check}
use Rattle.format.specs.Distinct.{Distinct}
use Rattle.judgement.specs.WellFormed.{defined_name}
use Rattle.judgement.proofs.Decs.{once-says}
use Rattle.refusals.specs.Outcome.{refused, given}
use Rattle.listing.specs.List.{list}
use Rattle.listing.specs.Marks.{marks_over}
use Rattle.listing.specs.DraftList.{draft_definitions}
use Rattle.listing.specs.UseCounts.{use_counts, TotalOf, CountsDelivered, CountsSent}
use Rattle.listing.proofs.UseCounts.{use-counts-say, counts-sent, counts-computed}
use Rattle.listing.specs.Methods.{methods, MethodsSent}
use Rattle.listing.proofs.MethodsUsing.{methods-say, methods-sent, methods-computed}
use Rattle.listing.proofs.Examples.{drafted}
use Rattle.listing.specs.Demand3.{Answers, DraftAnswers, Delivers, Sent, SentDraft}
use Rattle.listing.proofs.Demand3.{sent-bytes, sent-draft-bytes}
use Rattle.samples.specs.Bytes as bytes
use Rattle.samples.specs.Written.{p1}
use Rattle.samples.specs.Table.{samples}
use Rattle.samples.proofs.Computed.{layout-computed, samples-computed}
use Rattle.samples.proofs.Theorems.{all-read}
use Rattle.examples.proofs.Computed.{marks-computed, labels-computed}

pub p1-read : layout bytes.p1 ≡ whole p1
unfolding samples
p1-read = all-read _ (Memᴰ.head refl)

-- Under document 01's figures.
abbrev pub p1-source : Source
p1-source = bytes.p1 under full

pub p1-labels : Labels p1.names (trees p1)
unfolding labels-computed samples-computed
p1-labels = (labels-say p1).0 refl

pub p1-admitted : admitted p1-source ≡ given p1
p1-admitted = full-admits bytes.p1 p1-read p1-labels

-- ---- As a book: it passes, and has an actor
p1-passes : check p1 ≡ passes
unfolding marks-computed samples-computed
p1-passes = refl

has-actor : resolve_actor p1 ≡ end → ⊥
unfolding marks-computed samples-computed
has-actor e = let z : ◌≡◌ {A = ℕ} 0 1 = cc in omega arith

pub p1-sent : Sent p1-source p1
p1-sent = sent-bytes p1-source p1 p1-admitted p1-passes has-actor

abbrev pub p1-answers : Answers p1
p1-answers = p1-sent.answers

pub p1-list : list p1 ≡ given (3 ∷ 6 ∷ [])
unfolding marks-computed samples-computed
p1-list = refl

pub p1-listed : p1-answers.listed ≡ 3 ∷ 6 ∷ []
p1-listed = let e = sym p1-answers.list_given.0 ∙ p1-list in cc

-- In three lent places: two names are told, and the third place keeps what it had. In one place two are needed.
listed-in : Delivers (HandedAs (on_bytes list p1-source)) 2 (3 ∷ 6 ∷ [])
listed-in = rw p1-listed at p1-sent.list_sent

pub p1-in-three : {x y z : ℕ} {new : List ℕ} {r : Answer} → HandedAs (on_bytes list p1-source) (x ∷ y ∷ z ∷ []) new r → (r ≡ Ok 2) × (new ≡ 3 ∷ 6 ∷ z ∷ [])
p1-in-three {new = new} h = let d = listed-in.enough h (omega arith) in (d.answer, sym (take-append-drop 2 new) ∙ ap₂ ◌++◌ d.front d.rest)

pub p1-in-one : {x : ℕ} {new : List ℕ} {r : Answer} → HandedAs (on_bytes list p1-source) (x ∷ []) new r → (r ≡ Err (Short 2)) × (new ≡ x ∷ [])
p1-in-one h = let k = listed-in.short h (omega arith) in (k.answer, k.same)

pub p1-marks : marks_over p1 (3 ∷ 6 ∷ []) ≡ given (6 ∷ [])
unfolding marks-computed samples-computed
p1-marks = refl

pub p1-marked : p1-answers.marked ≡ 6 ∷ []
p1-marked = let e = sym p1-answers.marks_given.0 ∙ ap (marks_over p1) p1-listed ∙ p1-marks in cc

-- ---- Its uses: each name has one, by the argument of put
pub p1-counts : use_counts p1 ≡ given (1 ∷ 1 ∷ [])
unfolding counts-computed samples-computed
p1-counts = refl

pub p1-counts-sent : CountsSent p1-source p1
p1-counts-sent = counts-sent p1-source p1 p1-admitted p1-passes has-actor

pub p1-counted : p1-counts-sent.counts ≡ 1 ∷ 1 ∷ []
p1-counted = same-given (sym ((use-counts-say p1 (admitted-fits p1-source p1-admitted) p1-counts-sent.counts).1 p1-counts-sent.is-given) ∙ p1-counts)

pub p1-counts-in-three : {x y z : ℕ} {new : List ℕ} {r : UseCountsAnswer} → UseCountsAs (on_bytes use_counts p1-source) (x ∷ y ∷ z ∷ []) new r →
    (r ≡ Ok (record { listed = 2; total = 2 })) × (new ≡ 1 ∷ 1 ∷ z ∷ [])
p1-counts-in-three {x} {y} {z} {new} {r} h =
    let room : length p1-counts-sent.counts ≤ 3 = omega (arith, ap length p1-counted) in
    let d = subst (λ (l : List ℕ). CountsDelivered l (x ∷ y ∷ z ∷ []) new r) p1-counted (p1-counts-sent.enough h room) in
    (d.answer, sym (take-append-drop 2 new) ∙ ap₂ ◌++◌ d.front d.rest)

pub p1-total : TotalOf p1 2
p1-total = subst (λ (l : List ℕ). TotalOf p1 (sum l)) p1-counted p1-counts-sent.total

-- ---- Its methods: put, at position 0, changes with tree, with pair and with both; none changes with spare, with leaf, which is no definition, or
-- with 65,535, which is no name
pub p1-methods : (methods p1 (6 ∷ []) ≡ given (0 ∷ [])) × (methods p1 (3 ∷ []) ≡ given (0 ∷ [])) × (methods p1 (3 ∷ 6 ∷ []) ≡ given (0 ∷ []))
unfolding methods-computed samples-computed
p1-methods = (refl, refl, refl)

pub p1-unchanging : (methods p1 (5 ∷ []) ≡ given []) × (methods p1 (2 ∷ []) ≡ given []) × (methods p1 (65535 ∷ []) ≡ given []) × (methods p1 (5 ∷ 2 ∷ 65535 ∷ []) ≡ given [])
unfolding methods-computed samples-computed
p1-unchanging = (refl, refl, refl, refl)

pub p1-methods-sent : (asked : List ℕ) → MethodsSent p1-source p1 asked
p1-methods-sent = methods-sent p1-source p1 p1-admitted p1-passes has-actor

p1-positions : (asked : List ℕ) {l : List ℕ} → methods p1 asked ≡ given l → (p1-methods-sent asked).positions ≡ l
p1-positions asked e =
    let x = p1-methods-sent asked in
    same-given (sym ((methods-say p1 (admitted-fits p1-source p1-admitted) asked x.positions).1 x.is-given) ∙ e)

pub p1-methods-in-two : {x y : ℕ} {new : List ℕ} {r : Answer} → HandedAs (on_bytes (λ b. methods b (3 ∷ 6 ∷ [])) p1-source) (x ∷ y ∷ []) new r →
    (r ≡ Ok 1) × (new ≡ 0 ∷ y ∷ [])
p1-methods-in-two {x} {y} {new} {r} h =
    let asked : List ℕ = 3 ∷ 6 ∷ [] in
    let sent = subst (λ (l : List ℕ). Delivers (HandedAs (on_bytes (λ b. methods b asked) p1-source)) (length l) l) (p1-positions asked p1-methods.2) (p1-methods-sent asked).sent in
    let d = sent.enough h (omega arith) in
    (d.answer, sym (take-append-drop 1 new) ∙ ap₂ ◌++◌ d.front d.rest)

-- ---- As a draft: it has an actor, and no name is defined twice
main-actor : main_actor p1 ≡ end → ⊥
unfolding drafted samples-computed
main-actor e = let z : ◌≡◌ {A = ℕ} 0 1 = cc in omega arith

once : Distinct (map defined_name (draft_definitions p1))
unfolding drafted samples-computed
once = (once-says (draft_definitions p1)).0 refl

pub p1-draft-sent : SentDraft p1-source p1
p1-draft-sent = sent-draft-bytes p1-source p1 p1-admitted main-actor once

abbrev pub p1-draft : DraftAnswers p1
p1-draft = p1-draft-sent.answers

-- ---- Under limits: it has 7 names, 10 nodes and 3 definitions
abbrev pub p1-has : Limits
p1-has = record { names = 7; nodes = 10; definitions = 3 }

p1-size : p1-has ≡ size_of p1
unfolding layout-computed samples-computed
p1-size = refl

pub p1-within : (l : Limits) → Within p1-has l → admitted (bytes.p1 under l) ≡ given p1
p1-within l w = (admitted-says (bytes.p1 under l) p1).1 (p1-read, subst (λ (s : Limits). Within s l) p1-size w, p1-labels)

pub p1-over : (l : Limits) → Over p1-has l → admitted (bytes.p1 under l) ≡ refused OverLimit
p1-over l o =
    admitted-whole (bytes.p1 under l) p1 p1-read
    ∙ rw ((over-says (size_of p1) l).1 (subst (λ (s : Limits). Over s l) p1-size o))
