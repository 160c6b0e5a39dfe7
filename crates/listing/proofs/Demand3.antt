-- Demand 3, whole (specs/Demand3.antt has its words): every book meets it. Assumes of a book that it fits, as one does that was read from
-- bytes.
--     demand-3, demand-3-draft        a book that passed and has an actor; a draft
--     asked, sent, sent-draft         the same of the bytes that a supplier sends
--     sent-bytes, sent-draft-bytes    what a caller has in hand after the entry points of list, marks, uses and draft listing: they promise
--                                     `HandedAs` and `UsesAs` (crate `questions`), so that these hold of every call
--     draft-bytes-sent                a draft's conditions written out
--     ring-answers, lost-draft        a book with a method ring, and a draft that is unbound; P1 is in the crate `examples`
use mathlib.Core.Path.{◌≡◌, sym, subst, ◌∙◌}
use mathlib.Core.Logic.{◌↔◌, ⊎_elim, ⊎_map}
use mathlib.Core.List.{List, map}
use Prim.Native.Nat.{ℕ, ◌≤◌}
use native.Mathlib.Omega.{arith}
use lib.ListN.{length}
use Rattle.refusals.specs.declared.Refusal.TheVariants.{Unbound}
use Rattle.std.specs.Prelude.{Ok, Err}
use Rattle.refusals.specs.Verdict.{passes}
use Rattle.refusals.specs.Outcome.{Outcome, refused, given}
use Rattle.refusals.specs.Handed.{Answer, HandedAs}
use Rattle.refusals.proofs.Outcomes.{fit-given}
use Rattle.format.specs.Forest.{Forest, end}
use Rattle.format.specs.Node.{Node}
use Rattle.format.specs.Book.{Definition, Book, trees}
use Rattle.format.specs.Fits.{Fits}
use Rattle.format.specs.Layout.{whole, layout}
use Rattle.format.specs.Within.{size_of, Within}
use Rattle.format.specs.Distinct.{Distinct}
use Rattle.format.specs.Labels.{Labels}
use Rattle.format.specs.Admission.{admitted, on_bytes, Source}
use Rattle.format.proofs.Admission.{admitted-fits, admitted-says, asked-is}
use Rattle.judgement.specs.Environment.{main_definitions}
use Rattle.judgement.specs.Actor.{main_actor, class_arguments}
use Rattle.judgement.specs.Resolve.{resolve_actor}
use Rattle.judgement.specs.Check.{check}
use Rattle.judgement.specs.WellFormed.{defined_name}
use Rattle.judgement.proofs.Theorems.{actor-means}
use Rattle.listing.specs.References.{direct}
use Rattle.listing.specs.List.{list}
use Rattle.listing.specs.Marks.{marks_over}
use Rattle.listing.specs.Uses.{uses_of, uses}
use Rattle.listing.specs.DraftList.{draft_definitions, draft_list}
use Rattle.listing.specs.Demand3.{Lists, Answers, DraftAnswers, Delivered, Sent, SentDraft}
use Rattle.listing.proofs.Places.{place-earlier}
use Rattle.listing.proofs.Chases.{Listed, misses-lost}
use Rattle.listing.proofs.Chase.{chases-unique}
use Rattle.listing.proofs.Delivered.{gives, fit-unbound, handed-delivers, flat-length, uses-delivers, handed-unbound, handed-kept, handed-gives}
use Rattle.listing.proofs.List.{list-answered}
use Rattle.listing.proofs.DraftList.{draft-says, draft-stops, draft-lost, draft-either, draft-few}
use Rattle.listing.proofs.Marks.{closed, marks-listed}
use Rattle.listing.proofs.Interface.{passed-interface, passed-once}
use Rattle.listing.proofs.Uses.{uses-answered, uses-given, uses-unreachable, uses-room}
use Rattle.listing.proofs.Examples.{ring, ring-fits, ring-passes, ring-actor, importing, import-fits, import-main, import-once, import-draft}

-- ---- The list
module _ {ds : List Definition} {actor : Forest Node} {seen l : List ℕ} (walked : Listed ds actor seen l) where
  pub lists-all : Distinct (map defined_name ds) → Lists ds actor l
  lists-all defined-once = record {
    in_order = (seen, walked.chased);
    alone = λ k c. (chases-unique ds defined-once c.1 walked.chased).1;
    stands = λ u v i r. ⊎_map (place-earlier l (closed walked i r) i) (λ w. w) (walked.order u i v r);
    defined = λ n i. walked.defined n (walked.sound n i);
    reachable = λ n. (walked.sound n, walked.complete n);
    once = walked.once;
  }

-- ---- Every book meets it
pub demand-3 : (b : Book) → Fits b → check b ≡ passes → (resolve_actor b ≡ end → ⊥) → Answers b
demand-3 b fits passed some =
    let a = list-answered b fits passed some in
    let m = marks-listed b fits passed a.listed in
    let answered = uses-answered b fits passed some in
    let offered = passed-interface b passed some in
    record {
      listed = a.names;
      marked = m.0;
      row = uses_of (main_definitions b) (resolve_actor b);
      meant = actor-means b fits passed;
      list_given = gives (list b) a.answer;
      marks_given = gives (marks_over b a.names) m.1;
      uses_given = λ n. gives (uses b n) (answered n);
      list_enough = a.short;
      marks_enough = m.3;
      uses_enough = uses-room b fits passed some;
      offers = (class_arguments (resolve_actor b), offered.0, offered.1);
      rows = uses-given b fits passed some;
      unlisted = λ n h.
          let e = sym (answered n) ∙ uses-unreachable b fits passed some n (λ r. h (a.listed.complete n r)) in cc;
      lists = lists-all a.listed (passed-once b passed some fits);
      marks = m.2;
    }

pub demand-3-draft : (b : Book) → Fits b → (main_actor b ≡ end → ⊥) → Distinct (map defined_name (draft_definitions b)) → DraftAnswers b
demand-3-draft b fits some once =
    let lost = draft-lost b fits some once in
    let stops = draft-stops b fits some once in
    record {
      unbound = λ places. (
        λ p. lost.0 (p.0, (fit-unbound places (draft_list b) p.0).0 p.1),
        λ p. let q = lost.1 p in (q.0, (fit-unbound places (draft_list b) q.0).1 q.1),
      );
      told = λ n e. misses-lost (draft_definitions b) (main_actor b) ((stops n).0 e) (λ m i. direct i);
      first_met = stops;
      answered = λ all. ⊎_elim (λ x. absurd (all x.0 x.2)) (λ a. (a.names, gives (draft_list b) a.answer, a.short)) (draft-either b fits some once);
      lists = λ places l e. lists-all ((draft-says b fits some once l).0 (fit-given places (draft_list b) e)).1 once;
    }

-- ---- Whatever book a supplier sends, as bytes: it fits, and the questions on the bytes are those on it
module _ (bytes : Source) (b : Book) (read : admitted bytes ≡ given b) where
  fits : Fits b
  fits = admitted-fits bytes read

  pub asked : {A : Type 0} (question : Book → Outcome A) → on_bytes question bytes ≡ question b
  asked question = asked-is bytes question read

  pub sent : check b ≡ passes → (resolve_actor b ≡ end → ⊥) → Answers b
  sent = demand-3 b fits

  pub sent-draft : (main_actor b ≡ end → ⊥) → Distinct (map defined_name (draft_definitions b)) → DraftAnswers b
  sent-draft = demand-3-draft b fits

  pub sent-bytes : check b ≡ passes → (resolve_actor b ≡ end → ⊥) → Sent bytes b
  sent-bytes passed some =
      let a = sent passed some in
      record {
        answers = a;
        list_sent = handed-delivers (on_bytes list bytes) (asked list ∙ a.list_given.0);
        marks_sent = handed-delivers (on_bytes (λ c. marks_over c a.listed) bytes) (asked (λ c. marks_over c a.listed) ∙ a.marks_given.0);
        uses_sent = λ n. uses-delivers (on_bytes (λ c. uses c n) bytes) (asked (λ c. uses c n) ∙ (a.uses_given n).0);
        uses_three = λ n. flat-length (a.row n);
      }

  -- ---- A draft, down to the lent list
  module _ {old new : List ℕ} {r : Answer} (h : HandedAs (on_bytes draft_list bytes) old new r) where
    told-unbound : (n : ℕ) → (r ≡ Err (Unbound n)) ↔ (draft_list b ≡ refused (Unbound n))
    told-unbound n = let t = handed-unbound h n in (λ e. sym (asked draft_list) ∙ t.0 e, λ e. t.1 (asked draft_list ∙ e))

    told-given : (main_actor b ≡ end → ⊥) → Distinct (map defined_name (draft_definitions b)) → {k : ℕ} → r ≡ Ok k →
        (l : List ℕ) × Delivered k l old new r × (length l ≡ k) × Lists (draft_definitions b) (main_actor b) l × (k ≤ 512)
    told-given some once e =
        let x = handed-gives h e in
        let given-here = sym (asked draft_list) ∙ x.1 in (
          x.0,
          subst (λ (k : ℕ). Delivered k x.0 old new r) x.2 ((handed-delivers (on_bytes draft_list bytes) x.1).enough h x.3),
          x.2,
          lists-all ((draft-says b fits some once x.0).0 given-here).1 once,
          omega (arith, x.2, draft-few b fits x.0 given-here),
        )

  pub sent-draft-bytes : (main_actor b ≡ end → ⊥) → Distinct (map defined_name (draft_definitions b)) → SentDraft bytes b
  sent-draft-bytes some once =
      let a = sent-draft some once in
      let lost = draft-lost b fits some once in
      record {
        answers = a;
        unbound_sent = λ h. (
          λ p. lost.0 (p.0, (told-unbound h p.0).0 p.1),
          λ p. let q = lost.1 p in (q.0, (told-unbound h q.0).1 q.1),
        );
        first_sent = λ h n. (λ e. (a.first_met n).0 ((told-unbound h n).0 e), λ m. (told-unbound h n).1 ((a.first_met n).1 m));
        kept_sent = λ h e. handed-kept h e;
        answered_sent = λ all. let x = a.answered all in (x.0, handed-delivers (on_bytes draft_list bytes) (asked draft_list ∙ x.1.0), x.2);
        lists_sent = λ h e. told-given h some once e;
      }

-- A draft with its conditions written out: unbroken layout, within the limits, no repeated labels, an actor, no name defined twice.
pub draft-bytes-sent : (bytes : Source) (b : Book) → layout bytes.bytes ≡ whole b → Within (size_of b) bytes.limits → Labels b.names (trees b) →
    (main_actor b ≡ end → ⊥) → Distinct (map defined_name (draft_definitions b)) → SentDraft bytes b
draft-bytes-sent bytes b laid fits labels = sent-draft-bytes bytes b ((admitted-says bytes b).1 (laid, fits, labels))

-- ---- A book with a method ring is such a book; and a draft whose import has the definition that it lacks is such a draft, and refused
pub ring-answers : Answers ring
ring-answers = demand-3 ring ring-fits ring-passes ring-actor

pub lost-draft : DraftAnswers importing × (draft_list importing ≡ refused (Unbound 3))
lost-draft = (demand-3-draft importing import-fits import-main import-once, import-draft)
