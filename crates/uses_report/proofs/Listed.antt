-- The lines of the entries one after another, and a report as two lists. Assumes nothing.
use mathlib.Core.Path.{◌≡◌, refl, sym, ap, ◌∙◌}
use mathlib.Core.Logic.{◌⊎◌, inl, inr}
use mathlib.Core.List.{List, [], ◌∷◌, ◌++◌, append_assoc, append-nil, map}
use Prim.Native.Nat.{ℕ}
use native.Mathlib.Omega.{arith}
use lib.ListN.{length, take}
use Rattle.std.specs.Prelude.{Err}
use Rattle.std.specs.List.{zip}
use Rattle.refusals.specs.declared.Refusal.{Refusal}
use Rattle.refusals.specs.Outcome.{Outcome, refused, given, fit}
use Rattle.refusals.specs.Handed.{Answer, HandedAs, answer_of, UseCountsAnswer, use_counts_answer, UseCountsAs}
use Rattle.format.specs.Book.{Book}
use Rattle.format.specs.Fits.{Fits}
use Rattle.format.specs.Layout.{name_in}
use Rattle.format.proofs.Logic.{clash}
use Rattle.listing.specs.List.{list}
use Rattle.listing.specs.Demand3.{Delivered}
use Rattle.listing.specs.UseCounts.{counts_of, use_counts}
use Rattle.listing.proofs.List.{list-few}
use Rattle.listing.proofs.Delivered.{handed-delivers, counts-delivered}
use Rattle.listing.proofs.UseCounts.{counts-length, use-counts-given, use-counts-refused}
use Rattle.print.specs.declared.Text.{Text}
use Rattle.print.specs.Laid.{Lays}
use Rattle.print.proofs.Lays.{nothing, then}
use Rattle.uses_report.specs.Printed.{Entry, report, line, lines}
use Rattle.uses_report.specs.Told.{ReportAs}
use Rattle.uses_report.proofs.Shown.{report-given, report-refused}

-- ---- The lines so far, where these names and numbers are left: at the start, after one more, and at the end
pub record LinesTo (bs names counts names' counts' : List ℕ) (old new : Text) : Type 0 where
  done : List Entry
  all : done ++ zip names' counts' ≡ zip names counts
  laid : Lays (lines bs done) old new

one-empty : (names counts : List ℕ) → (length names ≡ 0) ⊎ (length counts ≡ 0) → zip names counts ≡ []
one-empty [] counts h = refl
one-empty (n ∷ names) [] h = refl
one-empty (n ∷ names) (k ∷ counts) (inl h) = absurd (omega arith)
one-empty (n ∷ names) (k ∷ counts) (inr h) = absurd (omega arith)

module _ (bs : List ℕ) where
  lines-append : (x y : List Entry) → lines bs (x ++ y) ≡ lines bs x ++ lines bs y
  unfolding lines
  lines-append [] y = refl
  lines-append (e ∷ x) y = rw (lines-append x y) (sym (append_assoc (line (name_in bs e.0) e.1) (lines bs x) (lines bs y)))

  lines-last : (x : List Entry) (n k : ℕ) → lines bs (x ++ ((n, k) ∷ [])) ≡ lines bs x ++ line (name_in bs n) k
  unfolding lines
  lines-last x n k = rw (lines-append x ((n, k) ∷ []), append-nil (line (name_in bs n) k))

  pub lines-start : {names counts names' counts' : List ℕ} {a : Text} → names' ≡ names → counts' ≡ counts → LinesTo bs names counts names' counts' a a
  unfolding lines
  lines-start e f = record { done = []; all = rw (e, f); laid = nothing _ }

  module _ {names counts names' counts' : List ℕ} {a b : Text} (x : LinesTo bs names counts names' counts' a b) where
    pub lines-on : {n k : ℕ} {ns ks : List ℕ} {c : Text} → names' ≡ n ∷ ns → counts' ≡ k ∷ ks → Lays (line (name_in bs n) k) b c →
        LinesTo bs names counts ns ks a c
    lines-on {n} {k} {ns} {ks} e f p = record {
      done = x.done ++ ((n, k) ∷ []);
      all = append_assoc x.done ((n, k) ∷ []) (zip ns ks) ∙ (rw (e, f) at x.all);
      laid = rw (lines-last x.done n k) (then x.laid p);
    }

    pub lines-end : (length names' ≡ 0) ⊎ (length counts' ≡ 0) → Lays (lines bs (zip names counts)) a b
    lines-end h = rw (sym (append-nil x.done) ∙ sym (ap (λ l. x.done ++ l) (one-empty names' counts' h)) ∙ x.all) at x.laid

-- ---- What is handed over
zip-map : (f : ℕ → ℕ) (l : List ℕ) → zip l (map f l) ≡ map (λ n. (n, f n)) l
zip-map f [] = refl
zip-map f (n ∷ l) = ap (λ (k : List Entry). (n, f n) ∷ k) (zip-map f l)

module _ (b : Book) (fits : Fits b) {names names' : List ℕ} {a : Answer} (n : length names ≡ 512) (h : HandedAs (list b) names names' a) where
  delivered : {l : List ℕ} → list b ≡ given l → Delivered (length l) l names names' a
  delivered {l} e = (handed-delivers (list b) e).enough h (rw n (list-few b fits l e))

  -- A refusal of the list is that of the report.
  pub report-stops : {counts : List ℕ} {why : Refusal} → a ≡ Err why → ReportAs (report b) names' counts (Err why)
  unfolding fit answer_of
  report-stops {counts} {why} f = go (list b) refl
    where
      go : (o : Outcome (List ℕ)) → list b ≡ o → ReportAs (report b) names' counts (Err why)
      go (refused r) e = let same : Err why ≡ Err r = sym f ∙ h.answer ∙ rw e in record { is = (report-refused b why).1 (e ∙ ap refused cc); sum-is = tt; within = tt }
      go (given l) e = let d = sym f ∙ (delivered e).answer in clash cc

  -- Names and counts are those of the report.
  module _ {counts counts' : List ℕ} {r : UseCountsAnswer} (m : length counts ≡ 512) (u : UseCountsAs (use_counts b) counts counts' r) where
    reported-refused : {why : Refusal} → list b ≡ refused why → ReportAs (report b) names' counts' r
    unfolding fit use_counts_answer
    reported-refused {why} e = rw (u.answer, use-counts-refused b e) (record { is = (report-refused b why).1 e; sum-is = tt; within = tt })

    reported-given : {l : List ℕ} → list b ≡ given l → ReportAs (report b) names' counts' r
    unfolding counts_of
    reported-given {l} e =
        let few = list-few b fits l e in
        let long = counts-length b l in
        let d = delivered e in
        let k = counts-delivered (use_counts b) (use-counts-given b e) u (omega (arith, m, long, few)) in
        let there : take (length l) counts' ≡ counts_of b l = rw long at k.front in
        rw (k.answer, long)
        (record {
          is = rw (report-given b e, d.front, there, zip-map _ l);
          sum-is = rw there;
          within = (omega (arith, n, d.long, few), omega (arith, m, k.long, few));
        })

    pub reported : ReportAs (report b) names' counts' r
    reported = go (list b) refl
      where
        go : (o : Outcome (List ℕ)) → list b ≡ o → ReportAs (report b) names' counts' r
        go (refused why) e = reported-refused e
        go (given l) e = reported-given e
