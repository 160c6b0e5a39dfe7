-- How long what is printed can be: at most 512 names are listed, a name has at most 255 bytes, of which one prints as three at most, and has at most
-- 16,781,313 uses. Assumes nothing.
use mathlib.Core.Path.{◌≡◌, sym, ap, ◌∙◌}
use mathlib.Core.List.{List, [], ◌∷◌, ◌++◌, map}
use Prim.Native.Nat.{ℕ, ◌+◌, ◌*◌, ◌≤◌, ◌<◌}
use native.Mathlib.Omega.{arith}
use lib.ListN.{length, take, length-append}
use lib.Seq.{length-take-le}
use Rattle.std.specs.Prelude.{Ok, Err, sum}
use Rattle.std.specs.List.{zip}
use Rattle.std.proofs.lemmas.List.Sums.{sum_by-cons}
use Rattle.std.proofs.lemmas.Slice.Zip.{seconds-zip}
use Rattle.refusals.specs.declared.Refusal.{Refusal}
use Rattle.refusals.specs.declared.UseCounts.{UseCounts}
use Rattle.refusals.specs.Outcome.{Outcome, given}
use Rattle.format.specs.declared.Limits.{Limits}
use Rattle.format.specs.Book.{Book}
use Rattle.format.specs.Fits.{Fits}
use Rattle.format.specs.Layout.{name_in}
use Rattle.format.specs.Within.{full}
use Rattle.format.specs.Admission.{◌under◌}
use Rattle.judgement.specs.Environment.{main_definitions}
use Rattle.judgement.specs.Resolve.{resolve_actor}
use Rattle.judgement.specs.Check.{check_bytes}
use Rattle.listing.specs.UseCounts.{use_count}
use Rattle.listing.proofs.List.{list-says, list-few}
use Rattle.listing.proofs.UseCounts.{use-count-few}
use Rattle.passed.specs.declared.CheckedBook.{CheckedBook}
use Rattle.passed.specs.Checked.{book_of}
use Rattle.passed.specs.Stages.{BookPassed}
use Rattle.print.specs.declared.Text.{Text}
use Rattle.print.specs.Laid.{Lays, LaysWithin}
use Rattle.print.specs.Refused.{refusal_of}
use Rattle.print.proofs.Laws.{decimal-length, quoted-length, name-length}
use Rattle.print.proofs.Lays.{alias, within, wider}
use Rattle.uses_report.specs.Printed.{Entry, entry_of, report, total, line, lines, last_line, text_of, printed}
use Rattle.uses_report.specs.Told.{ReportAs}
use Rattle.uses_report.proofs.Shown.{listed, shown, refused-shown}

-- ---- The lines
line-length : (name : List ℕ) (k : ℕ) → k ≤ 16781313 → length (line name k) ≤ 12 + 3 * length name
unfolding line
line-length name k h = simp length-append (omega (arith, quoted-length name, decimal-length 7 k (omega (arith, h))))

module _ (bs : List ℕ) (b : Book) (few : (n : ℕ) → use_count (main_definitions b) (resolve_actor b) n ≤ 16781313) where
  lines-length : (l : List ℕ) → length (lines bs (map (entry_of b) l)) ≤ 777 * length l
  unfolding lines
  lines-length [] = omega arith
  lines-length (n ∷ l) =
      let k = use_count (main_definitions b) (resolve_actor b) n in
      omega (
        arith,
        length-append (line (name_in bs n) k) (lines bs (map (entry_of b) l)),
        line-length (name_in bs n) k (few n),
        name-length bs n,
        lines-length l,
      )

  total-few : (l : List ℕ) → total (map (entry_of b) l) ≤ 16781313 * length l
  unfolding total
  total-few [] = omega arith
  total-few (n ∷ l) = omega (arith, sum_by-cons (λ x. x) (entry_of b n).1 (map (λ e. e.1) (map (entry_of b) l)), few n, total-few l)

last-length : (k : ℕ) → k ≤ 8592032256 → length (last_line k) ≤ 17
unfolding last_line
last-length k h = simp length-append (omega (arith, decimal-length 9 k (omega (arith, h))))

page-length : (bs : List ℕ) (b : Book) → Fits b → {es : List Entry} → report b ≡ given es → length (lines bs es ++ last_line (total es)) < 399360
page-length bs b fits {es} e =
    let p = listed b e in
    let s = (list-says b fits p.0).0 p.1 in
    let few = use-count-few b fits s.0 s.1 in
    let n = list-few b fits p.0 p.1 in
    rw (← p.2)
    (omega (
      arith,
      length-append (lines bs (map (entry_of b) p.0)) (last_line (total (map (entry_of b) p.0))),
      lines-length bs b few p.0,
      last-length (total (map (entry_of b) p.0)) (omega (arith, total-few bs b few p.0, n)),
      n,
    ))

-- ---- So all of them are laid where there is that much room, and a refusal is shorter, after the check and of the check.
module _ (bs : List ℕ) (b : Book) (fits : Fits b) {names counts : List ℕ} {u : UseCounts} (x : ReportAs (report b) names counts (Ok u)) where
  pub page-laid : {t v : Text} → Lays (lines bs (zip (take u.listed names) (take u.listed counts)) ++ last_line u.total) t v →
      LaysWithin 399360 (text_of bs (report b)) t v
  unfolding text_of total
  page-laid p =
      let es = zip (take u.listed names) (take u.listed counts) in
      let even : length (take u.listed counts) ≡ length (take u.listed names) =
      length-take-le u.listed counts x.within.1 ∙ sym (length-take-le u.listed names x.within.0) in
      let sum-is : u.total ≡ total es = x.sum-is ∙ sym (ap sum (seconds-zip (take u.listed names) (take u.listed counts) even)) in
      let same : lines bs es ++ last_line u.total ≡ text_of bs (report b) = rw (x.is, sum-is) in
      within (rw x.is (page-length bs b fits x.is)) (alias same p)

pub stopped-laid : (bs : List ℕ) {o : Outcome (List Entry)} {names counts : List ℕ} {why : Refusal} {t u : Text} → ReportAs o names counts (Err why) →
    LaysWithin 780 (refusal_of bs why) t u → LaysWithin 399360 (text_of bs o) t u
unfolding text_of
stopped-laid bs x p = wider (omega arith) (sym (ap (text_of bs) x.is)) p

module _ (bs : List ℕ) {l : Limits} (e : l ≡ full) {t u : Text} where
  pub passed-laid : {b : CheckedBook} → BookPassed (bs under l) b → LaysWithin 399360 (text_of b.book.bytes.now (report (book_of b))) t u →
      LaysWithin 399360 (printed bs) t u
  passed-laid {b} x p =
      let y = rw e at x in
      wider (omega arith) (ap (λ (cs : List ℕ). text_of cs (report (book_of b))) y.bytes ∙ sym (shown bs (book_of b) y.is)) p

  pub refusal-laid : {why : Refusal} → check_bytes (bs under l) ≡ Err why → LaysWithin 780 (refusal_of bs why) t u →
      LaysWithin 399360 (printed bs) t u
  refusal-laid f p = wider (omega arith) (sym (refused-shown bs (rw e at f))) p
