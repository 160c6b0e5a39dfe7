-- How long what is printed can be: at most 512 names have a definition, a name has at most 255 bytes, of which one prints as three at most, and a
-- number has at most ten digits. Assumes nothing.
use mathlib.Core.Path.{◌≡◌, refl, sym, ap, ◌∙◌}
use mathlib.Core.Bool.{Bool, true, false, cond}
use mathlib.Core.List.{List, [], ◌∷◌, map}
use Prim.Native.Nat.{ℕ, ◌+◌, ◌*◌, ◌≤◌, ◌<◌}
use native.Mathlib.Omega.{arith}
use lib.Dec.{leb}
use lib.ListN.{length, length-append, length-map}
use Rattle.std.specs.Prelude.{Err}
use Rattle.refusals.specs.declared.Refusal.{Refusal}
use Rattle.refusals.specs.declared.Count.TheVariants.{Exactly, Many}
use Rattle.refusals.specs.Verdict.{passes}
use Rattle.format.specs.declared.Limits.{Limits}
use Rattle.format.specs.Book.{Book}
use Rattle.format.specs.Fits.{Fits}
use Rattle.format.specs.Layout.{name_in}
use Rattle.format.specs.Within.{full}
use Rattle.format.specs.Admission.{◌under◌}
use Rattle.format.proofs.Admission.{admitted-fits}
use Rattle.format.proofs.Logic.{le-says, of-true}
use Rattle.judgement.specs.Environment.{main_definitions}
use Rattle.judgement.specs.Check.{check, check_bytes}
use Rattle.listing.specs.Values.{name_values, count_of}
use Rattle.passed.specs.declared.CheckedBook.{CheckedBook}
use Rattle.passed.specs.Checked.{book_of}
use Rattle.passed.specs.Stages.{BookPassed}
use Rattle.print.specs.declared.Text.{Text}
use Rattle.print.specs.Laid.{Lays, LaysWithin}
use Rattle.print.specs.Refused.{refusal_of}
use Rattle.print.proofs.Laws.{decimal-length, quoted-length, name-length}
use Rattle.print.proofs.Lays.{alias, within, wider}
use Rattle.values.specs.Printed.{defined_names, entry_of, counted, number, line, lines, printed}
use Rattle.values.proofs.Shown.{all-given, entries-few, shown, refused-shown}

-- ---- The lines
number-length : (m : ℕ) → length (number (count_of m)) ≤ 10
unfolding number count_of
number-length m = go (leb m 4294967295) refl
  where
    go : (b : Bool) → leb m 4294967295 ≡ b → length (number (cond b (Exactly m) Many)) ≤ 10
    go true e = let h = (le-says m 4294967295).0 (of-true (leb m 4294967295) e) in decimal-length 9 m (omega (arith, h))
    go false e = omega arith

line-length : (name : List ℕ) (m : ℕ) → length (line name (count_of m)) ≤ 14 + 3 * length name
unfolding line
line-length name m = simp length-append (omega (arith, quoted-length name, number-length m))

lines-length : (bs : List ℕ) (b : Book) (l : List ℕ) → length (lines bs (map (entry_of b) l)) ≤ 779 * length l
unfolding lines
lines-length bs b [] = omega arith
lines-length bs b (n ∷ l) =
    let m = name_values (main_definitions b) n in
    omega (
      arith,
      length-append (line (name_in bs n) (count_of m)) (lines bs (map (entry_of b) l)),
      line-length (name_in bs n) m,
      name-length bs n,
      lines-length bs b l,
    )

counted-length : (bs : List ℕ) (b : Book) → Fits b → check b ≡ passes → length (lines bs (counted b)) < 409600
unfolding counted
counted-length bs b fits passed =
    omega (
      arith,
      lines-length bs b (defined_names b),
      length-map (defined_names b) (entry_of b),
      entries-few b (all-given b passed) fits,
    )

-- ---- So all of them are laid where there is that much room, and a refusal is shorter.
module _ (bs : List ℕ) {l : Limits} (e : l ≡ full) {t u : Text} where
  pub lines-laid : {b : CheckedBook} → BookPassed (bs under l) b → Lays (lines b.book.bytes.now (counted (book_of b))) t u →
      LaysWithin 409600 (printed bs) t u
  lines-laid {b} x p =
      let y = rw e at x in
      let passed = b.passes.passed.passed in
      let same : lines b.book.bytes.now (counted (book_of b)) ≡ printed bs =
      ap (λ (cs : List ℕ). lines cs (counted (book_of b))) y.bytes ∙ sym (shown bs (book_of b) y.is passed) in
      within (rw (shown bs (book_of b) y.is passed) (counted-length bs (book_of b) (admitted-fits (bs under full) y.is) passed)) (alias same p)

  pub refusal-laid : {why : Refusal} → check_bytes (bs under l) ≡ Err why → LaysWithin 780 (refusal_of bs why) t u →
      LaysWithin 409600 (printed bs) t u
  refusal-laid f p = wider (omega arith) (sym (refused-shown bs (rw e at f))) p
