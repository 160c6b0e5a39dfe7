-- How long what is printed can be: at most 1,025 methods change, a name has at most 255 bytes, and a byte prints as three at most. Assumes nothing.
use mathlib.Core.Path.{◌≡◌, refl, sym, ap, subst, ◌∙◌}
use mathlib.Core.List.{List, [], ◌∷◌, map}
use Prim.Native.Nat.{ℕ, ◌+◌, ◌*◌, ◌≤◌, ◌<◌}
use native.Mathlib.Omega.{arith}
use lib.ListN.{length, length-append, length-map}
use Rattle.std.specs.Prelude.{Err}
use Rattle.refusals.specs.declared.Refusal.{Refusal}
use Rattle.refusals.specs.Outcome.{refused, given}
use Rattle.refusals.specs.Handed.{Answer, HandedAs}
use Rattle.format.specs.declared.Limits.{Limits}
use Rattle.format.specs.Book.{Book}
use Rattle.format.specs.Layout.{read, name_in}
use Rattle.book.specs.declared.admitted.AdmittedBook.{AdmittedBook}
use Rattle.format.specs.Within.{full}
use Rattle.format.specs.Admission.{◌under◌, admitted}
use Rattle.format.proofs.Admission.{admitted-fits, admitted-labels}
use Rattle.judgement.specs.Check.{check_bytes}
use Rattle.listing.specs.Methods.{methods, offered_names}
use Rattle.passed.specs.declared.CheckedBook.{CheckedBook}
use Rattle.passed.specs.Checked.{book_of}
use Rattle.passed.specs.Stages.{BookPassed}
use Rattle.print.specs.declared.Text.{Text}
use Rattle.print.specs.Laid.{Lays, LaysWithin}
use Rattle.print.specs.Refused.{refusal_of}
use Rattle.print.proofs.Laws.{quoted-length, name-length}
use Rattle.print.proofs.Lays.{alias, within, wider}
use Rattle.methods.specs.Asked.{ended, numbers_from}
use Rattle.methods.specs.Printed.{name_at, changed, line, lines, text_of, printed}
use Rattle.methods.proofs.Answered.{positions-few}
use Rattle.methods.proofs.Named.{read-is}
use Rattle.methods.proofs.Shown.{numbers, changed-given, changed-refused, shown, refused-shown}

-- ---- The lines
line-length : (name : List ℕ) → length (line name) ≤ 3 * length name + 3
unfolding line
line-length name = simp length-append (omega (arith, quoted-length name))

lines-length : (bs l : List ℕ) → length (lines bs l) ≤ 768 * length l
unfolding lines
lines-length bs [] = omega arith
lines-length bs (n ∷ l) =
    omega (arith, length-append (line (name_in bs n)) (lines bs l), line-length (name_in bs n), name-length bs n, lines-length bs l)

text-length : (bs : List ℕ) (b : Book) (asked : List ℕ) {l : List ℕ} → admitted (bs under full) ≡ given b → methods b (numbers b (ended asked)) ≡ given l →
    length (text_of bs (changed (ended asked) b)) < 787201
unfolding text_of
text-length bs b asked {l} read e =
    let few = positions-few b (numbers b (ended asked)) e (admitted-fits (bs under full) read) (admitted-labels (bs under full) read) in
    rw (changed-given b (ended asked) e)
    (omega (arith, lines-length bs (map (name_at (offered_names b)) l), length-map l (name_at (offered_names b)), few))

-- ---- What is asked of a book that passed are the numbers of its own names.
own-numbers : (b : CheckedBook) (asked : List ℕ) {i : AdmittedBook} {l m : List ℕ} → i ≡ b.book →
    l ≡ numbers_from 0 (read i.bytes.now).names (ended asked) → m ≡ l → m ≡ numbers (book_of b) (ended asked)
own-numbers b asked e f g =
    let same = ap (λ (x : AdmittedBook). (read x.bytes.now).names) e ∙ ap (λ (c : Book). c.names) (read-is b.book.bytes.now (book_of b) b.passes.admitted.laid) in
    g ∙ f ∙ ap (λ (names : List (List ℕ)). numbers_from 0 names (ended asked)) same

pub own-handed : (b : CheckedBook) (asked : List ℕ) {i : AdmittedBook} {l m : List ℕ} → i ≡ b.book →
    l ≡ numbers_from 0 (read i.bytes.now).names (ended asked) → m ≡ l → {old new : List ℕ} {a : Answer} →
    HandedAs (methods (book_of b) m) old new a → HandedAs (methods (book_of b) (numbers (book_of b) (ended asked))) old new a
own-handed b asked e f g {old} {new} {a} h = subst (λ (l : List ℕ). HandedAs (methods (book_of b) l) old new a) (own-numbers b asked e f g) h

-- ---- So all of them are laid where there is that much room, and a refusal is shorter, after the check and of the check.
module _ {b : CheckedBook} (x : BookPassed (b.book.bytes.now under full) b) (asked : List ℕ) {t u : Text} where
  pub lines-laid : {l : List ℕ} → methods (book_of b) (numbers (book_of b) (ended asked)) ≡ given l →
      Lays (lines b.book.bytes.now (map (name_at (offered_names (book_of b))) l)) t u → LaysWithin 787201 (text_of b.book.bytes.now (changed (ended asked) (book_of b))) t u
  unfolding text_of
  lines-laid e p =
      within (text-length b.book.bytes.now (book_of b) asked x.is e) (alias (sym (ap (text_of b.book.bytes.now) (changed-given (book_of b) (ended asked) e))) p)

  pub stopped-laid : {why : Refusal} → methods (book_of b) (numbers (book_of b) (ended asked)) ≡ refused why →
      LaysWithin 780 (refusal_of b.book.bytes.now why) t u → LaysWithin 787201 (text_of b.book.bytes.now (changed (ended asked) (book_of b))) t u
  unfolding text_of
  stopped-laid {why} e p = wider (omega arith) (sym (ap (text_of b.book.bytes.now) ((changed-refused (book_of b) (ended asked) why).1 e))) p

module _ (bs asked : List ℕ) {l : Limits} (e : l ≡ full) where
  pub full-passed : {b : CheckedBook} → BookPassed (bs under l) b → BookPassed (b.book.bytes.now under full) b
  full-passed x = let y = rw e at x in record { bytes = refl; is = ap (λ (cs : List ℕ). admitted (cs under full)) y.bytes ∙ y.is }

  module _ {t u : Text} where
    pub passed-laid : {b : CheckedBook} → BookPassed (bs under l) b →
        LaysWithin 787201 (text_of b.book.bytes.now (changed (ended asked) (book_of b))) t u → LaysWithin 787201 (printed bs asked) t u
    passed-laid {b} x p =
        let y = rw e at x in
        wider (omega arith) (ap (λ (cs : List ℕ). text_of cs (changed (ended asked) (book_of b))) y.bytes ∙ sym (shown bs (book_of b) y.is asked)) p

    pub refusal-laid : {why : Refusal} → check_bytes (bs under l) ≡ Err why → LaysWithin 780 (refusal_of bs why) t u →
        LaysWithin 787201 (printed bs asked) t u
    refusal-laid f p = wider (omega arith) (sym (refused-shown bs asked (rw e at f))) p
