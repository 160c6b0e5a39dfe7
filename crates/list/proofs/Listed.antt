-- The lines of the listed names one after another, and what the functions that are called ensure, as parts of what is printed. Assumes nothing.
use mathlib.Core.Path.{◌≡◌, refl, sym, ap, ◌∙◌}
use mathlib.Core.List.{List, [], ◌∷◌, ◌++◌, append_assoc, append-nil}
use Prim.Native.Nat.{ℕ, suc, ◌+◌, ◌<◌}
use native.Mathlib.Nat.{add-zero}
use native.Mathlib.Numerals.{add-one}
use native.Mathlib.Omega.{arith}
use lib.ListN.{length, get_or, take}
use lib.Seq.{take-suc, length-take-le}
use Rattle.format.specs.declared.Limits.{Limits}
use Rattle.format.specs.Layout.{name_in}
use Rattle.format.specs.Within.{full}
use Rattle.format.specs.Admission.{◌under◌, admitted}
use Rattle.refusals.specs.declared.Refusal.{Refusal}
use Rattle.judgement.specs.Check.{member, check_bytes}
use Rattle.refusals.specs.Outcome.{given, fit}
use Rattle.refusals.specs.Handed.{Answer, HandedAs}
use Rattle.listing.specs.List.{list}
use Rattle.listing.specs.Marks.{marks_over}
use Rattle.listing.proofs.List.{list-after}
use Rattle.passed.specs.declared.CheckedBook.{CheckedBook}
use Rattle.passed.specs.Checked.{book_of}
use Rattle.passed.specs.Stages.{BookPassed}
use Rattle.passed.proofs.Asking.{stops, answered, handed-as}
use Rattle.print.specs.declared.Text.{Text}
use Rattle.print.specs.Laid.{Lays, LaysWithin}
use Rattle.print.proofs.Lays.{nothing, then, alias, within, lays, wider}
use Rattle.std.specs.Prelude.{nat_eq, Ok, Err}
use Rattle.std.specs.List.{list_any}
use Rattle.print.specs.Refused.{refusal_of}
use Rattle.list.specs.Printed.{heading, mark_of, line, lines, list_in, marks_in, marked_text, listed_text, printed, marks_asked, list_asked, Prints}
use Rattle.list.proofs.Answered.{refused-is, given-is}

-- ---- Whether a name is among the marked ones
pub member-any : (n : ℕ) (l : List ℕ) → list_any (λ m. nat_eq m n) l ≡ member n l
unfolding member
member-any n [] = refl
member-any n (m ∷ l) = let same : nat_eq m n ≡ nat_eq n m = grind arith in rw (member-any n l, same)

-- ---- The lines so far: at the start, and after one more
module _ (bs marked : List ℕ) where
  lines-append : (p : ℕ) (x y : List ℕ) → lines bs marked p (x ++ y) ≡ lines bs marked p x ++ lines bs marked (p + length x) y
  unfolding lines
  lines-append p [] y = rw (add-zero p)
  lines-append p (n ∷ x) y =
      rw (lines-append (suc p) x y)
      (sym (append_assoc (line p (mark_of marked n) (name_in bs n)) (lines bs marked (suc p) x) (lines bs marked (suc p + length x) y))
      ∙ ap (λ (k : ℕ). line p (mark_of marked n) (name_in bs n) ++ lines bs marked (suc p) x ++ lines bs marked k y) (omega arith))

  lines-suc : (l : List ℕ) (i : ℕ) → i < length l →
      lines bs marked 1 (take (i + 1) l) ≡ lines bs marked 1 (take i l) ++ line (i + 1) (mark_of marked (get_or l i 0)) (name_in bs (get_or l i 0))
  unfolding lines
  lines-suc l i h =
      let n = get_or l i 0 in
      rw (add-one i, take-suc l i 0 h, lines-append 1 (take i l) (n ∷ []), append-nil (line (1 + length (take i l)) (mark_of marked n) (name_in bs n)))
      (ap (λ (k : ℕ). lines bs marked 1 (take i l) ++ line k (mark_of marked n) (name_in bs n)) (omega (arith, length-take-le i l (omega arith))))

  pub lines-start : (t : Text) → Lays (lines bs marked 1 []) t t
  unfolding lines
  lines-start t = nothing t

  pub lines-on : (l : List ℕ) (i : ℕ) {a b c : Text} {mark : ℕ} → i < length l → Lays (lines bs marked 1 (take i l)) a b →
      mark ≡ mark_of marked (get_or l i 0) → Lays (line (i + 1) mark (name_in bs (get_or l i 0))) b c → Lays (lines bs marked 1 (take (i + 1) l)) a c
  lines-on l i h p e q = rw (lines-suc l i h) (then p (alias (ap (λ (m : ℕ). line (i + 1) m (name_in bs (get_or l i 0))) e) q))

  -- ---- All of it
  pub table-is : (l : List ℕ) → heading (length l) (length marked) ++ lines bs marked 1 l ≡ marked_text bs l (given marked)
  unfolding marked_text
  table-is l = refl

-- ---- What is printed, by the verdict of the check
pub full-passed : {bs : List ℕ} {l : Limits} {b : CheckedBook} → l ≡ full → BookPassed (bs under l) b → BookPassed (b.book.bytes.now under full) b
full-passed e x = let y = rw e at x in record { bytes = refl; is = ap (λ (bs : List ℕ). admitted (bs under full)) y.bytes ∙ y.is }

pub check-refused : (bs : List ℕ) {l : Limits} {why : Refusal} → l ≡ full → check_bytes (bs under l) ≡ Err why → refusal_of bs why ≡ printed bs
unfolding fit list_in listed_text printed
check-refused bs e f = rw (stops list (bs under full) list-after (rw e at f))

-- ---- A refusal that is handed on, and its line
pub prints-none : {bs : List ℕ} {why : Refusal} {t : Text} → refusal_of bs why ≡ printed bs → Prints bs t t (Err why)
prints-none e = record { all = tt; refused = e; left = nothing _ }

pub prints-line : {bs : List ℕ} {why : Refusal} {a b c : Text} → Prints bs a b (Err why) → LaysWithin 780 (refusal_of bs why) b c → LaysWithin 409600 (printed bs) a c
prints-line p q = wider (omega arith) p.refused (within q.laid.few (then p.left (lays q)))

-- ---- and by the answers to the questions on a book that passed, which are those on bytes
module _ {bs : List ℕ} {b : CheckedBook} (x : BookPassed (bs under full) b) {old new : List ℕ} {r : Answer} where
  pub marks-handed : (l : List ℕ) → HandedAs (marks_over (book_of b) l) old new r → HandedAs (marks_asked bs l) old new r
  marks-handed l h = handed-as (answered (λ c. marks_over c l) (bs under full) x.is) h

  pub list-handed : HandedAs (list (book_of b)) old new r → HandedAs (list_asked bs) old new r
  list-handed h = handed-as (answered list (bs under full) x.is) h

module _ (bs l : List ℕ) {old new : List ℕ} {r : Answer} (h : HandedAs (marks_asked bs l) old new r) (n : 1024 ≡ length old) where
  pub marks-refused : {why : Refusal} → r ≡ Err why → refusal_of bs why ≡ marked_text bs l (marks_in bs l)
  unfolding marks_in marked_text
  marks-refused e = rw (refused-is h n e)

  pub marks-given : {count : ℕ} → r ≡ Ok count → marked_text bs l (given (take count new)) ≡ marked_text bs l (marks_in bs l)
  unfolding marks_in
  marks-given e = rw (given-is h n e)

module _ (bs : List ℕ) {old new : List ℕ} {r : Answer} (h : HandedAs (list_asked bs) old new r) (n : 512 ≡ length old) where
  pub list-refused : {why : Refusal} → r ≡ Err why → refusal_of bs why ≡ printed bs
  unfolding list_in listed_text printed
  list-refused e = rw (refused-is h n e)

  pub list-given : {count : ℕ} → r ≡ Ok count → marked_text bs (take count new) (marks_in bs (take count new)) ≡ printed bs
  unfolding list_in listed_text printed
  list-given e = rw (given-is h n e)
