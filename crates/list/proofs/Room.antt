-- How long what is printed can be: at most 512 names are listed, a name has at most 255 bytes, and a byte prints as three at most. Assumes
-- nothing.
use mathlib.Core.Path.{◌≡◌, sym, ap}
use mathlib.Core.List.{List, [], ◌∷◌}
use Prim.Native.Nat.{ℕ, suc, ◌+◌, ◌*◌, ◌≤◌, ◌<◌}
use native.Mathlib.Omega.{arith}
use native.Mathlib.Decide.{dec_le}
use borrow.Author.Tests.{le-leb, lt-leb}
use lib.ListN.{length, take, length-append}
use Rattle.format.specs.Layout.{name_in}
use Rattle.refusals.specs.Outcome.{Outcome, refused, given, fit}
use Rattle.print.specs.declared.Text.{Text}
use Rattle.print.specs.Laid.{Lays, LaysWithin}
use Rattle.print.proofs.Laws.{decimal-length, quoted-length, name-length}
use Rattle.print.proofs.Lays.{alias, within}
use Rattle.std.specs.Prelude.{Ok}
use Rattle.refusals.specs.Handed.{Answer, HandedAs}
use Rattle.list.specs.Printed.{heading, mark_of, line, lines, marks_in, marked_text, marks_asked}
use Rattle.list.proofs.Answered.{given-is}
use Rattle.list.proofs.Listed.{marks-given}

-- ---- The lines
heading-length : (a b : ℕ) → a ≤ 512 → b ≤ 1024 → length (heading a b) ≤ 21
unfolding heading
heading-length a b h k = simp length-append (omega (arith, decimal-length 2 a (omega arith), decimal-length 3 b (omega arith)))

line-length : (p mark : ℕ) (name : List ℕ) → p < 1000 → length (line p mark name) ≤ 9 + 3 * length name
unfolding line
line-length p mark name h = simp length-append (omega (arith, decimal-length 2 p h, quoted-length name))

lines-length : (bs marked : List ℕ) (p : ℕ) (l : List ℕ) → p + length l ≤ 1000 → length (lines bs marked p l) ≤ 774 * length l
unfolding lines
lines-length bs marked p [] h = omega arith
lines-length bs marked p (n ∷ l) h =
    omega (
      arith,
      length-append (line p (mark_of marked n) (name_in bs n)) (lines bs marked (suc p) l),
      line-length p (mark_of marked n) (name_in bs n) (omega arith),
      name-length bs n,
      lines-length bs marked (suc p) l (omega arith),
    )

-- ---- All of it: what is given fits
abbrev length_of : Outcome (List ℕ) → ℕ
length_of (refused r) = 0
length_of (given l) = length l

fit-length : (places : ℕ) (o : Outcome (List ℕ)) → length_of (fit places o) ≤ places
unfolding fit
fit-length places (refused r) = omega arith
fit-length places (given l) = go (dec_le (length l) places)
  where
    go : Dec (length l ≤ places) → length_of (fit places (given l)) ≤ places
    go (yes h) = rw (le-leb (length l) places h) h
    go (no h) = rw (lt-leb (length l) places (omega arith)) (omega arith)

pub given-few : {o : Outcome (List ℕ)} {old new : List ℕ} {r : Answer} (h : HandedAs o old new r) {places : ℕ} (n : places ≡ length old) {count : ℕ} → r ≡ Ok count → length (take count new) ≤ places
given-few {o} h {places} n e = omega (arith, fit-length places o, ap length_of (given-is h n e))

given-length : (bs l marked : List ℕ) → length l ≤ 512 → length marked ≤ 1024 → length (marked_text bs l (given marked)) < 409600
unfolding marked_text
given-length bs l marked h k =
    omega (
      arith,
      length-append (heading (length l) (length marked)) (lines bs marked 1 l),
      heading-length (length l) (length marked) h k,
      lines-length bs marked 1 l (omega arith),
    )

-- So the marks that are given are laid whole where there is that much room.
module _ (bs l : List ℕ) {old new : List ℕ} {r : Answer} (h : HandedAs (marks_asked bs l) old new r) (n : 1024 ≡ length old) where
  pub marks-laid : {count : ℕ} {a b : Text} → length l ≤ 512 → r ≡ Ok count → Lays (marked_text bs l (given (take count new))) a b →
      LaysWithin 409600 (marked_text bs l (marks_in bs l)) a b
  marks-laid {count} f e p =
      let same = marks-given bs l h n e in
      within (rw (sym same) (given-length bs l (take count new) f (given-few h n e))) (alias same p)
