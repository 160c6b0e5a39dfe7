-- What the functions that are called ensure, as the text of a refusal. Assumes nothing.
use mathlib.Core.Path.{◌≡◌, sym, ◌∙◌}
use mathlib.Core.Bool.{Bool, true, false, cond}
use mathlib.Core.List.{List, ◌++◌}
use Prim.Native.Nat.{ℕ, ◌<◌}
use native.Mathlib.Omega.{arith}
use lib.Dec.{ltb}
use Rattle.std.specs.Prelude.{Option, Some, None, MatchOption, is_some, unwrap_or}
use lib.ListN.{length, length-append}
use Rattle.refusals.specs.Refusal.{number_of, names_of, name_of}
use Rattle.refusals.proofs.Refusals.{number-few}
use Rattle.refusals.specs.declared.Refusal.{Refusal}
use Rattle.format.specs.Layout.{name_in}
use Rattle.book.specs.declared.kinds.Contents.{Contents}
use Rattle.book.specs.Reading.{reading}
use Rattle.book.proofs.Named.{broken-of, book-of, names-are}
use Rattle.print.specs.Ascii.{ascii}
use Rattle.print.specs.declared.Text.{Text}
use Rattle.print.specs.Laid.{Lays, LaysWithin}
use Rattle.print.specs.Quoted.{quoted}
use Rattle.print.specs.Decimal.{decimal}
use Rattle.print.specs.Refused.{in_table, name_or_number, named_or_dash, refusal_of}
use Rattle.print.proofs.Lays.{alias, then, within, lays}
use Rattle.print.proofs.Laws.{decimal-length, named-length}

-- ---- The table of names: none of a broken book, and that of a whole one
pub table-is : (bs : List ℕ) (n : ℕ) (r : Option Contents) {t : Bool} → r ≡ reading bs → MatchOption r (t ≡ false) (λ c. t ≡ ltb n c.names) → t ≡ in_table bs n
unfolding in_table
table-is bs n None e h = rw (broken-of bs e) h
table-is bs n (Some c) e h = let o = book-of bs c e in rw (o.laid, names-are o) h

-- ---- A number that is named
module _ (bs : List ℕ) (n : ℕ) (h : n < 65536) {t : Bool} (e : t ≡ in_table bs n) {a b : Text} where
  pub name-in : {bytes : List ℕ} → t ≡ true → bytes ≡ name_in bs n → Lays (quoted bytes) a b → LaysWithin 768 (name_or_number bs n) a b
  unfolding name_or_number
  name-in f g p = within (named-length bs n h) (alias (rw (g, sym e ∙ f)) p)

  pub name-out : t ≡ false → Lays (decimal n) a b → LaysWithin 768 (name_or_number bs n) a b
  unfolding name_or_number
  name-out f p = within (named-length bs n h) (alias (rw (sym e ∙ f)) p)

-- ---- The line
named-is : (bs : List ℕ) (why : Refusal) (t : Bool) {o : Option ℕ} → o ≡ cond t (Some (name_of why)) None → named_or_dash (is_some o) bs (unwrap_or o 65535) ≡ named_or_dash t bs (name_of why)
unfolding named_or_dash
named-is bs why true e = rw e
named-is bs why false e = rw e

refusal-length : (bs : List ℕ) (why : Refusal) → length (named_or_dash (names_of why) bs (name_of why)) < 768 → length (refusal_of bs why) < 780
unfolding refusal_of
refusal-length bs why h = simp length-append (omega (arith, decimal-length 1 (number_of why) (number-few why), h))

module _ (bs : List ℕ) (why : Refusal) {number : ℕ} {o : Option ℕ} (e : number ≡ number_of why) (f : o ≡ cond (names_of why) (Some (name_of why)) None) {a b c d : Text} where
  pub line-laid : Lays (ascii "refused " ++ decimal number ++ ascii " ") a b → LaysWithin 768 (named_or_dash (is_some o) bs (unwrap_or o 65535)) b c → Lays (ascii "\n") c d → LaysWithin 780 (refusal_of bs why) a d
  unfolding refusal_of
  line-laid p q r =
      let named = rw (named-is bs why (names_of why) f) at q in
      within (refusal-length bs why named.laid.few) (then (then (rw e at p) (lays named)) r)
