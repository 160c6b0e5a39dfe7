-- Laws of a quoted name: which bytes are plain, and one byte more. Assumes nothing.
use mathlib.Core.Path.{◌≡◌, refl, sym}
use mathlib.Core.Bool.{true, false}
use mathlib.Core.List.{List, [], ◌∷◌, ◌++◌, append_assoc, append-nil}
use Prim.Native.Nat.{ℕ, ◌+◌, ◌/◌, ◌%◌, ◌≤◌, ◌<◌}
use native.Mathlib.Numerals.{add-one}
use native.Mathlib.Omega.{arith}
use lib.ListN.{length, get_or, take}
use Rattle.std.proofs.lemmas.List.FromFn.{get_or-map-range_with_len}
use Rattle.hex.specs.Hex.{lower_digits, encode_lower, encode_with}
use lib.Seq.{take-suc, take_all}
use Rattle.print.specs.declared.Text.{Text}
use Rattle.print.specs.Laid.{Lays}
use Rattle.print.specs.Quoted.{plain, hex_digit, escape, escapes, quoted}
use Rattle.print.proofs.Lays.{nothing, then}

-- The digits of the library are ours.
lower-same : (d : ℕ) → d < 16 → get_or lower_digits d 0 ≡ hex_digit d
unfolding hex_digit
lower-same d h = get_or-map-range_with_len hex_digit 0 16 d d 0 h (omega arith)

-- A byte of a name is itself, or `\` and two digits.
pub escape-plain : (b : ℕ) → plain b ≡ true → b ∷ [] ≡ escape b
unfolding escape
escape-plain b e = rw e

pub escape-digits : (b : ℕ) {digits : List ℕ} → b < 256 → plain b ≡ false → digits ≡ encode_lower (b ∷ []) → 92 ∷ digits ≡ escape b
unfolding escape encode_with
escape-digits b h p e = rw (p, e, lower-same (b / 16) (omega arith), lower-same (b % 16) (omega arith))

escapes-append : (x y : List ℕ) → escapes (x ++ y) ≡ escapes x ++ escapes y
unfolding escapes
escapes-append [] y = refl
escapes-append (b ∷ x) y = rw (escapes-append x y) (sym (append_assoc (escape b) (escapes x) (escapes y)))

escapes-suc : (name : List ℕ) (i : ℕ) → i < length name → escapes (take (i + 1) name) ≡ escapes (take i name) ++ escape (get_or name i 0)
unfolding escapes
escapes-suc name i h = rw (add-one i, take-suc name i 0 h, escapes-append (take i name) (get_or name i 0 ∷ []), append-nil (escape (get_or name i 0)))

-- The bytes so far: at the start, after one byte more, and all of them between their quotes.
pub escapes-start : (t : Text) → Lays (escapes []) t t
unfolding escapes
escapes-start t = nothing t

pub escapes-on : {a b c : Text} (name : List ℕ) (i : ℕ) → i < length name → Lays (escapes (take i name)) a b → Lays (escape (get_or name i 0)) b c → Lays (escapes (take (i + 1) name)) a c
escapes-on name i h p q = rw (escapes-suc name i h) (then p q)

pub escapes-end : {a b c d : Text} (name : List ℕ) (i : ℕ) → length name ≤ i → Lays (34 ∷ []) a b → Lays (escapes (take i name)) b c → Lays (34 ∷ []) c d → Lays (quoted name) a d
unfolding quoted
escapes-end name i h p q r = then p (then (rw (take_all i name h) at q) r)
