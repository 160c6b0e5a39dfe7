-- The lines of the methods one after another. Assumes nothing.
use mathlib.Core.Path.{◌≡◌, refl, sym, ◌∙◌}
use mathlib.Core.List.{List, [], ◌∷◌, ◌++◌, append_assoc, append-nil, map, map-append}
use Prim.Native.Nat.{ℕ, ◌+◌, ◌<◌}
use native.Mathlib.Numerals.{add-one}
use lib.ListN.{length, get_or, take}
use lib.Seq.{take-suc, take-length}
use Rattle.format.specs.Layout.{name_in}
use Rattle.print.specs.declared.Text.{Text}
use Rattle.print.specs.Laid.{Lays}
use Rattle.print.proofs.Lays.{nothing, then}
use Rattle.methods.specs.Printed.{name_at, line, lines}

module _ (bs : List ℕ) where
  pub lines-append : (x y : List ℕ) → lines bs (x ++ y) ≡ lines bs x ++ lines bs y
  unfolding lines
  lines-append [] y = refl
  lines-append (n ∷ x) y = rw (lines-append x y) (sym (append_assoc (line (name_in bs n)) (lines bs x) (lines bs y)))

  module _ (offered : List ℕ) where
    -- of the methods at some positions
    abbrev pub at_positions : List ℕ → List ℕ
    at_positions l = lines bs (map (name_at offered) l)

    one-more : (l : List ℕ) (i : ℕ) → i < length l →
        at_positions (take (i + 1) l) ≡ at_positions (take i l) ++ line (name_in bs (name_at offered (get_or l i 0)))
    unfolding lines
    one-more l i h =
        let n = name_at offered (get_or l i 0) in
        rw (add-one i, take-suc l i 0 h, map-append (name_at offered) (take i l) (get_or l i 0 ∷ []))
        (lines-append (map (name_at offered) (take i l)) (n ∷ []) ∙ rw (append-nil (line (name_in bs n))))

    pub lines-start : (t : Text) → Lays (at_positions []) t t
    unfolding lines
    lines-start t = nothing t

    pub lines-on : (l : List ℕ) (i : ℕ) {a b c : Text} → i < length l → Lays (at_positions (take i l)) a b →
        Lays (line (name_in bs (name_at offered (get_or l i 0)))) b c → Lays (at_positions (take (i + 1) l)) a c
    lines-on l i h p q = rw (one-more l i h) (then p q)

    pub lines-all : (l : List ℕ) {i : ℕ} {a b : Text} → i ≡ length l → Lays (at_positions (take i l)) a b → Lays (at_positions l) a b
    lines-all l e p = rw (e, take-length l) at p
