-- Laws of a text in a buffer: nothing, one byte, and one text after another. Assumes nothing.
use mathlib.Core.Path.{◌≡◌, refl, sym, ap, ◌∙◌}
use mathlib.Core.List.{List, [], ◌∷◌, ◌++◌}
use Prim.Native.Nat.{ℕ, suc, ◌+◌, ◌-◌, ◌≤◌, ◌<◌, min}
use native.Mathlib.Nat.{add-zero}
use native.Mathlib.Omega.{arith}
use native.Mathlib.Decide.{dec_le}
use lib.ListN.{length, set, take, drop, length-append}
use lib.Seq.{sets, length-sets, sets-eq, take_at, set_out}
use Rattle.print.specs.Laid.{over, Laid, LaidWithin}

-- A buffer keeps its length.
pub length-over : (old : List ℕ) (at : ℕ) (text : List ℕ) → length (over old at text) ≡ length old
unfolding over
length-over = length-sets

-- Past its end nothing is laid.
over-past : (old : List ℕ) (at : ℕ) (text : List ℕ) → length old ≤ at → over old at text ≡ old
unfolding over
over-past old at [] h = refl
over-past old at (b ∷ text) h = rw (set_out old at b h) (over-past old (suc at) text (omega arith))

-- One text after another; past the end the place makes no difference.
over-append : (old : List ℕ) (at : ℕ) (x y : List ℕ) → over old at (x ++ y) ≡ over (over old at x) (at + length x) y
unfolding over
over-append old at [] y = rw (add-zero at)
over-append old at (b ∷ x) y = over-append (set old at b) (suc at) x y ∙ ap (λ (n : ℕ). sets (sets (set old at b) (suc at) x) n y) (omega arith)

over-place : (old : List ℕ) (at m : ℕ) (x y : List ℕ) → m ≡ at + min (length x) (length old - at) → over (over old at x) m y ≡ over (over old at x) (at + length x) y
over-place old at m x y e = go (dec_le (at + length x) (length old))
  where
    go : Dec (at + length x ≤ length old) → over (over old at x) m y ≡ over (over old at x) (at + length x) y
    go (yes h) = ap (λ (k : ℕ). over (over old at x) k y) (omega arith)
    go (no h) = over-past (over old at x) m y (omega (arith, length-over old at x)) ∙ sym (over-past (over old at x) (at + length x) y (omega (arith, length-over old at x)))

-- A function that lays texts one after another lays them all.
pub nothing : (old : List ℕ) (at : ℕ) → Laid [] old at at old
unfolding over
nothing old at = record { bytes = refl; place = omega arith }

pub then : {x y old mid new : List ℕ} {at m next : ℕ} → Laid x old at m mid → Laid y mid m next new → Laid (x ++ y) old at next new
then {x} {y} {old} {mid} {new} {at} {m} p q =
    record {
      bytes = q.bytes ∙ ap (λ (l : List ℕ). over l m y) p.bytes ∙ over-place old at m x y p.place ∙ sym (over-append old at x y);
      place = omega (arith, length-append x y, length-over old at x, ap length p.bytes);
    }

-- The same text in other words.
pub alias : {x y old new : List ℕ} {at next : ℕ} → x ≡ y → Laid x old at next new → Laid y old at next new
alias e p = rw e at p

pub wider : {x y old new : List ℕ} {at next j k : ℕ} → j ≤ k → x ≡ y → LaidWithin j x old at next new → LaidWithin k y old at next new
wider h e p = record { laid = alias e p.laid; few = omega (arith, h, p.few, ap length e) }

-- What was lent comes back as long as it was.
pub same : {x old new : List ℕ} {at next : ℕ} → Laid x old at next new → length new ≡ length old
same {x} {old} {new} {at} p = ap length p.bytes ∙ length-over old at x

-- From the buffer's first place on, what fits is all that stands before the answer.
pub all-before : {x old new : List ℕ} {next : ℕ} → Laid x old 0 next new → length x ≤ length old → take next new ≡ x
unfolding over
all-before {x} {old} {new} {next} p h =
    rw (p.bytes ∙ sets-eq x old 0 (omega arith)) (take_at x (drop (0 + length x) old) next (omega (arith, p.place)))

-- One byte, where there is a place for it and where not.
pub one : (b : ℕ) (old : List ℕ) (at : ℕ) → at < length old → Laid (b ∷ []) old at (at + 1) (set old at b)
unfolding over
one b old at h = record { bytes = refl; place = omega arith }

pub none : (b : ℕ) (old : List ℕ) (at : ℕ) → length old ≤ at → Laid (b ∷ []) old at at old
none b old at h = record { bytes = sym (over-past old at (b ∷ []) h); place = omega arith }
