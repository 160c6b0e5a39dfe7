-- Laws of a buffer with its place: nothing, one byte, one text after another, and all that was laid. Assumes nothing.
use mathlib.Core.Path.{◌≡◌, refl, ◌∙◌}
use mathlib.Core.List.{List, [], ◌∷◌, ◌++◌}
use Prim.Native.Nat.{ℕ, ◌+◌, ◌≤◌, ◌<◌}
use native.Mathlib.Numerals.{add-one}
use native.Mathlib.Omega.{arith}
use lib.ListN.{length, get_or, take}
use lib.Seq.{take-suc}
use Rattle.print.specs.declared.Text.{Text}
use Rattle.print.specs.Laid.{Lays, LaysWithin}
use Rattle.print.proofs.Laid as laid

pub nothing : (t : Text) → Lays [] t t
nothing t = record { laid = laid.nothing _ _; same = refl }

pub then : {x y : List ℕ} {a b c : Text} → Lays x a b → Lays y b c → Lays (x ++ y) a c
then p q = record { laid = laid.then p.laid q.laid; same = q.same ∙ p.same }

-- The same text in other words.
pub alias : {x y : List ℕ} {a b : Text} → x ≡ y → Lays x a b → Lays y a b
alias e p = rw e at p

-- A text that is known to be short, and back.
pub within : {x : List ℕ} {a b : Text} {k : ℕ} → length x < k → Lays x a b → LaysWithin k x a b
within h p = record { laid = record { laid = p.laid; few = h }; same = p.same }

pub lays : {x : List ℕ} {a b : Text} {k : ℕ} → LaysWithin k x a b → Lays x a b
lays p = record { laid = p.laid.laid; same = p.same }

pub wider : {x y : List ℕ} {a b : Text} {j k : ℕ} → j ≤ k → x ≡ y → LaysWithin j x a b → LaysWithin k y a b
wider h e p = record { laid = laid.wider h e p.laid; same = p.same }

-- One byte more of a text.
pub more : {a b c : Text} (text : List ℕ) (i : ℕ) → i < length text → Lays (take i text) a b → Lays (get_or text i 0 ∷ []) b c → Lays (take (i + 1) text) a c
more text i h p q = rw (add-one i, take-suc text i 0 h) (then p q)

-- From the buffer's front on, a text that is shorter than the buffer is all that was laid.
pub whole : {room : ℕ} {text part : List ℕ} {a b : Text} → room ≤ length a.out.now → a.end ≡ 0 → LaysWithin room text a b →
    part ≡ take b.end b.out.now → (part ≡ text) × (length part < room)
whole h e q f =
    let p = rw e at q.laid in
    let same = f ∙ laid.all-before p.laid (omega (arith, h, p.few)) in
    (same, rw same p.few)
