-- Tests and what they say. Assumes nothing.
--     both, join, both₃, join₃    two tests, and three
--     is-true, of-true, is-false  a test that passed or failed, as an equation
--     same-test                   tests that say the same
--     clash                       two constructors differ
--     says                        rules for `simp`: `simp says at h` makes statements of a test that passed, `simp says p` a test of their proofs
use mathlib.Core.Path.{◌≡◌, refl, sym, subst}
use mathlib.Core.Logic.{◌↔◌}
use mathlib.Core.Bool.{Bool, true, false, ◌&&◌}
use Prim.Native.Nat.{ℕ, ◌≤◌}
use native.Mathlib.Omega.{arith}
use lib.Dec.{T, leb, eqb, leb→le, le→leb, eqb→eq, eqb_refl}

pub both : (a b : Bool) → T (a && b) → T a × T b
both true b h = (tt, h)
both false b h = absurd h

pub join : (a b : Bool) → T a → T b → T (a && b)
join true b x y = y
join false b x y = absurd x

pub both₃ : (a b c : Bool) → T (a && b && c) → T a × T b × T c
both₃ a b c t = let h = both (a && b) c t in let g = both a b h.0 in (g.0, g.1, h.1)

pub join₃ : (a b c : Bool) → T a → T b → T c → T (a && b && c)
join₃ a b c x y z = join (a && b) c (join a b x y) z

pub is-true : (b : Bool) → T b → b ≡ true
is-true true h = refl
is-true false h = absurd h

pub of-true : (b : Bool) → b ≡ true → T b
of-true b e = subst T (sym e) tt

pub is-false : (b : Bool) → (T b → ⊥) → b ≡ false
is-false true h = absurd (h tt)
is-false false h = refl

-- tests that say the same
pub same-test : (b c : Bool) → T b ↔ T c → b ≡ c
same-test true true i = refl
same-test true false i = absurd (i.0 tt)
same-test false true i = absurd (i.1 tt)
same-test false false i = refl

-- Two constructors differ: `clash cc`, where equal ones are at hand.
pub clash : {A : Type 0} → ◌≡◌ {A = ℕ} 0 1 → A
clash e = absurd (omega arith)

pub and-says : (a b : Bool) → T (a && b) ↔ (T a × T b)
and-says a b = (both a b, λ p. join a b p.0 p.1)

-- `ltb m n` is `leb (suc m) n`
pub le-says : (m n : ℕ) → T (leb m n) ↔ (m ≤ n)
le-says m n = (leb→le m n, le→leb m n)

pub eq-says : (m n : ℕ) → T (eqb m n) ↔ (m ≡ n)
eq-says m n = (eqb→eq m n, λ e. subst (λ (k : ℕ). T (eqb m k)) e (eqb_refl m))

pub ruleset says = (and-says, le-says, eq-says)
