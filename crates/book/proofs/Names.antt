-- The loop over names: what is left of the bytes is names just where all of it is. Assumes nothing.
use mathlib.Core.Path.{◌≡◌, refl, sym, ap, subst, ◌∙◌}
use mathlib.Core.Logic.{◌↔◌}
use mathlib.Core.Bool.{Bool, true, false, ◌&&◌, false≢true}
use mathlib.Core.List.{List, [], ◌∷◌}
use Prim.Native.Nat.{ℕ, suc, ◌+◌, ◌≤◌, ◌<◌}
use native.Mathlib.Omega.{arith}
use borrow.Author.Tests.{eq-eqb}
use lib.Dec.{T, eqb, eqb→eq}
use lib.ListN.{length, take, drop, length-drop}
use Rattle.std.specs.Borrow.{Bor}
use Rattle.std.specs.Prelude.{Option, Some, None}
use Rattle.format.specs.Fits.{ascending}
use Rattle.format.specs.Layout.{names_of}
use Rattle.format.specs.Rules.{Names}
use Rattle.format.proofs.Logic.{of-true, both}
use Rattle.format.proofs.Names.{Filled, filled-none, filled-step, filled-not, names-fuel}
use Rattle.book.specs.Steps.{Tells, rises_to}
use Rattle.book.proofs.Walking.{names-cons, names-empty}

pub tells-false : {P : Type 0} → (P → ⊥) → Tells false P
tells-false n = record { holds = λ e. absurd (false≢true e); fails = λ e. n }

-- the names after the name `last` ascend
unfoldable pub rises : Option (Bor (List ℕ)) → List (List ℕ) → Bool
rises None ns = ascending ns
rises (Some last) ns = ascending (last.now ∷ ns)

rises-none : (last : Option (Bor (List ℕ))) → T (rises last [])
unfolding rises ascending
rises-none None = tt
rises-none (Some last) = tt

rises-cons : (last : Option (Bor (List ℕ))) (name : Bor (List ℕ)) (ns : List (List ℕ)) → rises last (name.now ∷ ns) ≡ (rises_to last name.now && rises (Some name) ns)
unfolding rises ascending
rises-cons None name ns = refl
rises-cons (Some last) name ns = refl

-- the bytes are the names that are left
abbrev names : List ℕ → List (List ℕ)
names bs = names_of (length bs) bs

pub record Rest (count : ℕ) (bs : List ℕ) (seen : ℕ) (last : Option (Bor (List ℕ))) : Type 0 where
  pub filled : Filled (length bs) bs
  pub counted : seen + length (names bs) ≡ count
  pub rising : T (rises last (names bs))

pub record NamesLeft (count : ℕ) (bs rest : List ℕ) (seen : ℕ) (last : Option (Bor (List ℕ))) : Type 0 where
  pub few : seen + length rest ≤ length bs
  pub up : Rest count rest seen last → Names count bs
  pub down : Names count bs → Rest count rest seen last

pub names-start : (count : ℕ) (bs : List ℕ) → NamesLeft count bs bs 0 None
unfolding rises
names-start count bs =
    record {
      few = omega arith;
      up = λ r. record { filled = r.filled; counted = omega (arith, r.counted); rising = r.rising };
      down = λ n. record { filled = n.filled; counted = omega (arith, n.counted); rising = n.rising };
    }

-- a whole name and what is after it are names just where what is after it is
filled-on : (n : ℕ) (after : List ℕ) → n ≤ length after → Filled (length (n ∷ after)) (n ∷ after) ↔ Filled (length (drop n after)) (drop n after)
filled-on n after h =
    let z : 0 + 1 + n ≡ suc n = omega arith in
    let k : names_of (length (n ∷ after)) (drop n after) ≡ names (drop n after) =
    names-fuel (length (n ∷ after)) (length (drop n after)) (drop n after) (omega (arith, length-drop n after)) (omega arith) in
    let f = filled-step (n ∷ after) 0 (length (n ∷ after)) (omega arith) (omega arith) in
    (λ x. rw k at (rw z at (f.0 x)), λ x. f.1 (rw z (rw k x)))

module _ {count : ℕ} {bs rest : List ℕ} {seen : ℕ} {last : Option (Bor (List ℕ))} (l : NamesLeft count bs rest seen last) where
  pub names-end : length rest ≡ 0 → Tells (eqb seen count) (Names count bs)
  names-end h =
      let z = names-empty rest h in
      record {
        holds = λ e.
            let c : seen ≡ count = eqb→eq seen count (of-true _ e) in
            l.up (record { filled = filled-none (length rest) rest 0 (omega arith); counted = omega (arith, ap length z); rising = rw z (rises-none last) });
        fails = λ e n. let c : seen ≡ count = omega (arith, (l.down n).counted, ap length z) in absurd (false≢true (sym e ∙ eq-eqb _ _ c));
      }

  module _ {n : ℕ} {after : List ℕ} (is : rest ≡ n ∷ after) where
    pub names-short : length after < n → Tells false (Names count bs)
    names-short h =
        tells-false (λ x. filled-not (n ∷ after) 0 (length (n ∷ after)) (omega arith) (omega arith) (subst (λ (bs : List ℕ). Filled (length bs) bs) is (l.down x).filled))

    module _ (name : Bor (List ℕ)) (next : List ℕ) (fits : n ≤ length after) (front : name.now ≡ take n after) (back : next ≡ drop n after) where
      step : names rest ≡ name.now ∷ names next
      step = rw (is, front, back) (names-cons n after)

      rising : rises last (names rest) ≡ (rises_to last name.now && rises (Some name) (names next))
      rising = ap (rises last) step ∙ rises-cons last name (names next)

      pub names-fall : rises_to last name.now ≡ false → Tells false (Names count bs)
      names-fall f = tells-false (λ x. subst T f (both _ _ (subst T rising (l.down x).rising)).0)

      pub names-on : rises_to last name.now ≡ true → NamesLeft count bs next (seen + 1) (Some name)
      names-on t =
          let f : Filled (length rest) rest ↔ Filled (length next) next = rw (is, back) (filled-on n after fits) in
          let c = ap length step in
          let r : rises last (names rest) ≡ rises (Some name) (names next) = rising ∙ rw t in
          record {
            few = omega (arith, l.few, ap length is, ap length back, length-drop n after);
            up = λ x. l.up (record { filled = f.1 x.filled; counted = omega (arith, x.counted); rising = rw r x.rising });
            down = λ x. let y = l.down x in record { filled = f.0 y.filled; counted = omega (arith, y.counted); rising = rw r at y.rising };
          }
