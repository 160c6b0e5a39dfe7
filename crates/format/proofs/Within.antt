-- Laws of limits. Assumes nothing.
--     within-says, over-says                   what the test says, passed or failed
--     within-within, clamped-twice             limits within limits; limits as they count
--     fits-full, clamped-says, within-clamped  a book that fits is within the figures, so that it needs no clamp
use mathlib.Core.Path.{◌≡◌, subst}
use mathlib.Core.Logic.{◌↔◌, inl, inr}
use mathlib.Core.Bool.{false}
use Prim.Native.Nat.{◌≤◌}
use native.Mathlib.Nat.{min-le_right, min-eq_left}
use native.Mathlib.Decide.{dec_le}
use native.Mathlib.Omega.{arith}
use lib.Dec.{T}
use Rattle.format.specs.declared.Limits.{Limits}
use Rattle.format.specs.Book.{Book}
use Rattle.format.specs.Fits.{max_names, max_nodes, max_definitions, Fits}
use Rattle.format.specs.Within.{full, clamped, size_of, Within, within, Over}
use Rattle.format.proofs.Logic.{is-false, same-test, says}
use Rattle.format.proofs.Encoded.{fit-parts}

module _ (l m : Limits) where
  pub within-says : T (within l m) ↔ Within l m
  unfolding within
  within-says = (
    λ t. let p = simp says at t in record { names = p.0.0; nodes = p.0.1; definitions = p.1 },
    λ w. simp says ((w.names, w.nodes), w.definitions),
  )

  over-not : Over l m → Within l m → ⊥
  over-not (inl x) w = omega (arith, w.names)
  over-not (inr (inl x)) w = omega (arith, w.nodes)
  over-not (inr (inr x)) w = omega (arith, w.definitions)

  pub over-says : (within l m ≡ false) ↔ Over l m
  over-says = (λ e. go (dec_le l.names m.names) (dec_le l.nodes m.nodes) (dec_le l.definitions m.definitions) e, λ o. is-false (within l m) (λ t. over-not o (within-says.0 t)))
    where
      go : Dec (l.names ≤ m.names) → Dec (l.nodes ≤ m.nodes) → Dec (l.definitions ≤ m.definitions) → within l m ≡ false → Over l m
      go (no n) _ _ e = inl (omega arith)
      go (yes a) (no n) _ e = inr (inl (omega arith))
      go (yes a) (yes b) (no n) e = inr (inr (omega arith))
      go (yes a) (yes b) (yes d) e = absurd (subst T e (within-says.1 record { names = a; nodes = b; definitions = d }))

pub within-within : {k l m : Limits} → Within k l → Within l m → Within k m
within-within v w = record {
  names = omega (arith, v.names, w.names);
  nodes = omega (arith, v.nodes, w.nodes);
  definitions = omega (arith, v.definitions, w.definitions);
}

pub clamped-twice : (l : Limits) → clamped (clamped l) ≡ clamped l
clamped-twice l = rw (min-eq_left (min-le_right l.names max_names), min-eq_left (min-le_right l.nodes max_nodes), min-eq_left (min-le_right l.definitions max_definitions))

module _ (b : Book) (fits : Fits b) where
  pub fits-full : Within (size_of b) full
  fits-full = let p = fit-parts fits in record { names = p.few_names; nodes = p.few_nodes; definitions = p.few_definitions }

  pub clamped-says : (l : Limits) → Within (size_of b) (clamped l) ↔ Within (size_of b) l
  clamped-says l = let f = fits-full in (
    λ w. record { names = omega (arith, w.names); nodes = omega (arith, w.nodes); definitions = omega (arith, w.definitions) },
    λ w. record {
      names = omega (arith, w.names, f.names);
      nodes = omega (arith, w.nodes, f.nodes);
      definitions = omega (arith, w.definitions, f.definitions);
    },
  )

  pub within-clamped : (l : Limits) → within (size_of b) (clamped l) ≡ within (size_of b) l
  within-clamped l =
      let x = within-says (size_of b) (clamped l) in
      let y = within-says (size_of b) l in
      let z = clamped-says l in
      same-test (within (size_of b) (clamped l)) (within (size_of b) l) (λ t. y.1 (z.0 (x.0 t)), λ t. x.1 (z.1 (y.0 t)))
