-- Entries that are given, or needed, are few enough for a code: those of every question are, by the `..-bytes-most` of its room in the crate
-- `listing`. Assumes nothing.
use mathlib.Core.Path.{◌≡◌, refl, ap}
use mathlib.Core.Logic.{inl, inr}
use mathlib.Core.List.{List}
use Prim.Native.Nat.{ℕ, ◌≤◌, ◌<◌}
use native.Mathlib.Omega.{arith}
use Rattle.refusals.specs.declared.Refusal.{Refusal}
use Rattle.refusals.specs.declared.Refusal.TheVariants.{Short}
use Rattle.refusals.specs.Refusal.{needed_of}
use Rattle.refusals.specs.Outcome.{Outcome, refused, given}
use Rattle.refusals.specs.Handed.{answer_of}
use Rattle.refusals.proofs.Refusals.{needed-short}
use Rattle.listing.specs.Room.{Most}
use Rattle.codes.specs.Coded.{Below}

module _ {A : Type 0} (unit most : ℕ) (less : most < unit) where
  needs : (r : Refusal) → ((k : ℕ) → ◌≡◌ {A = Outcome (List A)} (refused r) (refused (Short k)) → k ≤ most) → needed_of r < unit
  needs r h = elim (needed-short r) [ inl e ↦ omega (arith, e) | inr e ↦ omega (arith, h (needed_of r) (ap refused e)) ]

  pub most-below : (o : Outcome (List A)) → Most most o → Below unit (answer_of o)
  unfolding answer_of
  most-below (refused r) m = needs r m.needed
  most-below (given l) m = omega (arith, m.entries l refl)
