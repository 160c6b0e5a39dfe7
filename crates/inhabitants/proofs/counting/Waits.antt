-- What a node waits for, to be counted. Assumes nothing.
--     wait-none, wait-by         a node that does not fill waits for nothing, another by its kind
--     after-name, after-parts, after-none   by kinds
--     waits-cases                which kind waits for what
use mathlib.Core.Path.{◌≡◌, refl}
use mathlib.Core.Bool.{true, false}
use mathlib.Core.Logic.{◌⊎◌, inl, inr}
use mathlib.Core.List.{List}
use Prim.Native.Nat.{ℕ}
use borrow.Author.Tests.{ne_eqb}
use lib.Dec.{eqb}
use lib.ListN.{get_or}
use Rattle.inhabitants.specs.declared.waiting.Wait.TheVariants.{Nothing, All, Definition}
use Rattle.inhabitants.specs.Waiting.{kind_at}
use Rattle.inhabitants.specs.Counting.{counted_after, counting_wait}

module _ (left ns : List ℕ) (n : ℕ) where
  pub wait-none : eqb (get_or left n 0) 0 ≡ false → counting_wait left ns n ≡ Nothing
  unfolding counting_wait
  wait-none e = rw e refl

  pub wait-by : eqb (get_or left n 0) 0 ≡ true → counting_wait left ns n ≡ counted_after (kind_at ns n)
  unfolding counting_wait
  wait-by e = rw e refl

pub after-name : {k : ℕ} → k ≡ 18 → counted_after k ≡ Definition
unfolding counted_after
after-name e = rw e refl

-- The kinds of types that are counted after all that are within them.
abbrev pub OfParts : ℕ → Type 0
OfParts k = (k ≡ 19) ⊎ ((k ≡ 21) ⊎ (k ≡ 22))

pub after-parts : {k : ℕ} → OfParts k → counted_after k ≡ All
unfolding counted_after
after-parts (inl e) = rw e refl
after-parts (inr (inl e)) = rw e refl
after-parts (inr (inr e)) = rw e refl

pub after-none : {k : ℕ} → (k ≡ 18 → ⊥) → (OfParts k → ⊥) → counted_after k ≡ Nothing
unfolding counted_after
after-none {k} a b = rw (ne_eqb k 18 a, ne_eqb k 19 (λ e. b (inl e)), ne_eqb k 21 (λ e. b (inr (inl e))), ne_eqb k 22 (λ e. b (inr (inr e)))) refl
