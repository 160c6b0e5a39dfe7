-- How many values the type at a node has, by the number of its kind. Assumes nothing.
--     of-primitive, named, unnamed, of-opt, of-vec, of-record, of-variant, of-other
use mathlib.Core.Path.{◌≡◌, refl, sym, ap, ◌∙◌}
use mathlib.Core.Logic.{◌⊎◌, inl, inr}
use mathlib.Core.List.{List, [], ◌∷◌}
use Prim.Native.Nat.{ℕ, zero, suc, ◌+◌, ◌-◌, ◌^◌, ◌≤◌, ◌<◌}
use native.Mathlib.Omega.{arith}
use native.Mathlib.Decide.{ℕ_discrete}
use borrow.Author.Tests.{ne_eqb}
use lib.ListN.{length, get_or}
use Rattle.std.specs.Prelude.{min}
use Rattle.format.specs.Node.{Kind, InitT}
use Rattle.format.specs.Layout.{row_at, node_of, kind_of, kinds}
use Rattle.listing.specs.Values.{prim_size, size_values, capped, sum, product, first_of, kind_values}
use Rattle.inhabitants.specs.Waiting.{within, kind_at}
use Rattle.inhabitants.specs.Counting.{numbers_of, root_number, number_at}
use Rattle.inhabitants.proofs.counting.Types.{capped-saturated}

-- The table of the code.
abbrev pub of_primitives : List ℕ
of_primitives =
    1 ∷ 2 ∷ 4294967296 ∷ 4294967296 ∷ 256 ∷ 65536 ∷ 4294967296 ∷ 4294967296 ∷ 256 ∷ 65536 ∷ 4294967296 ∷ 4294967296
    ∷ 4294967296 ∷ 4294967296 ∷ 4294967296 ∷ 1 ∷ 0 ∷ 4294967296 ∷ []

-- Numbers in the order of kinds.
module _ (number : Kind → ℕ) where
  abbrev Agree : List ℕ → List Kind → Type 0
  Agree [] ks = Unit {0}
  Agree (x ∷ l) [] = ⊥
  Agree (x ∷ l) (k ∷ ks) = (x ≡ number k) × Agree l ks

  agreed : (l : List ℕ) (ks : List Kind) → Agree l ks → (k : ℕ) → k < length l → get_or l k 0 ≡ number (get_or ks k InitT)
  agreed [] ks a k h = absurd (omega arith)
  agreed (x ∷ l) [] a k h = absurd a
  agreed (x ∷ l) (y ∷ ks) a zero h = a.0
  agreed (x ∷ l) (y ∷ ks) a (suc k) h = agreed l ks a.1 k (omega arith)

module _ (ns roots numbers : List ℕ) (n : ℕ) where
  abbrev inner : List ℕ
  inner = numbers_of numbers (within ns n)

  abbrev by-kind : Kind → ℕ
  by-kind k = kind_values (root_number roots numbers) k inner

  is-kind : {k : ℕ} → kind_at ns n ≡ k → number_at ns roots numbers n ≡ by-kind (kind_of k (row_at ns n).value)
  unfolding number_at node_of
  is-kind e = ap (λ (k : ℕ). by-kind (kind_of k (row_at ns n).value)) e

  pub of-primitive : {k : ℕ} → kind_at ns n ≡ k → k < 18 →
      get_or of_primitives k 0 ≡ number_at ns roots numbers n
  unfolding kind_of kinds kind_values prim_size size_values capped
  of-primitive {k} e h =
      agreed by-kind of_primitives (kinds (row_at ns n).value)
      (refl, (refl, (refl, (refl, (refl, (refl, (refl, (refl, (refl, (refl, (refl, (refl, (refl, (refl, (refl, (refl, (refl, (refl, tt)))))))))))))))))) k h
      ∙ sym (is-kind e)

  module _ (k : kind_at ns n ≡ 18) {name : ℕ} (is : name ≡ (row_at ns n).value) where
    of-name : root_number roots numbers name ≡ number_at ns roots numbers n
    unfolding kind_of kinds kind_values
    of-name = ap (root_number roots numbers) is ∙ sym (is-kind k)

    pub named : {root : ℕ} → root ≡ get_or roots name 65535 → (root ≡ 65535 → ⊥) → get_or numbers root 0 ≡ number_at ns roots numbers n
    unfolding root_number
    named {root} e some = rw (← of-name, ← e, ne_eqb root 65535 some) refl

    pub unnamed : get_or roots name 65535 ≡ 65535 → 0 ≡ number_at ns roots numbers n
    unfolding root_number
    unnamed e = rw (← of-name, e) refl

  pub of-opt : kind_at ns n ≡ 19 → capped (min (first_of inner + 1) (2 ^ 64 - 1)) ≡ number_at ns roots numbers n
  unfolding kind_of kinds kind_values
  of-opt e = capped-saturated (first_of inner + 1) ∙ ap capped (omega arith) ∙ sym (is-kind e)

  pub of-vec-none : kind_at ns n ≡ 20 → first_of inner ≡ 0 → 1 ≡ number_at ns roots numbers n
  unfolding kind_of kinds kind_values
  of-vec-none e z = rw (is-kind e, z) refl

  pub of-vec : kind_at ns n ≡ 20 → (first_of inner ≡ 0 → ⊥) → 4294967296 ≡ number_at ns roots numbers n
  unfolding kind_of kinds kind_values
  of-vec e z = rw (is-kind e, ne_eqb (first_of inner) 0 z) refl

  pub of-record : kind_at ns n ≡ 21 → capped (product inner) ≡ number_at ns roots numbers n
  unfolding kind_of kinds kind_values
  of-record e = sym (is-kind e)

  pub of-variant : kind_at ns n ≡ 22 → capped (sum inner) ≡ number_at ns roots numbers n
  unfolding kind_of kinds kind_values
  of-variant e = sym (is-kind e)

  pub of-other : {k : ℕ} → kind_at ns n ≡ k → 23 ≤ k → k < 27 → 4294967296 ≡ number_at ns roots numbers n
  unfolding kind_of kinds kind_values
  of-other {k} e l h = go which
    where
      which : (k ≡ 23) ⊎ (k ≡ 24) ⊎ (k ≡ 25) ⊎ (k ≡ 26)
      which = go-by (ℕ_discrete k 23) (ℕ_discrete k 24) (ℕ_discrete k 25)
        where
          go-by : Dec (k ≡ 23) → Dec (k ≡ 24) → Dec (k ≡ 25) → (k ≡ 23) ⊎ (k ≡ 24) ⊎ (k ≡ 25) ⊎ (k ≡ 26)
          go-by (yes a) b c = inl a
          go-by (no a) (yes b) c = inr (inl b)
          go-by (no a) (no b) (yes c) = inr (inr (inl c))
          go-by (no a) (no b) (no c) = inr (inr (inr (omega arith)))

      go : (k ≡ 23) ⊎ (k ≡ 24) ⊎ (k ≡ 25) ⊎ (k ≡ 26) → 4294967296 ≡ number_at ns roots numbers n
      go (inl a) = sym (is-kind (e ∙ a))
      go (inr (inl a)) = sym (is-kind (e ∙ a))
      go (inr (inr (inl a))) = sym (is-kind (e ∙ a))
      go (inr (inr (inr a))) = sym (is-kind (e ∙ a))
