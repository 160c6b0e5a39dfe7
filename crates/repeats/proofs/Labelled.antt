-- Which kinds have labels below, and that keys say when two labels are one. Assumes nothing.
use mathlib.Core.Path.{◌≡◌, refl, sym, ap, ◌∙◌}
use mathlib.Core.Logic.{inl, inr}
use mathlib.Core.Bool.{Bool, true, false, ◌&&◌, false≢true}
use mathlib.Core.List.{List}
use Prim.Native.Nat.{ℕ, ◌<◌}
use native.Mathlib.Decide.{ℕ_discrete}
use borrow.Author.Tests.{ne_eqb}
use lib.Dec.{ltb}
use Rattle.format.specs.Node.{Labelled, kind_number}
use Rattle.format.specs.Encode.{Row}
use Rattle.format.specs.Layout.{kinds, kind_of}
use Rattle.format.specs.Repeats.{OneLabel, fields, methods}
use Rattle.format.proofs.Nodes.{kind-number}
use Rattle.format.specs.Rules.{below_kind}
use Rattle.repeats.specs.Keys.{key_of, labels_below, is_parent}

pub has-labels : (r : Row) → is_parent r ≡ true → labels_below r.kind ≡ true
unfolding is_parent
has-labels r t = go (ltb 2 r.size) t
  where
    go : (b : Bool) → (b && labels_below r.kind) ≡ true → labels_below r.kind ≡ true
    go true e = e
    go false e = absurd (false≢true e)

module _ (names : List (List ℕ)) (k v : ℕ) {l m : Labelled} where
  pub one-key : k < 27 → OneLabel names (kind_of k v) l m → (labels_below k ≡ true) × (key_of (below_kind k) names l ≡ key_of (below_kind k) names m)
  unfolding kind_number labels_below below_kind
  one-key h (fields (inl e) q) = let n : k ≡ 21 = sym (kind-number k v h) ∙ ap kind_number e in rw n (refl, q)
  one-key h (fields (inr e) q) = let n : k ≡ 22 = sym (kind-number k v h) ∙ ap kind_number e in rw n (refl, q)
  one-key h (methods e q) = let n : k ≡ 24 = sym (kind-number k v h) ∙ ap kind_number e in rw n (refl, q)

  pub key-one : labels_below k ≡ true → key_of (below_kind k) names l ≡ key_of (below_kind k) names m → OneLabel names (kind_of k v) l m
  unfolding kind_of kinds labels_below below_kind
  key-one t q = go (ℕ_discrete k 21) (ℕ_discrete k 22) (ℕ_discrete k 24) q
    where
      go : Dec (k ≡ 21) → Dec (k ≡ 22) → Dec (k ≡ 24) → key_of (below_kind k) names l ≡ key_of (below_kind k) names m → OneLabel names (kind_of k v) l m
      go (yes a) b c = rw a (λ q. fields (inl refl) q)
      go (no a) (yes b) c = rw b (λ q. fields (inr refl) q)
      go (no a) (no b) (yes c) = rw c (λ q. methods refl q)
      go (no a) (no b) (no c) = absurd (false≢true (rw (ne_eqb k 21 a, ne_eqb k 22 b, ne_eqb k 24 c) at t))
