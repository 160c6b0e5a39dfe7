-- Numbers of the types within a node, one after another. Assumes nothing.
--     places-step                the first type, and those after it
--     capped-saturated           a sum or a product that saturates
--     SumLeft, sum-start, ..     the loop of `sum`: what is added up, and what is left, come to the sum of all
--     ProductLeft, ..            the same of `product`
use mathlib.Core.Path.{◌≡◌, refl, sym, ap, ◌∙◌}
use mathlib.Core.List.{List, [], ◌∷◌}
use Prim.Native.Nat.{ℕ, ◌+◌, ◌-◌, ◌*◌, ◌^◌, ◌≤◌, ◌<◌}
use native.Mathlib.Decide.{dec_lt}
use native.Mathlib.Omega.{arith}
use lib.ListN.{get_or}
use Rattle.std.specs.Prelude.{min, None}
use Rattle.std.proofs.Math.Nat.{zero-add, one-mul, mul_assoc, min-eq_left, min-eq_right}
use Rattle.listing.specs.Values.{capped, sum, product, first_of}
use Rattle.format.specs.Layout.{row_at}
use Rattle.format.proofs.Rows.{opens}
use Rattle.listing.proofs.Capped.{capped-many, capped-most, capped-same, capped-add, capped-mul}
use Rattle.book.specs.declared.walks.Siblings.{Siblings}
use Rattle.book.specs.declared.read.Node.{Node}
use Rattle.book.specs.Walks.{Over, NextTree, Walks}
use Rattle.book.proofs.Walking.{whole, here, at, last}
use Rattle.inhabitants.specs.Counting.{numbers_of}
use Rattle.inhabitants.specs.Waiting.{places_in, within}
use Rattle.inhabitants.proofs.waiting.Places.{places-on, places-done}

module _ {ns : List ℕ} {until : ℕ} {s t : Siblings} (o : Over ns until s) where
  pub places-step : {c : ℕ} {node : Node} → NextTree s c node t → places_in ns s.at until ≡ c ∷ places_in ns t.at until
  places-step x = rw (x.place, at o x) (places-on (opens (whole o) (here o x)))

  pub places-last : Walks s None t → places_in ns s.at until ≡ []
  places-last x = places-done ns (omega (arith, last o x))

-- Those of a walk over the types within a node.
pub within-of : (numbers : List ℕ) (n : ℕ) {ns : List ℕ} {size : ℕ} {s : Siblings} → Over ns (n + size) s → s.at ≡ n + 1 → size ≡ (row_at ns n).size →
    numbers_of numbers (places_in s.rows.now s.at s.until) ≡ numbers_of numbers (within ns n)
within-of numbers n o a e = rw (o.rows, o.until, a, e) refl

-- What a u64 does not hold is many anyway.
pub capped-saturated : (n : ℕ) → capped (min n (2 ^ 64 - 1)) ≡ capped n
capped-saturated n = go (dec_lt n 18446744073709551616)
  where
    go : Dec (n < 18446744073709551616) → capped (min n (2 ^ 64 - 1)) ≡ capped n
    go (yes h) = ap capped (min-eq_left {n = n} {m = 18446744073709551615} (omega arith))
    go (no h) = ap capped (min-eq_right {n = 18446744073709551615} {m = n} (omega arith)) ∙ capped-many 18446744073709551615 (omega arith) ∙ sym (capped-many n (omega arith))

-- ---- The loops
pub record SumLeft (numbers ns : List ℕ) (until : ℕ) (l : List ℕ) (total at : ℕ) : Type 0 where
  pub few : total ≤ 4294967296
  pub comes : capped (total + sum (numbers_of numbers (places_in ns at until))) ≡ capped (sum (numbers_of numbers l))

pub record ProductLeft (numbers ns : List ℕ) (until : ℕ) (l : List ℕ) (total at : ℕ) : Type 0 where
  pub few : total ≤ 4294967296
  pub comes : capped (total * product (numbers_of numbers (places_in ns at until))) ≡ capped (product (numbers_of numbers l))

module _ (numbers ns : List ℕ) (until at : ℕ) where
  pub sum-start : SumLeft numbers ns until (places_in ns at until) 0 at
  sum-start = record { few = omega arith; comes = ap capped (zero-add (sum (numbers_of numbers (places_in ns at until)))) }

  pub product-start : ProductLeft numbers ns until (places_in ns at until) 1 at
  product-start = record { few = omega arith; comes = ap capped (one-mul (product (numbers_of numbers (places_in ns at until)))) }

module _ {numbers ns : List ℕ} {until : ℕ} {l : List ℕ} {total : ℕ} {s t : Siblings} (o : Over ns until s) where
  module _ {c : ℕ} {node : Node} (x : NextTree s c node t) where
    pub sum-next : SumLeft numbers ns until l total s.at → {total' : ℕ} → total' ≡ capped (min (total + get_or numbers c 0) (2 ^ 64 - 1)) → SumLeft numbers ns until l total' t.at
    unfolding sum
    sum-next h e =
        let number = get_or numbers c 0 in
        let rest = sum (numbers_of numbers (places_in ns t.at until)) in
        record {
          few = rw e (capped-most (min (total + number) (2 ^ 64 - 1)));
          comes =
              ap (λ (n : ℕ). capped (n + rest)) (e ∙ capped-saturated (total + number))
              ∙ capped-add (total + number) rest
              ∙ ap capped (omega arith)
              ∙ ap (λ (p : List ℕ). capped (total + sum (numbers_of numbers p))) (sym (places-step o x))
              ∙ h.comes;
        }

    pub product-next : ProductLeft numbers ns until l total s.at → {total' : ℕ} → total' ≡ capped (min (total * get_or numbers c 0) (2 ^ 64 - 1)) → ProductLeft numbers ns until l total' t.at
    unfolding product
    product-next h e =
        let number = get_or numbers c 0 in
        let rest = product (numbers_of numbers (places_in ns t.at until)) in
        record {
          few = rw e (capped-most (min (total * number) (2 ^ 64 - 1)));
          comes =
              ap (λ (n : ℕ). capped (n * rest)) (e ∙ capped-saturated (total * number))
              ∙ capped-mul (total * number) rest
              ∙ ap capped (mul_assoc total number rest)
              ∙ ap (λ (p : List ℕ). capped (total * product (numbers_of numbers p))) (sym (places-step o x))
              ∙ h.comes;
        }

  pub sum-end : SumLeft numbers ns until l total s.at → Walks s None t → total ≡ capped (sum (numbers_of numbers l))
  unfolding sum
  sum-end h x =
      sym (capped-same total h.few) ∙ ap capped (omega arith) ∙ ap (λ (p : List ℕ). capped (total + sum (numbers_of numbers p))) (sym (places-last {t = t} o x)) ∙ h.comes

  pub product-end : ProductLeft numbers ns until l total s.at → Walks s None t → total ≡ capped (product (numbers_of numbers l))
  unfolding product
  product-end h x =
      sym (capped-same total h.few) ∙ ap capped (omega arith) ∙ ap (λ (p : List ℕ). capped (total * product (numbers_of numbers p))) (sym (places-last {t = t} o x)) ∙ h.comes

-- ---- The first of them
module _ (numbers : List ℕ) {ns : List ℕ} {until : ℕ} {s t : Siblings} (o : Over ns until s) where
  pub first-some : {c : ℕ} {node : Node} → NextTree s c node t → get_or numbers c 0 ≡ first_of (numbers_of numbers (places_in ns s.at until))
  unfolding first_of
  first-some x = ap (λ (p : List ℕ). first_of (numbers_of numbers p)) (sym (places-step o x))

  pub first-none : Walks s None t → 0 ≡ first_of (numbers_of numbers (places_in ns s.at until))
  unfolding first_of
  first-none x = ap (λ (p : List ℕ). first_of (numbers_of numbers p)) (sym (places-last {t = t} o x))
