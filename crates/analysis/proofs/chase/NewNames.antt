-- What the test for a new name tells of a node. Assumes nothing.
use mathlib.Core.Path.{◌≡◌, refl, sym, ap, ◌∙◌}
use mathlib.Core.Bool.{Bool, true, false, not, ◌&&◌}
use mathlib.Core.List.{List}
use Prim.Native.Nat.{ℕ}
use borrow.Author.Tests.{eqb-true, eq-eqb, not-true, not-false}
use lib.Dec.{eqb}
use Rattle.format.specs.Layout.{row_at}
use Rattle.format.proofs.Logic.{clash}
use Rattle.book.specs.Tables.{is_set}
use Rattle.analysis.specs.Walking.{is_new}

pub new-kind : (ns seen : List ℕ) (n : ℕ) → is_new ns seen n ≡ true → (row_at ns n).kind ≡ 18
new-kind ns seen n e = go (eqb (row_at ns n).kind 18) (not (is_set seen (row_at ns n).value)) refl e
  where
    go : (a b : Bool) → eqb (row_at ns n).kind 18 ≡ a → (a && b) ≡ true → (row_at ns n).kind ≡ 18
    go true b q h = eqb-true (row_at ns n).kind 18 q
    go false b q h = clash cc

pub new-unset : (ns seen : List ℕ) (n : ℕ) → is_new ns seen n ≡ true → is_set seen (row_at ns n).value ≡ false
new-unset ns seen n e = go (eqb (row_at ns n).kind 18) e
  where
    go : (a : Bool) → (a && not (is_set seen (row_at ns n).value)) ≡ true → is_set seen (row_at ns n).value ≡ false
    go true h = not-true _ h
    go false h = clash cc

pub old-set : (ns seen : List ℕ) (n : ℕ) → is_new ns seen n ≡ false → (row_at ns n).kind ≡ 18 → is_set seen (row_at ns n).value ≡ true
old-set ns seen n e k = not-false _ (ap (λ (b : Bool). b && not (is_set seen (row_at ns n).value)) (sym (eq-eqb (row_at ns n).kind 18 k)) ∙ e)
