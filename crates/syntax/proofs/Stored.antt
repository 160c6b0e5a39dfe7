-- Stored trees: classes and services by their kind, and trees that stand beside each other. Assumes nothing.
use mathlib.Core.Path.{◌≡◌, refl, sym, ap, ap₂, subst, ◌∙◌}
use mathlib.Core.Bool.{true, false}
use mathlib.Core.List.{List, ◌++◌}
use Prim.Native.Nat.{ℕ, ◌+◌, ◌-◌}
use native.Mathlib.Omega.{arith}
use lib.Dec.{eqb}
use Rattle.format.specs.Forest.{beside, map_forest}
use Rattle.format.specs.Encode.{Row}
use Rattle.format.specs.Layout.{row_at, run, build, kinds, kind_of, node_of, row_trees, siblings}
use Rattle.format.specs.Rules.{Sized}
use Rattle.format.specs.Whole.{Whole, WholeAt, tree_at}
use Rattle.format.proofs.Lists.{run-append}
use Rattle.format.proofs.Trees.{Sized-beside, map-beside}
use Rattle.format.proofs.Rows.{preorder-row_trees, build-append}
use Rattle.format.proofs.References.{kind-alone}
use Rattle.format.proofs.Stored.{tree-opens}
use Rattle.judgement.specs.Environment.{is_serv_kind, kids_of}
use Rattle.judgement.specs.Aliases.{ends, root_passes, methods_at}
use Rattle.judgement.specs.Actor.{is_class_kind, is_class}
use Rattle.judgement.proofs.Methods.{served-methods}
use Rattle.environment.proofs.FuncEnds.{as-test, serv-kind}

-- ---- a kind by its number
pub class-kind : (k v : ℕ) → is_class_kind (kind_of k v) ≡ eqb k 25
unfolding is_class_kind kinds
class-kind k v = kind-alone is_class_kind false true 25 v (omega arith) refl refl k ∙ as-test (eqb k 25)

-- ---- a stored tree
module _ {ns : List ℕ} {n : ℕ} (w : WholeAt ns n) where
  pub tree-class : is_class (tree_at ns n) ≡ eqb (row_at ns n).kind 25
  unfolding is_class node_of
  tree-class = rw (tree-opens w) (class-kind (row_at ns n).kind (row_at ns n).value)

  pub tree-kids : kids_of (tree_at ns n) ≡ siblings ns (n + 1) (n + (row_at ns n).size)
  unfolding kids_of
  tree-kids = rw (tree-opens w)

  pub tree-service : root_passes is_serv_kind (ends (tree_at ns n)) ≡ eqb (row_at ns n).kind 24
  unfolding root_passes node_of
  tree-service = rw (tree-opens w) (serv-kind (row_at ns n).kind (row_at ns n).value)

  pub tree-methods : (row_at ns n).kind ≡ 24 → kids_of (tree_at ns n) ≡ methods_at (ends (tree_at ns n))
  tree-methods k = sym (served-methods (tree_at ns n) (tree-service ∙ rw k))

-- ---- trees beside each other
module _ {ns : List ℕ} {a b c : ℕ} (u : Whole ns a b) (v : Whole ns b c) where
  trees-join : row_trees ns a c ≡ beside (row_trees ns a b) (row_trees ns b c)
  unfolding row_trees
  trees-join =
      let m : ℕ = b - a in
      let n : ℕ = c - b in
      let total : c - a ≡ m + n = omega (arith, u.ordered, v.ordered) in
      let next : a + m ≡ b = omega (arith, u.ordered) in
      ap build
      (ap (run (row_at ns) a) total
      ∙ run-append (row_at ns) a m n
      ∙ ap₂ (λ (l : List Row) (z : ℕ). l ++ run (row_at ns) z n) (sym (preorder-row_trees ns a b)) next)
      ∙ build-append (row_trees ns a b) (run (row_at ns) b n) u.sized

  pub whole-join : Whole ns a c
  whole-join = record { ordered = omega (arith, u.ordered, v.ordered); within = v.within; sized = subst Sized (sym trees-join) (Sized-beside (row_trees ns a b) (row_trees ns b c) u.sized v.sized) }

  pub siblings-join : siblings ns a c ≡ beside (siblings ns a b) (siblings ns b c)
  unfolding siblings
  siblings-join = ap (map_forest node_of) trees-join ∙ map-beside node_of (row_trees ns a b) (row_trees ns b c)
