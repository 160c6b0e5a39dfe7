-- The forests that rows store. Assumes nothing.
--     preorder-build, build-preorder    rows are the preorder of the forest that they store; a Sized forest is what its preorder stores
--     none, opens, closes               the trees from node i up to node e: none, or node i with its children and the trees after it
--     preorder-row_trees                 their preorder is the rows from i up to e
--     siblings-none, siblings-opens, .. the same for nodes
use mathlib.Core.Path.{◌≡◌, refl, sym, ap, ap₂, subst, ◌∙◌}
use mathlib.Core.Bool.{Bool, true, false, cond}
use mathlib.Core.List.{List, [], ◌∷◌, ◌++◌, map, append_assoc, append-nil}
use Prim.Native.Nat.{ℕ, suc, ◌+◌, ◌-◌, ◌≤◌, ◌<◌}
use native.Mathlib.Numerals.{add-one}
use native.Mathlib.Omega.{arith}
use borrow.Author.Tests.{le-leb}
use lib.Dec.{leb, leb-suc-zero}
use lib.ListN.{length, length-append}
use Rattle.format.specs.Forest.{Forest, end, tree, count, preorder, beside, map_forest}
use Rattle.format.specs.Encode.{Row}
use Rattle.format.specs.Layout.{row_at, run, first, trees_after, build, node_of, row_trees, siblings}
use Rattle.format.specs.Rules.{Sized}
use Rattle.format.specs.Whole.{Within, Whole, WholeAt}
use Rattle.format.proofs.Lists.{same-parts, run-length, run-append}
use Rattle.format.proofs.Trees.{length-preorder, beside-end, count-map, preorder-map}

-- ---- The forest that rows store

-- A forest's first trees and those after them have its rows.
split-preorder : (n : ℕ) (f : Forest Row) → preorder (first n f) ++ preorder (trees_after n f) ≡ preorder f
unfolding preorder first trees_after
split-preorder n end = refl
split-preorder n (tree r k m) =
    let n' : ℕ = n - suc (count k) in
    go (leb (suc (count k)) n) (first n' m) (trees_after n' m) (split-preorder n' m)
  where
    go : (t : Bool) (a b : Forest Row) → preorder a ++ preorder b ≡ preorder m →
        preorder (cond t (tree r k a) end) ++ preorder (cond t b (tree r k m)) ≡ r ∷ (preorder k ++ preorder m)
    go true a b e =
        ap (λ (l : List Row). r ∷ l) (append_assoc (preorder k) (preorder a) (preorder b) ∙ ap (λ (l : List Row). preorder k ++ l) e)
    go false a b e = refl

-- Rows are the preorder of the forest that they store, whatever their sizes are.
pub preorder-build : (rs : List Row) → preorder (build rs) ≡ rs
unfolding preorder build
preorder-build [] = refl
preorder-build (r ∷ rs) = ap (λ (l : List Row). r ∷ l) (split-preorder (r.size - 1) (build rs) ∙ preorder-build rs)

-- The trees of no nodes are none; and those of as many nodes as f has are f, where f stands first.
split-zero : (g : Forest Row) → (first 0 g ≡ end) × (trees_after 0 g ≡ g)
unfolding first trees_after
split-zero end = (refl, refl)
split-zero (tree r k m) = rw (leb-suc-zero (count k)) (refl, refl)

split-beside : (f g : Forest Row) → (first (count f) (beside f g) ≡ f) × (trees_after (count f) (beside f g) ≡ g)
unfolding first trees_after count beside
split-beside end g = split-zero g
split-beside (tree r k m) g =
    let e : suc (count k + count m) - suc (count k) ≡ count m = omega arith in
    let s = split-beside m g in
    rw (le-leb (suc (count k)) (suc (count k + count m)) (omega arith), e) (ap (tree r k) s.0, s.1)

-- The rows of a Sized forest, and then others.
pub build-append : (f : Forest Row) (rs : List Row) → Sized f → build (preorder f ++ rs) ≡ beside f (build rs)
unfolding build preorder beside
build-append end rs s = refl
build-append (tree r k m) rs s =
    let e : r.size - 1 ≡ count k = omega (arith, s.0) in
    let g : Forest Row = beside m (build rs) in
    let b : build ((preorder k ++ preorder m) ++ rs) ≡ beside k g =
    ap build (append_assoc (preorder k) (preorder m) rs) ∙ build-append k (preorder m ++ rs) s.1 ∙ ap (beside k) (build-append m rs s.2) in
    let s' = split-beside k g in
    ap₂ (λ (n : ℕ) (h : Forest Row). tree r (first n h) (trees_after n h)) e b ∙ ap₂ (tree r) s'.0 s'.1

-- And a forest whose sizes are right is the one that its preorder stores.
pub build-preorder : (f : Forest Row) → Sized f → build (preorder f) ≡ f
unfolding build
build-preorder f s = ap build (sym (append-nil (preorder f))) ∙ build-append f [] s ∙ beside-end f

-- Two forests whose rows together are a run: each has its own part of the run.
module _ (f : ℕ → Row) (n k : ℕ) (K N : Forest Row) (all : preorder K ++ preorder N ≡ run f n k) where
  parts-count : count K + count N ≡ k
  parts-count =
      ap₂ ◌+◌ (sym (length-preorder K)) (sym (length-preorder N))
      ∙ sym (length-append (preorder K) (preorder N))
      ∙ ap length all
      ∙ run-length f n k

  parts : (run f n (count K) ≡ preorder K) × (run f (n + count K) (count N) ≡ preorder N)
  parts =
      same-parts (run f n (count K)) (run f (n + count K) (count N)) (preorder K) (preorder N) (run-length f n (count K) ∙ sym (length-preorder K))
      (sym (run-append f n (count K) (count N)) ∙ ap (run f n) parts-count ∙ sym all)

-- ---- The trees from node i up to node e, with rows

-- What is known of them where they are whole and i is before e.
pub record Opened (ns : List ℕ) (i e : ℕ) : Type 0 where
  pub here : WholeAt ns i
  pub rest : Whole ns (i + (row_at ns i).size) e
  pub opened : row_trees ns i e ≡ tree (row_at ns i) (row_trees ns (i + 1) (i + (row_at ns i).size)) (row_trees ns (i + (row_at ns i).size) e)

module _ (ns : List ℕ) (i e : ℕ) where
  pub preorder-row_trees : preorder (row_trees ns i e) ≡ run (row_at ns) i (e - i)
  unfolding row_trees
  preorder-row_trees = preorder-build (run (row_at ns) i (e - i))

  pub count-row_trees : count (row_trees ns i e) ≡ e - i
  count-row_trees = sym (length-preorder (row_trees ns i e)) ∙ ap length preorder-row_trees ∙ run-length (row_at ns) i (e - i)

  pub none : e ≤ i → row_trees ns i e ≡ end
  unfolding row_trees run build
  none h = let z : e - i ≡ 0 = omega arith in rw z

  -- Trees whose rows are those from i up to e.
  pub stored : (f : Forest Row) → Sized f → preorder f ≡ run (row_at ns) i (e - i) → row_trees ns i e ≡ f
  unfolding row_trees
  stored f s h = ap build (sym h) ∙ build-preorder f s

  -- No trees are whole trees.
  pub nothing : i ≡ e → Within ns e → Whole ns i e
  nothing h w = record { ordered = omega arith; within = w; sized = subst Sized (sym (none (omega arith))) tt }

-- Whole trees that are not none: node i is a whole tree, and so are those after it.
pub opens : {ns : List ℕ} {i e : ℕ} → Whole ns i e → i < e → Opened ns i e
unfolding row_trees build run
opens {ns} {i} {e} w h =
    let z : ℕ = (row_at ns i).size in
    let k : ℕ = e - suc i in
    let B : Forest Row = build (run (row_at ns) (suc i) k) in
    let K : Forest Row = first (z - 1) B in
    let N : Forest Row = trees_after (z - 1) B in
    let more : e - i ≡ suc k = omega arith in
    let is : row_trees ns i e ≡ tree (row_at ns i) K N = ap (λ (j : ℕ). build (run (row_at ns) i j)) more in
    let s : Sized (tree (row_at ns i) K N) = subst Sized is w.sized in
    let all : preorder K ++ preorder N ≡ run (row_at ns) (suc i) k = split-preorder (z - 1) B ∙ preorder-build (run (row_at ns) (suc i) k) in
    let total : count K + count N ≡ k = parts-count (row_at ns) (suc i) k K N all in
    let size : z ≡ suc (count K) = s.0 in
    let kids-to : count K ≡ (i + z) - (i + 1) = omega (arith, size) in
    let next-at : suc i + count K ≡ i + z = omega (arith, size) in
    let next-to : count N ≡ e - (i + z) = omega (arith, size, total) in
    let own = parts (row_at ns) (suc i) k K N all in
    let kids : K ≡ row_trees ns (i + 1) (i + z) =
    sym (stored ns (i + 1) (i + z) K s.1 (sym own.0 ∙ ap₂ (run (row_at ns)) (sym (add-one i)) kids-to)) in
    let next : N ≡ row_trees ns (i + z) e = sym (stored ns (i + z) e N s.2 (sym own.1 ∙ ap₂ (run (row_at ns)) next-at next-to)) in
    record {
      here =
          record {
            one = omega (arith, size);
            within = record { held = omega (arith, size, total, w.within.held); few = w.within.few };
            sized = subst Sized kids s.1;
          };
      rest = record { ordered = omega (arith, size, total); within = w.within; sized = subst Sized next s.2 };
      opened = is ∙ ap₂ (tree (row_at ns i)) kids next;
    }

-- The children of the root of a whole tree, and its own row.
pub kids-whole : {ns : List ℕ} {n : ℕ} → WholeAt ns n → Whole ns (n + 1) (n + (row_at ns n).size)
kids-whole w = record { ordered = omega (arith, w.one); within = w.within; sized = w.sized }

pub node-within : {ns : List ℕ} {n : ℕ} → WholeAt ns n → Within ns (n + 1)
node-within w = record { held = omega (arith, w.one, w.within.held); few = w.within.few }

-- The other way: node i, whole trees for its children, and whole trees after it.
pub closes : {ns : List ℕ} {i e : ℕ} → 1 ≤ (row_at ns i).size → Whole ns (i + 1) (i + (row_at ns i).size) → Whole ns (i + (row_at ns i).size) e → Whole ns i e
unfolding preorder run
closes {ns} {i} {e} one wk wn =
    let r : Row = row_at ns i in
    let z : ℕ = r.size in
    let k : ℕ = (i + z) - (i + 1) in
    let n : ℕ = e - (i + z) in
    let K : Forest Row = row_trees ns (i + 1) (i + z) in
    let N : Forest Row = row_trees ns (i + z) e in
    let s : Sized (tree r K N) = (omega (arith, one, count-row_trees ns (i + 1) (i + z)), wk.sized, wn.sized) in
    let next-at : i + z ≡ suc i + k = omega (arith, one) in
    let total : suc (k + n) ≡ e - i = omega (arith, one, wn.ordered) in
    let below : preorder K ++ preorder N ≡ run (row_at ns) (suc i) (k + n) =
    ap₂ ◌++◌ (preorder-row_trees ns (i + 1) (i + z)) (preorder-row_trees ns (i + z) e)
    ∙ ap₂ (λ (x y : ℕ). run (row_at ns) x k ++ run (row_at ns) y n) (add-one i) next-at
    ∙ sym (run-append (row_at ns) (suc i) k n) in
    let all : preorder (tree r K N) ≡ run (row_at ns) i (e - i) = ap (λ (l : List Row). r ∷ l) below ∙ ap (run (row_at ns) i) total in
    record { ordered = omega (arith, wn.ordered); within = wn.within; sized = subst Sized (sym (stored ns i e (tree r K N) s all)) s }

-- ---- The same, with nodes
module _ (ns : List ℕ) (i e : ℕ) where
  pub siblings-none : e ≤ i → siblings ns i e ≡ end
  unfolding siblings map_forest
  siblings-none h = ap (map_forest node_of) (none ns i e h)

  pub preorder-siblings : preorder (siblings ns i e) ≡ map node_of (run (row_at ns) i (e - i))
  unfolding siblings
  preorder-siblings = preorder-map node_of (row_trees ns i e) ∙ ap (map node_of) (preorder-row_trees ns i e)

  pub count-siblings : count (siblings ns i e) ≡ e - i
  unfolding siblings
  count-siblings = count-map node_of (row_trees ns i e) ∙ count-row_trees ns i e

pub siblings-opens : {ns : List ℕ} {i e : ℕ} → Opened ns i e →
    siblings ns i e ≡ tree (node_of (row_at ns i)) (siblings ns (i + 1) (i + (row_at ns i).size)) (siblings ns (i + (row_at ns i).size) e)
unfolding siblings map_forest
siblings-opens o = ap (map_forest node_of) o.opened
