-- Laws of forests: of trees that stand beside each other, of the first tree and of those after it, and of forests of the same shape. Assumes nothing.
use mathlib.Core.Path.{◌≡◌, refl, sym, ap, ap₂, ◌∙◌}
use mathlib.Core.Bool.{◌&&◌, and_assoc}
use mathlib.Core.List.{List, ◌∷◌, ◌++◌, map, append_assoc, map-append}
use Prim.Native.Nat.{ℕ, zero, suc, ◌+◌, ◌≤◌}
use native.Mathlib.Omega.{arith}
use lib.Dec.{T}
use lib.ListN.{length, length-append}
use Rattle.format.specs.declared.Place.{Place}
use Rattle.format.specs.Forest.{Forest, end, tree, count, breadth, preorder, beside, first_tree, other_trees, after_trees, map_forest}
use Rattle.format.specs.Node.{Node}
use Rattle.format.specs.Encode.{Row, row_of, sized}
use Rattle.format.specs.Fits.{forest_fits}
use Rattle.format.specs.Rules.{good_forest, Sized}
use Rattle.format.proofs.Logic.{and-says}

module _ {A : Type 0} where
  pub length-preorder : (f : Forest A) → length (preorder f) ≡ count f
  unfolding preorder count
  length-preorder end = refl
  length-preorder (tree n k m) =
      ap suc (length-append (preorder k) (preorder m) ∙ ap₂ ◌+◌ (length-preorder k) (length-preorder m))

  pub breadth-count : (f : Forest A) → breadth f ≤ count f
  unfolding breadth count
  breadth-count end = omega arith
  breadth-count (tree n k m) = omega (arith, breadth-count m)

  -- ---- Beside
  pub beside-end : (f : Forest A) → beside f end ≡ f
  unfolding beside
  beside-end end = refl
  beside-end (tree n k m) = ap (tree n k) (beside-end m)

  pub beside-assoc : (f g h : Forest A) → beside (beside f g) h ≡ beside f (beside g h)
  unfolding beside
  beside-assoc end g h = refl
  beside-assoc (tree n k m) g h = ap (tree n k) (beside-assoc m g h)

  pub count-beside : (f g : Forest A) → count (beside f g) ≡ count f + count g
  unfolding beside count
  count-beside end g = omega arith
  count-beside (tree n k m) g = omega (arith, count-beside m g)

  pub breadth-beside : (f g : Forest A) → breadth (beside f g) ≡ breadth f + breadth g
  unfolding beside breadth
  breadth-beside end g = omega arith
  breadth-beside (tree n k m) g = omega (arith, breadth-beside m g)

  pub preorder-beside : (f g : Forest A) → preorder (beside f g) ≡ preorder f ++ preorder g
  unfolding beside preorder
  preorder-beside end g = refl
  preorder-beside (tree n k m) g =
      ap (λ (l : List A). n ∷ l) (rw (append_assoc (preorder k) (preorder m) (preorder g), preorder-beside m g))

  -- ---- The first tree, and those after it
  pub first-other : (f : Forest A) → beside (first_tree f) (other_trees f) ≡ f
  unfolding beside first_tree other_trees
  first-other end = refl
  first-other (tree n k m) = refl

  -- one tree, and trees beside it
  pub first-one : (f g : Forest A) → breadth f ≡ 1 → first_tree (beside f g) ≡ f
  unfolding beside first_tree breadth
  first-one end g h = let z : ◌≡◌ {A = ℕ} 0 1 = h in cc
  first-one (tree n k end) g h = refl
  first-one (tree n k (tree n' k' m)) g h = let z : ⊥ = omega arith in absurd z

  pub other-one : (f g : Forest A) → breadth f ≡ 1 → other_trees (beside f g) ≡ g
  unfolding beside other_trees breadth
  other-one end g h = let z : ◌≡◌ {A = ℕ} 0 1 = h in cc
  other-one (tree n k end) g h = refl
  other-one (tree n k (tree n' k' m)) g h = let z : ⊥ = omega arith in absurd z

  pub after-beside : (f g : Forest A) → after_trees (breadth f) (beside f g) ≡ g
  unfolding beside after_trees other_trees breadth
  after-beside end g = refl
  after-beside (tree n k m) g = after-beside m g

-- ---- The forest of h of each node has the same shape
module _ {A B : Type 0} (h : A → B) where
  pub count-map : (f : Forest A) → count (map_forest h f) ≡ count f
  unfolding map_forest count
  count-map end = refl
  count-map (tree n k m) = omega (arith, count-map k, count-map m)

  pub breadth-map : (f : Forest A) → breadth (map_forest h f) ≡ breadth f
  unfolding map_forest breadth
  breadth-map end = refl
  breadth-map (tree n k m) = ap suc (breadth-map m)

  pub preorder-map : (f : Forest A) → preorder (map_forest h f) ≡ map h (preorder f)
  unfolding preorder map_forest
  preorder-map end = refl
  preorder-map (tree n k m) =
      ap (λ (l : List B). h n ∷ l) (ap₂ ◌++◌ (preorder-map k) (preorder-map m) ∙ sym (map-append h (preorder k) (preorder m)))

  pub map-beside : (f g : Forest A) → map_forest h (beside f g) ≡ beside (map_forest h f) (map_forest h g)
  unfolding map_forest beside
  map-beside end g = refl
  map-beside (tree n k m) g = ap (tree (h n) (map_forest h k)) (map-beside m g)

  pub map-other : (f : Forest A) → map_forest h (other_trees f) ≡ other_trees (map_forest h f)
  unfolding map_forest other_trees
  map-other end = refl
  map-other (tree n k m) = refl

  pub map-after : (k : ℕ) (f : Forest A) → map_forest h (after_trees k f) ≡ after_trees k (map_forest h f)
  unfolding after_trees
  map-after zero f = refl
  map-after (suc k) f = map-after k (other_trees f) ∙ ap (after_trees k) (map-other f)

-- ---- Rows with sizes
pub count-sized : (f : Forest Node) → count (sized f) ≡ count f
unfolding sized count
count-sized end = refl
count-sized (tree n k m) = omega (arith, count-sized k, count-sized m)

pub breadth-sized : (f : Forest Node) → breadth (sized f) ≡ breadth f
unfolding sized breadth
breadth-sized end = refl
breadth-sized (tree n k m) = ap suc (breadth-sized m)

pub sized-sized : (f : Forest Node) → Sized (sized f)
unfolding sized row_of
sized-sized end = tt
sized-sized (tree n k m) = (ap suc (sym (count-sized k)), sized-sized k, sized-sized m)

pub sized-beside : (f g : Forest Node) → sized (beside f g) ≡ beside (sized f) (sized g)
unfolding sized beside
sized-beside end g = refl
sized-beside (tree n k m) g = ap (tree (row_of n (suc (count k))) (sized k)) (sized-beside m g)

pub Sized-beside : (f g : Forest Row) → Sized f → Sized g → Sized (beside f g)
unfolding beside
Sized-beside end g s t = t
Sized-beside (tree n k m) g s t = (s.0, s.1, Sized-beside m g s.2 t)

pub Sized-parts : (f g : Forest Row) → Sized (beside f g) → Sized f × Sized g
unfolding beside
Sized-parts end g s = (tt, s)
Sized-parts (tree n k m) g s = let p = Sized-parts m g s.2 in ((s.0, s.1, p.0), p.1)

-- ---- Trees fit, and their rows are good, each by itself
module _ (names : ℕ) (p : Place) where
  pub fits-beside : (f g : Forest Node) → forest_fits names p (beside f g) ≡ (forest_fits names p f && forest_fits names p g)
  unfolding beside forest_fits
  fits-beside end g = refl
  fits-beside (tree n k m) g = rw (and_assoc _ (forest_fits names p m) (forest_fits names p g), fits-beside m g)

  pub good-beside : (f g : Forest Row) → good_forest names p (beside f g) ≡ (good_forest names p f && good_forest names p g)
  unfolding beside good_forest
  good-beside end g = refl
  good-beside (tree n k m) g = rw (and_assoc _ (good_forest names p m) (good_forest names p g), good-beside m g)

  pub fits-join : (f g : Forest Node) → T (forest_fits names p f) → T (forest_fits names p g) → T (forest_fits names p (beside f g))
  fits-join f g x y = rw (fits-beside f g) (simp and-says (x, y))

  pub fits-parts : (f g : Forest Node) → T (forest_fits names p (beside f g)) → T (forest_fits names p f) × T (forest_fits names p g)
  fits-parts f g x = simp and-says at (rw (fits-beside f g) at x)
