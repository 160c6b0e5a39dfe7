-- Trees of an admitted book beside tables by name number. Definitions; assumes nothing.
use Rattle.std.specs.Prelude.{◌≡◌, List, ℕ, ◌≤◌, ◌<◌, T}
use Rattle.format.specs.declared.Place.{Place}
use Rattle.format.specs.declared.Place.TheVariants.{Root, Method}
use Rattle.format.specs.Fits.{forest_fits}
use Rattle.format.specs.Layout.{row_at, siblings}
use Rattle.format.specs.Whole.{Whole, WholeAt}
use Rattle.environment.specs.Tables.{Nodes, Roots, EndNodes}

-- Nodes of a book, a table of roots and one of alias ends.
pub record Walkable (ns roots ends' : List ℕ) (count : ℕ) : Type 0 where
  pub names : ℕ
  pub nodes : Nodes ns names count
  pub bound : Roots roots count
  pub ended : EndNodes ends' count

-- The trees from node `from` up to node `until` are trees of the book, at a place.
pub record Trees (ns roots ends' : List ℕ) (from until : ℕ) : Type 0 where
  pub count : ℕ
  pub place : Place
  pub walk : Walkable ns roots ends' count
  pub whole : Whole ns from until
  pub inside : until ≤ count
  pub fits : T (forest_fits walk.names place (siblings ns from until))

-- Trees that are the methods of a service.
pub record Methods (ns roots ends' : List ℕ) (from until : ℕ) : Type 0 where
  pub trees : Trees ns roots ends' from until
  pub methods : trees.place ≡ Method

-- All nodes of an admitted book: trees at roots, which fit.
pub record AllTrees (ns : List ℕ) (names count : ℕ) : Type 0 where
  pub nodes : Nodes ns names count
  pub whole : Whole ns 0 count
  pub fits : T (forest_fits names Root (siblings ns 0 count))

-- Node n is the root of a whole tree, and a class has a child.
pub record Top (ns : List ℕ) (n : ℕ) : Type 0 where
  pub whole : WholeAt ns n
  pub class : (row_at ns n).kind ≡ 25 → 1 < (row_at ns n).size
