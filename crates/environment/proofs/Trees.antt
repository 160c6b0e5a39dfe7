-- Trees of a book: opened, and below each of its nodes. Assumes nothing.
--     opened, fit-parts, kids-trees, ..     the first of trees, those below it, and those after it
--     method-label, kids-methods, ..        methods of services
--     node-trees, node-some, node-top       each node of a book
--     one-type                              an opt holds one type
use mathlib.Core.Path.{◌≡◌, refl, sym, ap, subst, ◌∙◌}
use mathlib.Core.Bool.{true, ◌&&◌}
use mathlib.Core.List.{List}
use Prim.Native.Nat.{ℕ, zero, suc, ◌+◌, ◌≤◌, ◌<◌}
use native.Mathlib.Decide.{dec_lt}
use native.Mathlib.Omega.{arith}
use lib.Dec.{T, eqb→eq, leb→le}
use Rattle.labels.specs.declared.Label.TheVariants.{Id, Named, Unnamed}
use Rattle.format.specs.declared.Place.{Place}
use Rattle.format.specs.declared.Place.TheVariants.{Root, Method}
use Rattle.format.specs.Forest.{Forest, breadth}
use Rattle.format.specs.Node.{Kind, OptT, ClassT, Labelled, unlabelled, labelled, Node, label_value, label_kind}
use Rattle.format.specs.Encode.{Row, row_of}
use Rattle.format.specs.Fits.{place_below, kind_fits, kind_allowed, label_fits, node_fits, forest_fits}
use Rattle.format.specs.Layout.{row_at, siblings, node_of, kind_of, kinds}
use Rattle.format.specs.Whole.{Within, RowFits, tree_at}
use Rattle.format.proofs.Logic.{both, both₃, join₃}
use Rattle.format.proofs.Trees.{breadth-count}
use Rattle.format.proofs.Rows.{Opened, opens, kids-whole, node-within, siblings-opens, count-siblings}
use Rattle.format.proofs.Stored.{tree-whole, tree-opens}
use Rattle.book.specs.Tables.{blank_table, zero_table}
use Rattle.book.proofs.Blank.{blank-length, blank-at, zero-length, zero-at}
use Rattle.environment.specs.Tables.{Roots, end_of, EndNodes, Ended}
use Rattle.environment.specs.Trees.{Trees, Methods, AllTrees, Top}

-- ---- trees of a book, opened
module _ {ns roots ends' : List ℕ} {i until : ℕ} (t : Trees ns roots ends' i until) (h : i < until) where
  pub opened : Opened ns i until
  opened = opens t.whole h

  pub fit-parts : (T (node_fits t.walk.names t.place (node_of (row_at ns i)) (breadth (siblings ns (i + 1) (i + (row_at ns i).size))))
      × T (forest_fits t.walk.names (place_below (node_of (row_at ns i)).kind) (siblings ns (i + 1) (i + (row_at ns i).size))))
      × T (forest_fits t.walk.names t.place (siblings ns (i + (row_at ns i).size) until))
  unfolding forest_fits
  fit-parts =
      let f = subst (λ (q : Forest Node). T (forest_fits t.walk.names t.place q)) (siblings-opens opened) t.fits in
      let a = node_fits t.walk.names t.place (node_of (row_at ns i)) (breadth (siblings ns (i + 1) (i + (row_at ns i).size))) in
      let b = forest_fits t.walk.names (place_below (node_of (row_at ns i)).kind) (siblings ns (i + 1) (i + (row_at ns i).size)) in
      let p = both (a && b) _ f in
      (both a b p.0, p.1)

  pub ends-inside : i + (row_at ns i).size ≤ until
  ends-inside = opened.rest.ordered

  pub one-at-least : 1 ≤ (row_at ns i).size
  one-at-least = opened.here.one

  unfoldable pub rest-trees : Trees ns roots ends' (i + (row_at ns i).size) until
  rest-trees = record { count = t.count; place = t.place; walk = t.walk; whole = opened.rest; inside = t.inside; fits = fit-parts.1 }

  unfoldable pub kids-trees : Trees ns roots ends' (i + 1) (i + (row_at ns i).size)
  kids-trees =
      record {
        count = t.count;
        place = place_below (node_of (row_at ns i)).kind;
        walk = t.walk;
        whole = kids-whole opened.here;
        inside = omega (arith, t.inside, ends-inside);
        fits = fit-parts.0.1;
      }

  pub this-tree : Trees ns roots ends' i (i + (row_at ns i).size)
  unfolding forest_fits
  this-tree =
      record {
        count = t.count;
        place = t.place;
        walk = t.walk;
        whole = tree-whole opened.here;
        inside = omega (arith, t.inside, ends-inside);
        fits = rw (tree-opens opened.here) (join₃ (node_fits t.walk.names t.place (node_of (row_at ns i)) (breadth (siblings ns (i + 1) (i + (row_at ns i).size))))
            (forest_fits t.walk.names (place_below (node_of (row_at ns i)).kind) (siblings ns (i + 1) (i + (row_at ns i).size))) true fit-parts.0.0 fit-parts.0.1 tt);
      }

  pub row-within : Within ns (i + 1)
  row-within = node-within opened.here

  pub row-fits : RowFits t.walk.names (row_at ns i)
  row-fits = t.walk.nodes.row i (omega (arith, t.inside))

  pub ended : Ended ns ends' i
  ended = record { names = t.walk.names; count = t.count; nodes = t.walk.nodes; table = t.walk.ended; inside = omega (arith, t.inside) }

-- ---- methods
-- A method's label is a name of the book
name-label : (names : ℕ) (x : Labelled) → T (label_fits names Method x) → (label_kind x ≡ 2)
unfolding label_fits label_kind
name-label names unlabelled h = absurd h
name-label names (labelled (Id n)) h = absurd h
name-label names (labelled (Named n)) h = refl
name-label names (labelled (Unnamed n)) h = absurd h

module _ {ns roots ends' : List ℕ} {i until : ℕ} (t : Trees ns roots ends' i until) (h : i < until) where
  row-same : label_value (node_of (row_at ns i)).label ≡ (row_at ns i).label
  unfolding row_of
  row-same = ap (λ (r : Row). r.label) (row-fits t h).same

  pub method-label : t.place ≡ Method → ((row_at ns i).label < 1024) × (label_value (node_of (row_at ns i)).label ≡ (row_at ns i).label)
  unfolding node_fits row_of
  method-label m =
      let f = (both₃ (kind_fits t.walk.names (node_of (row_at ns i)).kind (breadth (siblings ns (i + 1) (i + (row_at ns i).size)))) (kind_allowed t.place (node_of (row_at ns i)).kind) (label_fits t.walk.names t.place (node_of (row_at ns i)).label) (fit-parts t h).0.0).2 in
      let k = name-label t.walk.names (node_of (row_at ns i)).label (subst (λ (p : Place). T (label_fits t.walk.names p (node_of (row_at ns i)).label)) m f) in
      let two : (row_at ns i).lkind ≡ 2 = sym (ap (λ (r : Row). r.lkind) (row-fits t h).same) ∙ k in
      (omega (arith, (row-fits t h).label two, t.walk.nodes.few_names), row-same)

  pub kids-place : (row_at ns i).kind ≡ 24 → (kids-trees t h).place ≡ Method
  unfolding kids-trees place_below node_of kind_of kinds
  kids-place k = rw k

  pub kids-methods : (row_at ns i).kind ≡ 24 → Methods ns roots ends' (i + 1) (i + (row_at ns i).size)
  kids-methods k = record { trees = kids-trees t h; methods = kids-place k }

pub rest-methods : {ns roots ends' : List ℕ} {i until : ℕ} → Methods ns roots ends' i until → i < until → Methods ns roots ends' (i + (row_at ns i).size) until
unfolding rest-trees
rest-methods m h = record { trees = rest-trees m.trees h; methods = m.methods }

-- ---- each node of a book
all-trees : {ns roots ends' : List ℕ} {names count : ℕ} → AllTrees ns names count → Roots roots count → EndNodes ends' count → Trees ns roots ends' 0 count
all-trees {names = names} {count = count} a b e =
    record { count = count; place = Root; walk = record { names = names; nodes = a.nodes; bound = b; ended = e }; whole = a.whole; inside = omega arith; fits = a.fits }

-- A tree of the book, of so many names.
abbrev Among : List ℕ → List ℕ → List ℕ → ℕ → ℕ → Type 0
Among ns roots ends' names n = (t : Trees ns roots ends' n (n + (row_at ns n).size)) × (t.walk.names ≡ names)

-- By the number k of nodes at most: the first one, one below it, or one after that.
tree-among : {ns roots ends' : List ℕ} (k : ℕ) {i until : ℕ} (t : Trees ns roots ends' i until) → until ≤ i + k → (n : ℕ) → i ≤ n → n < until → Among ns roots ends' t.walk.names n
unfolding this-tree kids-trees rest-trees
tree-among zero t h n l m = let z : ⊥ = omega arith in absurd z
tree-among {ns} {roots} {ends'} (suc k) {i} {until} t h n l m =
    let q : i < until = omega arith in
    let one = one-at-least t q in
    let inside = ends-inside t q in
    go (this-tree t q, refl) (tree-among k (kids-trees t q) (omega arith) n) (tree-among k (rest-trees t q) (omega arith) n) (dec_lt i n) (dec_lt n (i + (row_at ns i).size))
  where
    go : Among ns roots ends' t.walk.names i → (i + 1 ≤ n → n < i + (row_at ns i).size → Among ns roots ends' t.walk.names n) →
        (i + (row_at ns i).size ≤ n → n < until → Among ns roots ends' t.walk.names n) → Dec (i < n) → Dec (n < i + (row_at ns i).size) → Among ns roots ends' t.walk.names n
    go here below after (no x) d = let z : i ≡ n = omega arith in subst (λ (j : ℕ). Among ns roots ends' t.walk.names j) z here
    go here below after (yes x) (yes y) = below (omega arith) y
    go here below after (yes x) (no y) = after (omega arith) m

pub tree-in : {ns roots ends' : List ℕ} {i until : ℕ} → Trees ns roots ends' i until → (n : ℕ) → i ≤ n → n < until → Trees ns roots ends' n (n + (row_at ns n).size)
tree-in {until = until} t n l h = (tree-among until t (omega arith) n l h).0

module _ {ns roots ends' : List ℕ} {names count : ℕ} (a : AllTrees ns names count) (b : Roots roots count) (e : EndNodes ends' count) {n : ℕ} (h : n < count) where
  pub node-trees : Trees ns roots ends' n (n + (row_at ns n).size)
  node-trees = tree-in (all-trees a b e) n (omega arith) h

  -- it fits at some place
  pub node-fits : (place : Place) × T (forest_fits names place (tree_at ns n))
  unfolding all-trees
  node-fits =
      let t = tree-among count (all-trees a b e) (omega arith) n (omega arith) h in
      (t.0.place, subst (λ (k : ℕ). T (forest_fits k t.0.place (tree_at ns n))) t.1 t.0.fits)

  pub node-some : n < n + (row_at ns n).size
  node-some = omega (arith, (a.nodes.tree n h).whole.one)

-- a class has a child
class-has : (names kids : ℕ) (κ : Kind) → κ ≡ ClassT → T (kind_fits names κ kids) → 1 ≤ kids
unfolding kind_fits
class-has names kids κ e f = leb→le 1 kids (subst (λ (k : Kind). T (kind_fits names k kids)) e f)

module _ {ns roots ends' : List ℕ} {n : ℕ} (t : Trees ns roots ends' n (n + (row_at ns n).size)) (h : n < n + (row_at ns n).size) where
  class-child : (row_at ns n).kind ≡ 25 → 1 < (row_at ns n).size
  unfolding node_fits node_of kind_of kinds
  class-child k =
      let kids = siblings ns (n + 1) (n + (row_at ns n).size) in
      let f = (both₃ (kind_fits t.walk.names (node_of (row_at ns n)).kind (breadth kids)) (kind_allowed t.place (node_of (row_at ns n)).kind) (label_fits t.walk.names t.place (node_of (row_at ns n)).label) (fit-parts t h).0.0).0 in
      omega (arith, class-has t.walk.names (breadth kids) (node_of (row_at ns n)).kind (rw k) f, breadth-count kids, count-siblings ns (n + 1) (n + (row_at ns n).size))

  pub node-top : Top ns n
  node-top = record { whole = (opened t h).here; class = class-child }

-- an opt has one
opt-has : (names kids : ℕ) (κ : Kind) → κ ≡ OptT → T (kind_fits names κ kids) → kids ≡ 1
unfolding kind_fits
opt-has names kids κ e f = eqb→eq kids 1 (subst (λ (k : Kind). T (kind_fits names k kids)) e f)

module _ {ns roots ends' : List ℕ} {n : ℕ} (t : Trees ns roots ends' n (n + (row_at ns n).size)) (h : n < n + (row_at ns n).size) where
  opt-child : (row_at ns n).kind ≡ 19 → breadth (siblings ns (n + 1) (n + (row_at ns n).size)) ≡ 1
  unfolding node_fits node_of kind_of kinds
  opt-child k =
      let kids = siblings ns (n + 1) (n + (row_at ns n).size) in
      let f = (both₃ (kind_fits t.walk.names (node_of (row_at ns n)).kind (breadth kids)) (kind_allowed t.place (node_of (row_at ns n)).kind) (label_fits t.walk.names t.place (node_of (row_at ns n)).label) (fit-parts t h).0.0).0 in
      opt-has t.walk.names (breadth kids) (node_of (row_at ns n)).kind (rw k) f

-- a table that has nothing
pub blank-nodes : (count : ℕ) (table : List ℕ) → table ≡ blank_table → Roots table count
blank-nodes count table e = rw e (record { long = blank-length; node = λ n h. absurd (h (blank-at n)) })

pub no-ends : (count : ℕ) (table : List ℕ) → table ≡ zero_table → EndNodes table count
no-ends count table e = rw e (record { long = zero-length; node = λ n m h. let none = ap end_of (zero-at n) in cc })

-- where no table is asked for
pub top : {ns : List ℕ} {names count : ℕ} → AllTrees ns names count → {n : ℕ} → n < count → Top ns n
top {count = count} a h =
    let z = blank-nodes count blank_table refl in
    let e = no-ends count zero_table refl in
    node-top (node-trees a z e h) (node-some a z e h)

-- An opt holds one type.
pub one-type : {ns : List ℕ} {names count : ℕ} → AllTrees ns names count → (n : ℕ) → n < count → (row_at ns n).kind ≡ 19 →
    breadth (siblings ns (n + 1) (n + (row_at ns n).size)) ≡ 1
one-type {count = count} a n h k =
    let z = blank-nodes count blank_table refl in
    let e = no-ends count zero_table refl in
    opt-child (node-trees a z e h) (node-some a z e h) k
