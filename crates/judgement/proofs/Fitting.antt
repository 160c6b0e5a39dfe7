-- Trees that fit, at whatever place, and the trees of them that are walked. Assumes nothing.
--     tree-fits                                   a tree that fits: its node, its children and the trees after it
--     fitting-kids, fitting-class, fitting-top    the children, what stands below a class's top, and what is walked of an actor
--     Written, written-class, named-leaf          one tree or none, as a file has it; a name has no children
--     methods-fit, service-fits                   a service's methods, and a service of methods
--     arguments-fit                               a class's arguments
use mathlib.Core.Path.{◌≡◌, refl, ap, subst}
use mathlib.Core.Bool.{Bool, true, false, cond}
use Prim.Native.Nat.{ℕ, ◌≤◌}
use native.Mathlib.Omega.{arith}
use lib.Dec.{T, ltb, eqb, eqb→eq}
use Rattle.format.specs.declared.Place.{Place}
use Rattle.format.specs.declared.Place.TheVariants.{Method, Inner}
use Rattle.format.specs.Forest.{Forest, end, tree, breadth}
use Rattle.format.specs.Node.{Kind, VarT, ServT, unlabelled, Node}
use Rattle.format.specs.Fits.{place_below, kind_fits, not_init, kind_allowed, label_fits, node_fits, forest_fits}
use Rattle.format.proofs.Logic.{both, both₃, join₃}
use Rattle.judgement.specs.Environment.{named, head, is_serv_kind, kids_of}
use Rattle.judgement.specs.Actor.{is_class_kind, is_class, last_tree, all_but_last, class_arguments, below_class, service_of}
use Rattle.judgement.specs.WellFormed.{RootIs, below_top}
use Rattle.judgement.proofs.Heads.{other-named, named-var}
use Rattle.judgement.proofs.Classes.{is-class, last-few}
use Rattle.judgement.proofs.Walks.{is-service}

pub record Fitting (names : ℕ) (f : Forest Node) : Type 0 where
  pub place : Place
  pub fit : T (forest_fits names place f)

-- A type as written in a file: one tree, or none.
pub record Written (names : ℕ) (f : Forest Node) : Type 0 where
  pub fits : Fitting names f
  pub few : breadth f ≤ 1

-- the arguments of a class
inner : (κ : Kind) → T (is_class_kind κ) → place_below κ ≡ Inner
unfolding place_below
inner κ t = ap place_below (is-class κ t)

pub no-breadth : (f : Forest Node) → breadth f ≡ 0 → f ≡ end
unfolding breadth
no-breadth end e = refl
no-breadth (tree n kids next) e = absurd (omega arith)

module _ (names : ℕ) where
  pub tree-fits : (p : Place) (n : Node) (kids next : Forest Node) → T (forest_fits names p (tree n kids next)) →
      T (node_fits names p n (breadth kids)) × T (forest_fits names (place_below n.kind) kids) × T (forest_fits names p next)
  unfolding forest_fits
  tree-fits p n kids next = both₃ (node_fits names p n (breadth kids)) (forest_fits names (place_below n.kind) kids) (forest_fits names p next)

  fits-tree : (p : Place) (n : Node) (kids next : Forest Node) → T (node_fits names p n (breadth kids)) →
      T (forest_fits names (place_below n.kind) kids) → T (forest_fits names p next) → T (forest_fits names p (tree n kids next))
  unfolding forest_fits
  fits-tree p n kids next = join₃ (node_fits names p n (breadth kids)) (forest_fits names (place_below n.kind) kids) (forest_fits names p next)

  pub fitting-kids : (f : Forest Node) → Fitting names f → Fitting names (kids_of f)
  unfolding kids_of
  fitting-kids end x = x
  fitting-kids (tree n kids next) x = record { place = place_below n.kind; fit = (tree-fits x.place n kids next x.fit).1 }

  last-fits : (p : Place) (f : Forest Node) → T (forest_fits names p f) → T (forest_fits names p (last_tree f))
  unfolding last_tree
  last-fits p end t = t
  last-fits p (tree n kids end) t = t
  last-fits p (tree n kids (tree m lids next)) t = last-fits p (tree m lids next) (tree-fits p n kids (tree m lids next) t).2

  others-fit : (p : Place) (f : Forest Node) → T (forest_fits names p f) → T (forest_fits names p (all_but_last f))
  unfolding all_but_last forest_fits
  others-fit p end t = t
  others-fit p (tree n kids end) t = tt
  others-fit p (tree n kids (tree m lids next)) t = let x = tree-fits p n kids (tree m lids next) t in fits-tree p n kids (all_but_last (tree m lids next)) x.0 x.1 (others-fit p (tree m lids next) x.2)

  -- what stands below a class's top, and what is walked
  pub fitting-class : (f : Forest Node) → Fitting names f → Fitting names (below_class f)
  unfolding below_class
  fitting-class f x = go (is_class f)
    where
      go : (c : Bool) → Fitting names (cond c (last_tree (kids_of f)) f)
      go true = let k = fitting-kids f x in record { place = k.place; fit = last-fits k.place (kids_of f) k.fit }
      go false = x

  pub written-class : (f : Forest Node) → Written names f → Written names (below_class f)
  unfolding below_class
  written-class f x = record { fits = fitting-class f x.fits; few = go (is_class f) }
    where
      go : (c : Bool) → breadth (cond c (last_tree (kids_of f)) f) ≤ 1
      go true = last-few (kids_of f)
      go false = x.few

  -- a name has no children
  pub named-leaf : (t : Forest Node) {n : ℕ} → Written names t → head t ≡ named n → (x : Node) × (t ≡ tree x end end) × (x.kind ≡ VarT n)
  unfolding head breadth node_fits kind_fits
  named-leaf end w h = other-named refl h
  named-leaf (tree x kids next) {n} w h =
      let κ = named-var x.kind h in
      let node = (tree-fits w.fits.place x kids next w.fits.fit).0 in
      let fits = (both₃ (kind_fits names x.kind (breadth kids)) (kind_allowed w.fits.place x.kind) (label_fits names w.fits.place x.label) node).0 in
      let leaf = both (ltb n names) (eqb (breadth kids) 0) (subst (λ (k : Kind). T (kind_fits names k (breadth kids))) κ fits) in
      (x, rw (no-breadth kids (eqb→eq (breadth kids) 0 leaf.1), no-breadth next (omega (arith, w.few))) refl, κ)

  pub fitting-top : (f : Forest Node) → Fitting names f → Fitting names (below_top f)
  unfolding below_top
  fitting-top f x = go (is_class f)
    where
      go : (c : Bool) → Fitting names (cond c (kids_of f) f)
      go true = fitting-kids f x
      go false = x

  -- the children of a service
  pub methods-fit : (f : Forest Node) → RootIs is_serv_kind f → Fitting names f → T (forest_fits names Method (kids_of f))
  unfolding kids_of place_below
  methods-fit end s x = absurd s
  methods-fit (tree n kids next) s x = subst (λ (k : Kind). T (forest_fits names (place_below k) kids)) (is-service n.kind s) (tree-fits x.place n kids next x.fit).1

  pub arguments-fit : (f : Forest Node) → Fitting names f → T (forest_fits names Inner (class_arguments f))
  unfolding class_arguments is_class forest_fits kids_of
  arguments-fit end x = tt
  arguments-fit (tree n kids next) x = go (is_class_kind n.kind) (inner n.kind)
    where
      go : (c : Bool) → (T c → place_below n.kind ≡ Inner) → T (forest_fits names Inner (cond c (all_but_last kids) end))
      go true h = others-fit Inner kids (subst (λ (p : Place). T (forest_fits names p kids)) (h tt) (tree-fits x.place n kids next x.fit).1)
      go false h = tt

  pub service-fits : (f : Forest Node) → T (forest_fits names Method f) → T (forest_fits names Inner (service_of f))
  unfolding node_fits kind_fits kind_allowed not_init label_fits place_below forest_fits
  service-fits f t = fits-tree Inner record { kind = ServT; label = unlabelled } f end tt t tt
