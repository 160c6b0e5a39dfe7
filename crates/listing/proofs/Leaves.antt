-- A walk over trees is a walk over the names that they refer to, from left to right. Assumes that leaves have no children, as in a book
-- that fits.
--     each                           steps at names from left to right
--     Leafy, fits-leafy, ..          leaves have no children: trees that fit, and those that are made of them
--     chase-each                     the walk over trees
--     resolved-leafy, init-leafy, .. the trees of a book
use mathlib.Core.Path.{◌≡◌, refl, sym, ap, ◌∙◌}
use mathlib.Core.Bool.{Bool, true, false, cond}
use mathlib.Core.List.{List, [], ◌∷◌, ◌++◌, append_assoc, Memᴰ}
use Prim.Native.Nat.{ℕ, suc}
use native.Mathlib.Omega.{arith}
use lib.Dec.{T, eqb, ltb, eqb→eq}
use Rattle.std.specs.List.{fold}
use Rattle.std.proofs.lemmas.List.Sums.{fold-append}
use Rattle.format.specs.declared.Place.{Place}
use Rattle.format.specs.declared.Place.TheVariants.{Root}
use Rattle.format.specs.Forest.{Forest, end, tree, breadth, beside}
use Rattle.format.specs.Node.{Kind, PrimT, VarT, OptT, VecT, RecordT, VariantT, FuncT, ServT, ClassT, InitT, Node}
use Rattle.format.specs.Book.{Definition, File, Book}
use Rattle.format.specs.Fits.{place_below, kind_fits, kind_allowed, label_fits, node_fits, forest_fits, is_init_role, Fits}
use Rattle.format.specs.References.{reference_of, references}
use Rattle.format.proofs.Logic.{both, both₃}
use Rattle.judgement.specs.Environment.{role_at, keep, main_definitions, init_definitions, kids_of}
use Rattle.judgement.specs.Aliases.{End, unbound, circle, ends, alias_end, methods_at}
use Rattle.judgement.specs.Actor.{is_class, last_tree, all_but_last, class_arguments, below_class, service_imports, main_actor, service_of, class_of, init_tree}
use Rattle.judgement.specs.Resolve.{methods_of, imported_methods, merged_actor, resolve_with, resolve_actor}
use Rattle.judgement.proofs.Lookup.{keep-says}
use Rattle.judgement.proofs.Chains.{end-leads, leads-keeps}
use Rattle.judgement.proofs.Fitting.{Fitting}
use Rattle.judgement.proofs.Methods.{methods-keep}
use Rattle.judgement.proofs.Books.{main-definitions-fit, init-definitions-fit, main-actor-fits, imports-fit, init-tree-fits}
use Rattle.listing.specs.Chase.{Walk, arm, chase}

-- ---- Names from left to right
-- The library's `fold`, with the name before the state, as steps at names have it.
abbrev pub each : {S : Type 0} → (ℕ → S → S) → List ℕ → S → S
each meet l s = fold (λ s n. meet n s) s l

-- ---- Leaves have no children
abbrev pub Bare : Kind → Forest Node → Type 0
Bare (PrimT p) kids = kids ≡ end
Bare (VarT n) kids = kids ≡ end
Bare OptT kids = Unit {0}
Bare VecT kids = Unit {0}
Bare RecordT kids = Unit {0}
Bare VariantT kids = Unit {0}
Bare (FuncT a ms) kids = Unit {0}
Bare ServT kids = Unit {0}
Bare ClassT kids = Unit {0}
Bare InitT kids = Unit {0}

abbrev pub Leafy : Forest Node → Type 0
Leafy end = Unit {0}
Leafy (tree n kids next) = Bare n.kind kids × Leafy kids × Leafy next

no-kids : (kids : Forest Node) → T (eqb (breadth kids) 0) → kids ≡ end
unfolding breadth
no-kids end t = refl
no-kids (tree n kids next) t = absurd (omega (arith, eqb→eq (suc (breadth next)) 0 t))

kind-bare : (names : ℕ) (κ : Kind) (kids : Forest Node) → T (kind_fits names κ (breadth kids)) → Bare κ kids
unfolding kind_fits
kind-bare names (PrimT p) kids t = no-kids kids t
kind-bare names (VarT n) kids t = no-kids kids (both (ltb n names) (eqb (breadth kids) 0) t).1
kind-bare names OptT kids t = tt
kind-bare names VecT kids t = tt
kind-bare names RecordT kids t = tt
kind-bare names VariantT kids t = tt
kind-bare names (FuncT a ms) kids t = tt
kind-bare names ServT kids t = tt
kind-bare names ClassT kids t = tt
kind-bare names InitT kids t = tt

pub fits-leafy : (names : ℕ) (p : Place) (f : Forest Node) → T (forest_fits names p f) → Leafy f
unfolding forest_fits node_fits
fits-leafy names p end t = tt
fits-leafy names p (tree n kids next) t =
    let x = both₃ (node_fits names p n (breadth kids)) (forest_fits names (place_below n.kind) kids) (forest_fits names p next) t in
    let y = both₃ (kind_fits names n.kind (breadth kids)) (kind_allowed p n.kind) (label_fits names p n.label) x.0 in
    (kind-bare names n.kind kids y.0, fits-leafy names (place_below n.kind) kids x.1, fits-leafy names p next x.2)

-- ---- The walk over trees
module _ (meet : ℕ → Walk → Walk) where
  arm-each : (κ : Kind) (kids : Forest Node) → Bare κ kids → ((w : Walk) → chase meet kids w ≡ each meet (references kids) w) → (w : Walk) →
      arm meet (chase meet kids) κ w ≡ each meet (reference_of κ ++ references kids) w
  unfolding arm reference_of references
  arm-each (PrimT p) kids bare below w = rw bare
  arm-each (VarT n) kids bare below w = rw bare
  arm-each OptT kids bare below w = below w
  arm-each VecT kids bare below w = below w
  arm-each RecordT kids bare below w = below w
  arm-each VariantT kids bare below w = below w
  arm-each (FuncT a ms) kids bare below w = below w
  arm-each ServT kids bare below w = below w
  arm-each ClassT kids bare below w = below w
  arm-each InitT kids bare below w = below w

  pub chase-each : (f : Forest Node) → Leafy f → (w : Walk) → chase meet f w ≡ each meet (references f) w
  unfolding chase references
  chase-each end leafy w = refl
  chase-each (tree n kids next) leafy w =
      chase-each next leafy.2 (arm meet (chase meet kids) n.kind w)
      ∙ ap (each meet (references next)) (arm-each n.kind kids leafy.0 (chase-each kids leafy.1) w)
      ∙ sym (fold-append (λ s n. meet n s) w (reference_of n.kind ++ references kids) (references next))
      ∙ ap (λ (l : List ℕ). each meet l w) (append_assoc (reference_of n.kind) (references kids) (references next))

-- ---- The trees of a book
kids-leafy : (f : Forest Node) → Leafy f → Leafy (kids_of f)
unfolding kids_of
kids-leafy end leafy = tt
kids-leafy (tree n kids next) leafy = leafy.1

beside-leafy : (f g : Forest Node) → Leafy f → Leafy g → Leafy (beside f g)
unfolding beside
beside-leafy end g h k = k
beside-leafy (tree n kids next) g h k = (h.0, h.1, beside-leafy next g h.2 k)

last-leafy : (f : Forest Node) → Leafy f → Leafy (last_tree f)
unfolding last_tree
last-leafy end h = tt
last-leafy (tree n kids end) h = h
last-leafy (tree n kids (tree m lids next)) h = last-leafy (tree m lids next) h.2

others-leafy : (f : Forest Node) → Leafy f → Leafy (all_but_last f)
unfolding all_but_last
others-leafy end h = tt
others-leafy (tree n kids end) h = tt
others-leafy (tree n kids (tree m lids next)) h = (h.0, h.1, others-leafy (tree m lids next) h.2)

-- either of two
cond-leafy : (c : Bool) (f g : Forest Node) → Leafy f → Leafy g → Leafy (cond c f g)
cond-leafy true f g h k = h
cond-leafy false f g h k = k

pub below-leafy : (f : Forest Node) → Leafy f → Leafy (below_class f)
unfolding below_class
below-leafy f h = cond-leafy (is_class f) (last_tree (kids_of f)) f (last-leafy (kids_of f) (kids-leafy f h)) h

pub arguments-leafy : (f : Forest Node) → Leafy f → Leafy (class_arguments f)
unfolding class_arguments
arguments-leafy f h = cond-leafy (is_class f) (all_but_last (kids_of f)) end (others-leafy (kids_of f) (kids-leafy f h)) tt

-- Leaves of all bodies have no children.
abbrev pub LeafyBodies : List Definition → Type 0
LeafyBodies ds = (d : Definition) → Memᴰ d ds → Leafy d.body

module _ (ds : List Definition) (bodies : LeafyBodies ds) where
  pub methods-leafy : (t : Forest Node) → Leafy t → Leafy (methods_at (alias_end ds t))
  unfolding methods_at
  methods-leafy t h = go (alias_end ds t) refl
    where
      go : (e : End) → alias_end ds t ≡ e → Leafy (methods_at e)
      go (unbound n) q = tt
      go circle q = tt
      go (ends u) q = methods-keep Leafy tt u (kids-leafy u (leads-keeps ds Leafy bodies (end-leads ds t u q) h))

  imported-leafy : (fs : List File) → ((f : File) → Memᴰ f fs → Leafy f.actor) → Leafy (imported_methods ds fs)
  unfolding imported_methods methods_of
  imported-leafy [] h = tt
  imported-leafy (f ∷ fs) h =
      beside-leafy (methods_of ds f.actor) (imported_methods ds fs) (methods-leafy f.actor (h f (Memᴰ.head refl)))
      (imported-leafy fs (λ g m. h g (Memᴰ.tail m)))

  resolve-leafy : (main : Forest Node) → Leafy main → (fs : List File) → ((f : File) → Memᴰ f fs → Leafy f.actor) → Leafy (resolve_with ds main fs)
  unfolding resolve_with merged_actor methods_of
  resolve-leafy main x [] h = x
  resolve-leafy main x (f ∷ fs) h =
      let methods = beside (methods_of ds (below_class main)) (imported_methods ds (f ∷ fs)) in
      let merged : Leafy methods = beside-leafy (methods_of ds (below_class main)) (imported_methods ds (f ∷ fs))
      (methods-leafy (below_class main) (below-leafy main x)) (imported-leafy (f ∷ fs) h) in
      let arguments = class_arguments main in
      cond-leafy (is_class main) (class_of arguments (service_of methods)) (service_of methods)
      (tt, beside-leafy arguments (service_of methods) (arguments-leafy main x) (tt, merged, tt), tt) (tt, merged, tt)

pub fitting-leafy : {names : ℕ} {f : Forest Node} → Fitting names f → Leafy f
fitting-leafy {names} {f} x = fits-leafy names x.place f x.fit

module _ (b : Book) (fits : Fits b) where
  pub main-leafy : Leafy (main_actor b)
  main-leafy = fitting-leafy (main-actor-fits b fits)

  pub init-leafy : Leafy (kids_of (init_tree b.files))
  init-leafy = kids-leafy (init_tree b.files) (fitting-leafy (init-tree-fits b fits))

  -- every definition is main's or the init file's
  all-leafy : LeafyBodies b.definitions
  unfolding main_definitions init_definitions
  all-leafy d m = go (is_init_role (role_at b.files d.file)) refl
    where
      go : (c : Bool) → is_init_role (role_at b.files d.file) ≡ c → Leafy d.body
      go true e = fits-leafy _ Root d.body ((init-definitions-fit b fits).fit d ((keep-says _ b.definitions d).1 (m, rw e tt)))
      go false e = fits-leafy _ Root d.body ((main-definitions-fit b fits).fit d ((keep-says _ b.definitions d).1 (m, rw e tt)))

  pub kept-leafy : (test : Definition → Bool) → LeafyBodies (keep test b.definitions)
  kept-leafy test d m = all-leafy d ((keep-says test b.definitions d).0 m).0

  pub resolved-leafy : Leafy (resolve_actor b)
  unfolding resolve_actor main_definitions
  resolved-leafy = resolve-leafy (main_definitions b) (kept-leafy _) (main_actor b) main-leafy (service_imports b.files) (λ f m. fitting-leafy (imports-fit b fits f m))
