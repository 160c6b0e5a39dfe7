-- The actor that is walked against the actors as written. With service imports one service of all methods is walked; each method stands in
-- an actor as written or, where that is a name, in a definition. Assumes what stands in the last section's head: a book that fits, whose
-- definitions are well-formed and of one mode.
--     good-says                          well-formed trees of one mode, node by node
--     together-good, good-together       types that lead to services are good, and so are their methods together
--     top-parts, merged-parts            what is walked of an actor, and of the merged one
--     merged-good, resolved-good         the actor that is walked is good exactly if each actor as written is
--     resolved-typed, typed-resolved     the same in the words of Typed and Rust
use mathlib.Core.Path.{◌≡◌, refl, sym, subst}
use mathlib.Core.Logic.{◌↔◌, ◌⊎◌, inl, inr, ⊎_elim}
use mathlib.Core.Bool.{Bool, true, false, cond}
use mathlib.Core.List.Memᴰ
use mathlib.Core.List.{List, [], Memᴰ}
use Prim.Native.Nat.{ℕ, ◌≤◌}
use native.Mathlib.Omega.{arith}
use lib.Dec.{T}
use lib.ListN.{length}
use Rattle.format.specs.Forest.{Forest, end, tree, beside, breadth}
use Rattle.format.specs.Node.{Kind, VarT, ServT, Node}
use Rattle.format.specs.Book.{Definition, File, Book}
use Rattle.format.specs.Fits.{Fits}
use Rattle.format.specs.Occurs.{here}
use Rattle.format.specs.Distinct.{Distinct}
use Rattle.format.proofs.Occurs.{Everywhere, EachTree, occurs-end, beside-none, everywhere-tree, in-kids, everywhere-beside, beside-everywhere, each-beside, beside-each}
use Rattle.judgement.specs.Environment.{main_definitions, is_serv_kind, kids_of}
use Rattle.judgement.specs.Actor.{service_imports, main_actor, is_class_kind, is_class, last_tree, all_but_last, class_arguments, below_class, service_of, class_of, merged_of}
use Rattle.judgement.specs.Resolve.{resolve_actor}
use Rattle.judgement.specs.WellFormed.{Defined, Leads, arrived, onward, StandsFor, WellFormedTrees, WellFormedDefinitions, below_top, Typed}
use Rattle.judgement.specs.Meaning.{Serves, Together, none, more, services}
use Rattle.judgement.specs.Rust.{OneMode, OneModeDefinitions, hashes_of, Hashed, Rust}
use Rattle.judgement.proofs.Lookup.{listed-defined}
use Rattle.judgement.proofs.Chains.{leads-keeps}
use Rattle.judgement.proofs.Walks.{is-service, service-is, Asked, IsFunction, sound-nodes, sound-formed}
use Rattle.judgement.proofs.Classes.{beside-last}
use Rattle.judgement.proofs.Fitting.{Written, no-breadth, written-class, named-leaf}
use Rattle.judgement.proofs.Meaning.{MainStands, ImportsStand, services_of, found_methods, none-stands, stands-no-class, all-services, services-all, merged-together, none-imported, resolved-written, resolved-merged, resolved-methods}
use Rattle.judgement.proofs.Resolve.{Resolved}
use Rattle.judgement.proofs.Books.{main-actor-written, imports-written}

-- ---- Well-formed trees of one mode, node by node
abbrev GoodNode : List Definition → Node → Forest Node → Type 0
GoodNode ds n kids = Asked ds n.kind (breadth kids) × (n.kind ≡ ServT → EachTree (IsFunction ds) kids)

abbrev Good : List Definition → Forest Node → Type 0
Good ds f = Everywhere (GoodNode ds) f

good-says : (ds : List Definition) (f : Forest Node) → Good ds f ↔ (WellFormedTrees ds f × OneMode f)
good-says ds f =
    let nodes = sound-nodes ds true f in
    let formed = sound-formed ds f in (
      λ h. formed.0 (nodes.0 (λ n kids o. ((h n kids o).0, λ t. (h n kids o).1 (is-service n.kind t)))),
      λ w. let q = nodes.1 (formed.1 w) in λ n kids o. ((q n kids o).0, λ e. (q n kids o).1 (service-is n.kind e)),
    )

-- Methods that are good functions.
abbrev GoodMethods : List Definition → Forest Node → Type 0
GoodMethods ds f = EachTree (IsFunction ds) f × Good ds f

module _ (ds : List Definition) where
  beside-methods : (f g : Forest Node) → GoodMethods ds f → GoodMethods ds g → GoodMethods ds (beside f g)
  beside-methods f g p q = (each-beside f g p.0 q.0, everywhere-beside f g p.1 q.1)

  methods-beside : (f g : Forest Node) → GoodMethods ds (beside f g) → GoodMethods ds f × GoodMethods ds g
  methods-beside f g p = let x = beside-each f g p.0 in let y = beside-everywhere f g p.1 in ((x.0, y.0), (x.1, y.1))

  -- A service, and a name that is defined.
  asked-service : {κ : Kind} {k : ℕ} → κ ≡ ServT → Asked ds κ k
  asked-service e = record {
    bound = λ n q. let z : ◌≡◌ {A = ℕ} 0 1 = cc in absurd (omega arith);
    no_class = λ q. let z : ◌≡◌ {A = ℕ} 0 1 = cc in omega arith;
    modes = λ a ms q. let z : ◌≡◌ {A = ℕ} 0 1 = cc in absurd (omega arith);
  }

  asked-name : {κ : Kind} {k n : ℕ} → κ ≡ VarT n → Defined ds n → Asked ds κ k
  asked-name {n = n} e d = record {
    bound = λ m q. let p : n ≡ m = cc in subst (Defined ds) p d;
    no_class = λ q. let z : ◌≡◌ {A = ℕ} 0 1 = cc in omega arith;
    modes = λ a ms q. let z : ◌≡◌ {A = ℕ} 0 1 = cc in absurd (omega arith);
  }

  good-service : (n : Node) (methods next : Forest Node) → n.kind ≡ ServT → breadth (tree n methods next) ≤ 1 → GoodMethods ds methods → Good ds (tree n methods next)
  unfolding breadth
  good-service n methods next e few g = everywhere-tree (asked-service e, λ q. g.0) g.1 (rw (no-breadth next (omega arith)) (λ m lids o. occurs-end o))

  service-good : (n : Node) (methods next : Forest Node) → n.kind ≡ ServT → Good ds (tree n methods next) → GoodMethods ds methods
  service-good n methods next e h = ((h n methods here).1 e, in-kids h)

  good-name : (x : Node) {n : ℕ} → x.kind ≡ VarT n → Defined ds n → Good ds (tree x end end)
  good-name x e d =
      everywhere-tree (asked-name e d, λ q. let z : ◌≡◌ {A = ℕ} 0 1 = cc in absurd (omega arith)) (λ m lids o. occurs-end o) (λ m lids o. occurs-end o)

  -- ---- Types that lead to services
  serves-good : ((d : Definition) → Memᴰ d ds → Good ds d.body) → {t methods : Forest Node} → Serves ds t methods → Good ds t → GoodMethods ds methods
  serves-good bodies {methods = methods} x h = service-good x.node methods x.next x.service (leads-keeps ds (Good ds) bodies x.leads h)

  good-serves : (names : ℕ) {t methods : Forest Node} → Written names t → Serves ds t methods → GoodMethods ds methods → Good ds t
  good-serves names {t} {methods} w x g = go t x.leads refl w
    where
      go : (t : Forest Node) {u : Forest Node} → Leads ds t u → u ≡ tree x.node methods x.next → Written names t → Good ds t
      go t (arrived h) e w = rw e (good-service x.node methods x.next x.service (rw e at w.few) g)
      go t (onward h m q l) e w = let f = named-leaf names t w h in rw f.1 (good-name f.0 f.2 (listed-defined m q))

  together-good : ((d : Definition) → Memᴰ d ds → Good ds d.body) → {ts : List (Forest Node)} {methods : Forest Node} → Together ds ts methods →
      ((t : Forest Node) → Memᴰ t ts → Good ds t) → GoodMethods ds methods
  together-good bodies none h = (λ n kids o. beside-none o, λ n kids o. occurs-end o)
  together-good bodies (more {t = t} {methods = methods} {rest = rest} x r) h =
      beside-methods methods rest (serves-good bodies x (h t (Memᴰ.head refl))) (together-good bodies r (λ u m. h u (Memᴰ.tail m)))

  good-together : (names : ℕ) {ts : List (Forest Node)} {methods : Forest Node} → Together ds ts methods → ((t : Forest Node) → Memᴰ t ts → Written names t) →
      GoodMethods ds methods → (t : Forest Node) → Memᴰ t ts → Good ds t
  good-together names none w g t m = absurd (Memᴰ.not-nil m)
  good-together names (more {t = u} {methods = methods} {rest = rest} x r) w g t m =
      let p = methods-beside methods rest g in
      ⊎_elim (λ e. subst (Good ds) (sym e) (good-serves names (w u (Memᴰ.head refl)) x p.0))
      (λ i. good-together names r (λ v j. w v (Memᴰ.tail j)) p.1 t i) (Memᴰ.cases_cons m)

-- ---- What is walked of an actor: the arguments of a class, and what stands below its top
top-parts : (t : Forest Node) → below_top t ≡ beside (class_arguments t) (below_class t)
unfolding below_top class_arguments below_class beside
top-parts t = go (is_class t)
  where
    go : (c : Bool) → cond c (kids_of t) t ≡ beside (cond c (all_but_last (kids_of t)) end) (cond c (last_tree (kids_of t)) t)
    go true = beside-last (kids_of t)
    go false = refl

merged-parts : (main methods : Forest Node) → below_top (merged_of main methods) ≡ beside (class_arguments main) (service_of methods)
unfolding below_top class_arguments is_class is_class_kind kids_of beside
merged-parts main methods = go (is_class main)
  where
    go : (c : Bool) → below_top (cond c (class_of (cond c (all_but_last (kids_of main)) end) (service_of methods)) (service_of methods)) ≡ beside (cond c (all_but_last (kids_of main)) end) (service_of methods)
    go true = refl
    go false = refl

-- where there is no class, all of it
top-plain : (t : Forest Node) → is_class t ≡ false → below_top t ≡ t
unfolding below_top
top-plain t e = rw e

below-plain : (t : Forest Node) → is_class t ≡ false → below_class t ≡ t
unfolding below_class
below-plain t e = rw e

no-test : (c : Bool) → (T c → ⊥) → c ≡ false
no-test true h = absurd (h tt)
no-test false h = refl

-- ---- A book whose definitions pass
module _ (b : Book) (fits : Fits b) (formed : WellFormedDefinitions (main_definitions b)) (modes : OneModeDefinitions (main_definitions b)) where
  abbrev ds : List Definition
  ds = main_definitions b

  abbrev main : Forest Node
  main = main_actor b

  abbrev imports : List File
  imports = service_imports b.files

  -- Main's actor and each import's are good.
  abbrev AllGood : Type 0
  AllGood = Good ds (below_top main) × ((f : File) → Memᴰ f imports → Good ds f.actor)

  bodies : (d : Definition) → Memᴰ d ds → Good ds d.body
  bodies d m = (good-says ds d.body).1 (formed.trees d m, modes d m)

  written : (t : Forest Node) → Memᴰ t (services_of main imports) → Written (length b.names) t
  written = all-services (Written (length b.names)) main imports (inr (written-class (length b.names) main (main-actor-written b fits))) (imports-written b fits)

  no-actor : main ≡ end → Good ds (below_top main) × Good ds (below_class main)
  unfolding below_top below_class is_class
  no-actor e = rw e (λ n kids o. occurs-end o, λ n kids o. occurs-end o)

  merged-good : {methods : Forest Node} → Together ds (services_of main imports) methods → Good ds (below_top (merged_of main methods)) ↔ AllGood
  unfolding breadth
  merged-good {methods} r = (
    λ h.
        let p = beside-everywhere (class_arguments main) (service_of methods) (rw (merged-parts main methods) at h) in
        let all = services-all (Good ds) main imports (good-together ds (length b.names) r written (service-good ds _ methods end refl p.1)) in
        (rw (top-parts main) (everywhere-beside (class_arguments main) (below_class main) p.0 (⊎_elim (λ e. (no-actor e).1) (λ g. g) all.0)), all.1),
    λ g.
        let p = beside-everywhere (class_arguments main) (below_class main) (rw (top-parts main) at g.0) in
        let all = together-good ds bodies r (all-services (Good ds) main imports (inr p.1) g.1) in
        rw (merged-parts main methods) (everywhere-beside (class_arguments main) (service_of methods) p.0 (good-service ds _ methods end refl (omega arith) all)),
  )

  resolved-good : MainStands ds main → ImportsStand ds imports → Good ds (below_top (resolve_actor b)) ↔ AllGood
  unfolding resolve_actor
  resolved-good m s =
      ⊎_elim (λ e. rw (resolved-written ds main imports e) (λ h. (h, λ f i. absurd (Memᴰ.not-nil (rw e at i))), λ g. g.0))
      (λ h. rw (resolved-merged ds main imports h) (merged-good (merged-together ds formed.once main imports m s)))
      (none-imported imports)

  -- ---- What the resolved actor says of what is written
  pub resolved-typed : Resolved b → Typed b × Rust b
  unfolding resolve_actor services
  resolved-typed r =
      let good = (resolved-good r.service r.imported).0 ((good-says ds (below_top (resolve_actor b))).1 (r.actor, r.modes)) in
      let top = (good-says ds (below_top main)).0 good.0 in
      let each : (f : File) → Memᴰ f imports → WellFormedTrees ds f.actor × OneMode f.actor = λ f m. (good-says ds f.actor).0 (good.1 f m) in (
        record {
          definitions = formed;
          actor = ⊎_elim inl (λ s. inr record { trees = top.0; service = s }) r.service;
          imports = λ f m.
              let plain = stands-no-class (r.imported f m) in
              inr record { trees = rw (top-plain f.actor plain) (each f m).0; service = rw (below-plain f.actor plain) (r.imported f m) };
        },
        record {
          modes = modes;
          actor_modes = top.1;
          import_modes = λ f m. (each f m).1;
          import_actors = λ f m. none-stands (r.imported f m);
          import_services = λ f m t. rw (stands-no-class (r.imported f m)) at t;
          hashes = ⊎_elim inl hashed r.hashes;
        },
      )
    where
      hashed : Distinct (hashes_of b.names (kids_of (below_class (resolve_actor b)))) → (imports ≡ []) ⊎ Hashed b
      hashed d =
          ⊎_elim inl
          (λ h. let together = merged-together ds formed.once main imports r.service r.imported in
          inr record { methods = found_methods ds main imports; together = together; distinct = rw (resolved-methods b formed.once h together) at d })
          (none-imported imports)

  pub typed-resolved : Typed b → Rust b → Resolved b
  unfolding resolve_actor services
  typed-resolved t r =
      let stands : MainStands ds main = ⊎_elim inl (λ w. inr w.service) t.actor in
      let top : Good ds (below_top main) = ⊎_elim (λ e. (no-actor e).0) (λ w. (good-says ds (below_top main)).1 (w.trees, r.actor_modes)) t.actor in
      let walked = (good-says ds (below_top (resolve_actor b))).0 ((resolved-good stands (λ f m. (each f m).0)).1 (top, λ f m. (good-says ds f.actor).1 ((each f m).1, r.import_modes f m))) in
      record {
        actor = walked.0;
        modes = walked.1;
        service = stands;
        imported = λ f m. (each f m).0;
        hashes = ⊎_elim inl (λ x. ⊎_elim inl (λ h. inr (rw (resolved-methods b formed.once h x.together) x.distinct)) (none-imported imports)) r.hashes;
      }
    where
      each : (f : File) → Memᴰ f imports → StandsFor is_serv_kind ds f.actor × WellFormedTrees ds f.actor
      each f m =
          let plain = no-test (is_class f.actor) (r.import_services f m) in
          ⊎_elim (λ e. absurd (r.import_actors f m e)) (λ w. (rw (below-plain f.actor plain) at w.service, rw (top-plain f.actor plain) at w.trees)) (t.imports f m)
