-- Laws of the actor that a book means: the relations of Meaning.antt against what `resolve_actor` finds. Assumes nothing; where it matters that
-- each name is defined once, the lemma says so.
--     serves-stands, stands-serves       a type that leads to a service has methods
--     none-stands, stands-no-class       there is something, and it is no class
--     serves-methods, serves-unique      they are what is found
--     all-services, services-all         of main's type and each import's, one by one
--     together-stands, together-main, .. where all methods are taken together, each type leads to a service
--     merged-together, together-merged   and then they are those that are found, and no others
--     merged-below, resolved-methods     they are the methods of the resolved actor
--     actor-of, actor-unique             the resolved actor is the actor of the book, and the only one
use mathlib.Core.Path.{◌≡◌, refl, sym, ap, ap₂, subst, ◌∙◌}
use mathlib.Core.Logic.{◌⊎◌, inl, inr, ⊎_elim}
use mathlib.Core.Bool.{Bool, true, false, cond}
use mathlib.Core.List.Memᴰ
use mathlib.Core.List.{List, [], ◌∷◌, ◌++◌, map, Memᴰ}
use Prim.Native.Nat.{ℕ}
use native.Mathlib.Omega.{arith}
use Rattle.format.specs.Forest.{Forest, end, tree, beside, breadth}
use Rattle.format.specs.Node.{Kind, ServT, Node}
use Rattle.format.specs.Book.{Definition, File, Book}
use Rattle.format.specs.Distinct.{Distinct}
use Rattle.judgement.specs.Environment.{main_definitions, head, is_serv_kind, kids_of}
use Rattle.judgement.specs.Aliases.{ends, methods_at}
use Rattle.judgement.specs.Actor.{service_imports, main_actor, is_class_kind, is_class, class_arguments, below_class, service_of, class_of, merged_of}
use Rattle.judgement.specs.Resolve.{methods_of, imported_methods, merged_actor, resolve_with, resolve_actor}
use Rattle.judgement.specs.WellFormed.{defined_name, Leads, arrived, onward, RootIs, StandsFor}
use Rattle.judgement.specs.Meaning.{Serves, Together, none, more, main_service, actor_of, services, ActorOf, written, merged}
use Rattle.judgement.proofs.Heads.{other-named, named-no-class}
use Rattle.judgement.proofs.Chains.{leads-end}
use Rattle.judgement.proofs.Walks.{is-service, service-is}
use Rattle.judgement.proofs.Classes.{last-beside}

pub some-tree : {n : Node} {kids next : Forest Node} {A : Type 0} → tree n kids next ≡ end → A
some-tree e = let z : ◌≡◌ {A = ℕ} 0 1 = cc in absurd (omega arith)

-- ---- A type that leads to a service
pub serves-stands : {ds : List Definition} {t methods : Forest Node} → Serves ds t methods → StandsFor is_serv_kind ds t
serves-stands {methods = methods} x = record { type = tree x.node methods x.next; leads = x.leads; root = service-is x.node.kind x.service }

pub stands-serves : {ds : List Definition} {t : Forest Node} → StandsFor is_serv_kind ds t → (methods : Forest Node) × Serves ds t methods
stands-serves {ds} {t} s = go s.type s.leads s.root
  where
    go : (u : Forest Node) → Leads ds t u → RootIs is_serv_kind u → (methods : Forest Node) × Serves ds t methods
    go end l r = absurd r
    go (tree n kids next) l r = (kids, record { node = n; next = next; leads = l; service = is-service n.kind r })

-- no tree stands for nothing, and a class for no service
none-leads : {ds : List Definition} {t u : Forest Node} → Leads ds t u → t ≡ end → u ≡ end
unfolding head
none-leads (arrived h) e = e
none-leads (onward h m q l) e = let g = rw e at h in other-named refl g

pub none-stands : {test : Kind → Bool} {ds : List Definition} {t : Forest Node} → StandsFor test ds t → t ≡ end → ⊥
none-stands {test} s e = subst (RootIs test) (none-leads s.leads e) s.root

root-no-class : (t : Forest Node) → RootIs is_serv_kind t → is_class t ≡ false
unfolding is_class is_class_kind
root-no-class end r = refl
root-no-class (tree n kids next) r = rw (is-service n.kind r)

leads-no-class : {ds : List Definition} {t u : Forest Node} → Leads ds t u → RootIs is_serv_kind u → is_class t ≡ false
leads-no-class {t = t} (arrived h) r = root-no-class t r
leads-no-class {t = t} (onward h m q l) r = named-no-class t h

pub stands-no-class : {ds : List Definition} {t : Forest Node} → StandsFor is_serv_kind ds t → is_class t ≡ false
stands-no-class s = leads-no-class s.leads s.root

-- the methods of a service are its children
service-methods : (node : Node) (methods next : Forest Node) → node.kind ≡ ServT → methods_at (ends (tree node methods next)) ≡ methods
unfolding methods_at kids_of is_serv_kind
service-methods node methods next e =
    subst (λ (k : Kind). methods_at (ends (tree record { kind = k; label = node.label } methods next)) ≡ methods) (sym e) refl

-- ---- The methods of several types

-- Main's methods, where there is one, and the imports'.
abbrev pub services_of : Forest Node → List File → List (Forest Node)
services_of main fs = main_service main ++ map actor_of fs

abbrev pub found_methods : List Definition → Forest Node → List File → Forest Node
found_methods ds main fs = beside (methods_of ds (below_class main)) (imported_methods ds fs)

-- Main, where there is one, and each import stand for a service.
abbrev pub MainStands : List Definition → Forest Node → Type 0
MainStands ds main = (main ≡ end) ⊎ StandsFor is_serv_kind ds (below_class main)

abbrev pub ImportsStand : List Definition → List File → Type 0
ImportsStand ds fs = (f : File) → Memᴰ f fs → StandsFor is_serv_kind ds f.actor

-- Of each of these types: of main's, where there is one, and of each import's.
module _ (P : Forest Node → Type 0) where
  pub all-services : (main : Forest Node) (fs : List File) → (main ≡ end) ⊎ P (below_class main) → ((f : File) → Memᴰ f fs → P f.actor) →
      (t : Forest Node) → Memᴰ t (services_of main fs) → P t
  unfolding main_service
  all-services main fs h k t = go main h
    where
      imported : Memᴰ t (map actor_of fs) → P t
      imported m = let f = Memᴰ.of_map actor_of fs m in subst P f.2 (k f.0 f.1)

      go : (main : Forest Node) → (main ≡ end) ⊎ P (below_class main) → Memᴰ t (services_of main fs) → P t
      go end h m = imported m
      go (tree n kids next) h m =
          ⊎_elim (λ (e : t ≡ below_class (tree n kids next)). subst P (sym e) (⊎_elim (λ e. some-tree e) (λ p. p) h)) imported (Memᴰ.cases_cons m)

  pub services-all : (main : Forest Node) (fs : List File) → ((t : Forest Node) → Memᴰ t (services_of main fs) → P t) →
      ((main ≡ end) ⊎ P (below_class main)) × ((f : File) → Memᴰ f fs → P f.actor)
  unfolding main_service
  services-all end fs h = (inl refl, λ f m. h f.actor (Memᴰ.map actor_of m))
  services-all (tree n kids next) fs h = (inr (h _ (Memᴰ.head refl)), λ f m. h f.actor (Memᴰ.tail (Memᴰ.map actor_of m)))

module _ {ds : List Definition} where
  pub together-stands : {ts : List (Forest Node)} {methods : Forest Node} → Together ds ts methods → (t : Forest Node) → Memᴰ t ts → StandsFor is_serv_kind ds t
  together-stands none t m = absurd (Memᴰ.not-nil m)
  together-stands (more x r) t m = ⊎_elim (λ e. subst (StandsFor is_serv_kind ds) (sym e) (serves-stands x)) (λ i. together-stands r t i) (Memᴰ.cases_cons m)

  pub together-main : (main : Forest Node) (fs : List File) {methods : Forest Node} → Together ds (services_of main fs) methods → MainStands ds main
  together-main main fs r = (services-all (StandsFor is_serv_kind ds) main fs (together-stands r)).0

  pub together-imports : (main : Forest Node) (fs : List File) {methods : Forest Node} → Together ds (services_of main fs) methods → ImportsStand ds fs
  together-imports main fs r = (services-all (StandsFor is_serv_kind ds) main fs (together-stands r)).1

module _ (ds : List Definition) (once : Distinct (map defined_name ds)) where
  pub serves-methods : {t methods : Forest Node} → Serves ds t methods → methods_of ds t ≡ methods
  unfolding methods_of
  serves-methods {methods = methods} x = ap methods_at (leads-end ds once x.leads) ∙ service-methods x.node methods x.next x.service

  pub serves-unique : {t methods others : Forest Node} → Serves ds t methods → Serves ds t others → methods ≡ others
  serves-unique x y = sym (serves-methods x) ∙ serves-methods y

  pub together-unique : {ts : List (Forest Node)} {methods others : Forest Node} → Together ds ts methods → Together ds ts others → methods ≡ others
  together-unique none none = refl
  together-unique (more x r) (more y s) = ap₂ beside (serves-unique x y) (together-unique r s)

  found-serves : {t : Forest Node} → StandsFor is_serv_kind ds t → Serves ds t (methods_of ds t)
  found-serves {t} s = let x = stands-serves s in subst (Serves ds t) (sym (serves-methods x.1)) x.1

  actors-together : (fs : List File) → ImportsStand ds fs → Together ds (map actor_of fs) (imported_methods ds fs)
  unfolding imported_methods
  actors-together [] s = none
  actors-together (f ∷ fs) s = more (found-serves (s f (Memᴰ.head refl))) (actors-together fs (λ g m. s g (Memᴰ.tail m)))

  -- no tree has no methods
  no-methods : methods_of ds (below_class end) ≡ end
  unfolding methods_of methods_at kids_of below_class is_class head
  no-methods = ap methods_at (leads-end ds once (arrived {t = end} refl))

  pub merged-together : (main : Forest Node) (fs : List File) → MainStands ds main → ImportsStand ds fs → Together ds (services_of main fs) (found_methods ds main fs)
  unfolding main_service beside
  merged-together end fs m s = rw no-methods (actors-together fs s)
  merged-together (tree n kids next) fs m s = more (found-serves (⊎_elim (λ e. some-tree e) (λ x. x) m)) (actors-together fs s)

  pub together-merged : (main : Forest Node) (fs : List File) {methods : Forest Node} → Together ds (services_of main fs) methods → methods ≡ found_methods ds main fs
  together-merged main fs r = together-unique r (merged-together main fs (together-main main fs r) (together-imports main fs r))

-- ---- The actor
pub merged-below : (main methods : Forest Node) → below_class (merged_of main methods) ≡ service_of methods
unfolding below_class is_class is_class_kind kids_of breadth
merged-below main methods = go (is_class main)
  where
    go : (c : Bool) → below_class (cond c (class_of (class_arguments main) (service_of methods)) (service_of methods)) ≡ service_of methods
    go true = last-beside (class_arguments main) (service_of methods) refl
    go false = refl

-- Without service imports the resolved actor is main's, and with them main's with the methods that are found.
pub resolved-written : (ds : List Definition) (main : Forest Node) (fs : List File) → fs ≡ [] → resolve_with ds main fs ≡ main
unfolding resolve_with
resolved-written ds main [] e = refl
resolved-written ds main (f ∷ fs) e = let z : ◌≡◌ {A = ℕ} 0 1 = cc in absurd (omega arith)

pub resolved-merged : (ds : List Definition) (main : Forest Node) (fs : List File) → (fs ≡ [] → ⊥) → resolve_with ds main fs ≡ merged_of main (found_methods ds main fs)
unfolding resolve_with merged_actor
resolved-merged ds main [] h = absurd (h refl)
resolved-merged ds main (f ∷ fs) h = refl

-- Which of the two it is.
pub none-imported : (fs : List File) → (fs ≡ []) ⊎ (fs ≡ [] → ⊥)
none-imported [] = inl refl
none-imported (f ∷ fs) = inr (λ e. let z : ◌≡◌ {A = ℕ} 0 1 = cc in omega arith)

module _ (b : Book) where
  abbrev ds : List Definition
  ds = main_definitions b

  abbrev imports : List File
  imports = service_imports b.files

  module _ (once : Distinct (map defined_name ds)) where
    pub resolved-together : {methods : Forest Node} → (imports ≡ [] → ⊥) → Together ds (services b) methods → resolve_actor b ≡ merged_of (main_actor b) methods
    unfolding resolve_actor services
    resolved-together h r =
        resolved-merged ds (main_actor b) imports h ∙ ap (merged_of (main_actor b)) (sym (together-merged ds once (main_actor b) imports r))

    pub resolved-methods : {methods : Forest Node} → (imports ≡ [] → ⊥) → Together ds (services b) methods → kids_of (below_class (resolve_actor b)) ≡ methods
    unfolding kids_of
    resolved-methods {methods} h r = rw (resolved-together h r, merged-below (main_actor b) methods)

    pub actor-unique : {t : Forest Node} → ActorOf b t → t ≡ resolve_actor b
    unfolding resolve_actor
    actor-unique (written e) = sym (resolved-written ds (main_actor b) imports e)
    actor-unique (merged h r) = sym (resolved-together h r)

    pub actor-of : MainStands ds (main_actor b) → ImportsStand ds imports → ActorOf b (resolve_actor b)
    unfolding resolve_actor services
    actor-of m s =
        ⊎_elim (λ e. subst (ActorOf b) (sym (resolved-written ds (main_actor b) imports e)) (written e))
        (λ h. subst (ActorOf b) (sym (resolved-merged ds (main_actor b) imports h)) (merged h (merged-together ds once (main_actor b) imports m s)))
        (none-imported imports)
