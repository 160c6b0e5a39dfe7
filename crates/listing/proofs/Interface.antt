-- An actor's class arguments and methods are what the definitions find. Assumes nothing; where it matters that each name is defined once,
-- the lemma says so.
--     function-end, function-unique        what stands at the end of a chain
--     interface-arguments, ..              the arguments and the methods, also where the actor's own alias is followed first
--     stands-interface, ..                 an actor that stands for a service offers some
--     passed-interface, passed-functions   such a book's actor offers methods, and these are functions
use mathlib.Core.Path.{◌≡◌, refl, sym, ap, ◌∙◌}
use mathlib.Core.Bool.{Bool, true, false, cond}
use mathlib.Core.List.{List, map, Memᴰ}
use Prim.Native.Nat.{ℕ}
use lib.Dec.{T}
use lib.ListN.{length}
use Rattle.format.specs.Forest.{Forest, end, tree, breadth, no_trees}
use Rattle.format.specs.Node.{Kind, PrimT, VarT, OptT, VecT, RecordT, VariantT, FuncT, ServT, ClassT, InitT, FuncMode, Node}
use Rattle.format.specs.Book.{Definition, Book}
use Rattle.format.specs.Fits.{Fits}
use Rattle.refusals.specs.declared.Refusal.TheVariants.{NoService}
use Rattle.refusals.specs.Verdict.{passes}
use Rattle.judgement.specs.Environment.{head_kind, head, main_definitions, is_func_kind, is_serv_kind, kids_of}
use Rattle.judgement.specs.Aliases.{ends, alias_end, as_service, methods_at}
use Rattle.judgement.specs.Actor.{service_imports, main_actor, is_class_kind, is_class, last_tree, all_but_last, class_arguments, below_class}
use Rattle.judgement.specs.Resolve.{methods_of, resolve_actor}
use Rattle.judgement.specs.Check.{check, check_forest, imports_verdict, decs_verdict, resolve_verdict}
use Rattle.judgement.specs.Check as judged
use Rattle.format.specs.Occurs.{here}
use Rattle.format.specs.Distinct.{Distinct}
use Rattle.judgement.specs.WellFormed.{defined_name, Leads, arrived, RootIs, StandsFor, MethodsAreFunctions, below_top}
use Rattle.judgement.specs.Meaning.{Serves}
use Rattle.format.proofs.Occurs.{beside-everywhere}
use Rattle.refusals.proofs.Verdicts.{both-pass, unless-passed}
use Rattle.judgement.proofs.Chains.{leads-end, leads-unique, leads-keeps, root-stands}
use Rattle.judgement.proofs.Meaning.{serves-stands, stands-serves, none-stands, stands-no-class, serves-methods}
use Rattle.judgement.proofs.Theorems.{check-typed, actor-trees}
use Rattle.listing.specs.Sites.{type_of}
use Rattle.listing.specs.Offers.{Function, Interface, service, class, Functions, function_breadth}
use Rattle.judgement.proofs.Classes.{is-class, last-beside, others-beside, beside-last, last-sole}

-- ---- Kinds
is-function : (κ : Kind) → T (is_func_kind κ) → (a : ℕ) × (ms : List FuncMode) × (κ ≡ FuncT a ms)
unfolding is_func_kind
is-function (PrimT p) t = absurd t
is-function (VarT n) t = absurd t
is-function OptT t = absurd t
is-function VecT t = absurd t
is-function RecordT t = absurd t
is-function VariantT t = absurd t
is-function (FuncT a ms) t = (a, ms, refl)
is-function ServT t = absurd t
is-function ClassT t = absurd t
is-function InitT t = absurd t

-- ---- Where the definitions find it
module _ (ds : List Definition) (once : Distinct (map defined_name ds)) where
  pub function-end : {t kids : Forest Node} {a : ℕ} (x : Function ds t a kids) → alias_end ds t ≡ ends (tree x.node kids x.next)
  function-end x = leads-end ds once x.leads

  pub function-breadth : {t kids : Forest Node} {a : ℕ} → Function ds t a kids → function_breadth (alias_end ds t) ≡ breadth kids
  unfolding function_breadth is_func_kind
  function-breadth x = rw (function-end x, x.function)

  pub function-unique : {t kids lids : Forest Node} {a c : ℕ} → Function ds t a kids → Function ds t c lids → (a ≡ c) × (kids ≡ lids)
  function-unique {kids = kids} {lids = lids} x y =
      let e : tree x.node kids x.next ≡ tree y.node lids y.next = leads-unique ds once x.leads y.leads in
      let k : kids ≡ lids = cc in
      let n : x.node ≡ y.node = cc in
      let f : FuncT _ x.modes ≡ FuncT _ y.modes = sym x.function ∙ ap (λ (m : Node). m.kind) n ∙ y.function in
      (cc, k)

  serves-no-class : {t methods : Forest Node} → Serves ds t methods → is_class t ≡ false
  serves-no-class x = stands-no-class (serves-stands x)

  pub interface-arguments : {t arguments methods : Forest Node} → Interface ds t arguments methods → class_arguments t ≡ arguments
  unfolding class_arguments is_class kids_of is_class_kind
  interface-arguments (service e x) = rw (serves-no-class x) (sym e)
  interface-arguments {arguments = arguments} (class {last = last} e c one x) = rw (e, c) (others-beside arguments last one)

  pub interface-serves : {t arguments methods : Forest Node} → Interface ds t arguments methods → Serves ds (below_class t) methods
  unfolding below_class is_class kids_of is_class_kind
  interface-serves (service e x) = rw (serves-no-class x) x
  interface-serves {arguments = arguments} (class {last = last} e c one x) = rw (e, c, last-beside arguments last one) x

  pub interface-methods : {t arguments methods : Forest Node} → Interface ds t arguments methods → methods_at (alias_end ds (below_class t)) ≡ methods
  unfolding methods_of
  interface-methods x = serves-methods ds once (interface-serves x)

  -- where the actor's own alias is followed first, the same is found
  pub interface-end : {t arguments methods : Forest Node} → Interface ds t arguments methods → Interface ds (type_of (alias_end ds t)) arguments methods
  unfolding type_of head head_kind
  interface-end {methods = methods} (service e x) =
      let node = x.node in
      rw (leads-end ds once x.leads) (service e record { node = node; next = x.next; leads = arrived {t = tree node methods x.next} (rw x.service); service = x.service })
  interface-end {t} (class {c = c} {next = next} e κ one x) =
      rw (leads-end ds once {t = t} {u = t} (arrived (rw (e, κ)))) (class {next = next} e κ one x)

-- ---- What stands for a function
pub stands-function : {ds : List Definition} {t : Forest Node} → StandsFor is_func_kind ds t → (a : ℕ) × (kids : Forest Node) × Function ds t a kids
stands-function {ds} {t} s = go s.type s.leads s.root
  where
    go : (u : Forest Node) → Leads ds t u → RootIs is_func_kind u → (a : ℕ) × (kids : Forest Node) × Function ds t a kids
    go end l r = absurd r
    go (tree n kids next) l r = let f = is-function n.kind r in (f.0, kids, record { node = n; modes = f.1; next = next; leads = l; function = f.2 })

pub none-serves : {ds : List Definition} {t methods : Forest Node} → Serves ds t methods → t ≡ end → ⊥
none-serves x = none-stands (serves-stands x)

-- ---- An actor that stands for a service below its top
pub stands-interface : (ds : List Definition) (t : Forest Node) → StandsFor is_serv_kind ds (below_class t) →
    (methods : Forest Node) × Interface ds t (class_arguments t) methods
unfolding below_class class_arguments is_class kids_of
stands-interface ds end s = let x = stands-serves s in (x.0, service refl x.1)
stands-interface ds (tree n kids next) s = go (is_class_kind n.kind) (is-class n.kind) s
  where
    go : (c : Bool) → (T c → n.kind ≡ ClassT) → StandsFor is_serv_kind ds (cond c (last_tree kids) (tree n kids next)) →
        (methods : Forest Node) × Interface ds (tree n kids next) (cond c (all_but_last kids) end) methods
    go true h s =
        let x = stands-serves s in
        (x.0, class {last = last_tree kids} {next = next} (ap (λ (f : Forest Node). tree n f next) (beside-last kids)) (h tt) (last-sole kids (none-serves x.1)) x.1)
    go false h s = let x = stands-serves s in (x.0, service refl x.1)

-- Where the methods of all services are functions, those of the actor are.
module _ (ds : List Definition) (bodies : (d : Definition) → Memᴰ d ds → MethodsAreFunctions ds d.body) where
  serves-functions : {t methods : Forest Node} → MethodsAreFunctions ds t → Serves ds t methods → Functions ds methods
  serves-functions {methods = methods} h x n kids i =
      stands-function (leads-keeps ds (MethodsAreFunctions ds) bodies x.leads h x.node methods here x.service n kids i)

  pub interface-functions : (once : Distinct (map defined_name ds)) {t arguments methods : Forest Node} → MethodsAreFunctions ds (below_top t) → Interface ds t arguments methods → Functions ds methods
  unfolding below_top is_class is_class_kind kids_of
  interface-functions once h (service e x) = serves-functions (rw (serves-no-class ds once x) at h) x
  interface-functions once {arguments = arguments} h (class {last = last} e c one x) =
      serves-functions (beside-everywhere arguments last (rw (e, c) at h)).1 x

-- ---- A book that passes
actor-stands : (ds : List Definition) (t : Forest Node) → (t ≡ end → ⊥) → judged.actor_verdict ds t ≡ passes → StandsFor is_serv_kind ds (below_class t)
unfolding judged.actor_verdict no_trees as_service
actor-stands ds end h e = absurd (h refl)
actor-stands ds (tree n kids next) h e =
    let t = tree n kids next in
    let p = both-pass (check_forest false false ds (cond (is_class t) (kids_of t) t)) _ e in
    root-stands ds is_serv_kind (below_class t) (unless-passed (as_service ds (below_class t)) NoService p.1)

module _ (b : Book) (passed : check b ≡ passes) (some : resolve_actor b ≡ end → ⊥) where
  pub passed-stands : StandsFor is_serv_kind (main_definitions b) (below_class (resolve_actor b))
  unfolding check
  passed-stands =
      let p = both-pass (imports_verdict (service_imports b.files)) _ passed in
      let q = both-pass (decs_verdict (length b.names) (main_definitions b)) _ p.1 in
      let r = both-pass (resolve_verdict b.names (main_definitions b) (main_actor b) (service_imports b.files) (resolve_actor b)) _ q.1 in
      actor-stands (main_definitions b) (resolve_actor b) some r.1

  pub passed-interface : (methods : Forest Node) × Interface (main_definitions b) (resolve_actor b) (class_arguments (resolve_actor b)) methods
  passed-interface = stands-interface (main_definitions b) (resolve_actor b) passed-stands

  module _ (fits : Fits b) where
    pub passed-once : Distinct (map defined_name (main_definitions b))
    passed-once = ((check-typed b fits).0 passed).0.definitions.once

    pub passed-functions : {arguments methods : Forest Node} → Interface (main_definitions b) (resolve_actor b) arguments methods → Functions (main_definitions b) methods
    passed-functions =
        let w = ((check-typed b fits).0 passed).0.definitions in
        interface-functions (main_definitions b) (λ d m. (w.trees d m).methods) w.once (actor-trees b fits passed).methods
