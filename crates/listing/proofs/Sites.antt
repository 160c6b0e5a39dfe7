-- `sites` finds the arguments and results of an actor, in document 01's order. Assumes that each name is defined once; where it matters
-- that methods are functions, the lemma says so.
--     indexed-says, indexed-at     trees with their indices
--     class-indexed, ..            the definitions by trees are lists of those
--     sites-are, methods-listed    `sites` is the list, and where methods are functions there is one
--     sites-say                    its elements
--     sites-at, sites-length       where each stands, and how many there are
use mathlib.Core.Path.{◌≡◌, refl, sym, ap, ap₂, subst, ◌∙◌}
use mathlib.Core.Logic.{◌↔◌, ⊎_elim}
use mathlib.Core.List.Memᴰ
use mathlib.Core.List.{List, [], ◌∷◌, ◌++◌, map, Memᴰ}
use Prim.Native.Nat.{ℕ, zero, suc, ◌+◌, ◌-◌, ◌<◌}
use native.Mathlib.Nat.{add-zero, add_assoc, zero-add, suc-add}
use native.Mathlib.Omega.{arith}
use lib.ListN.{length, get_or, length-append, get_or-append}
use lib.Seq.{get_or-append-add}
use Rattle.format.specs.Forest.{Forest, end, tree, breadth, first_tree, other_trees, after_trees}
use Rattle.format.specs.Node.{Node}
use Rattle.format.specs.Book.{Definition}
use Rattle.format.specs.Occurs.{first, later}
use Rattle.format.specs.Distinct.{Distinct}
use Rattle.judgement.specs.WellFormed.{defined_name}
use Rattle.listing.specs.Sites.{Site, class_sites, func_sites, kind_sites, end_sites, method_sites, sites}
use Rattle.listing.specs.Offers.{Function, Interface, Functions, tree_number, first_trees, site, indexed, function_sites, MethodSites, none, method, FunctionSite, argument, result, SiteOf, of_class, of_method, function_place, site_place, arguments_and_results}
use Rattle.listing.proofs.Interface.{function-end, function-breadth, function-unique, interface-arguments, interface-methods, interface-end}

-- ---- Trees by their places
after-none : (k : ℕ) → after_trees {A = Node} k end ≡ end
unfolding after_trees other_trees
after-none zero = refl
after-none (suc k) = after-none k

after-after : (j k : ℕ) (f : Forest Node) → after_trees k (after_trees j f) ≡ after_trees (j + k) f
unfolding after_trees other_trees
after-after zero k f = rw (zero-add k)
after-after (suc j) k f = rw (suc-add j k) (after-after j k (other_trees f))

after-breadth : (k : ℕ) (f : Forest Node) → breadth (after_trees k f) ≡ breadth f - k
unfolding after_trees other_trees breadth
after-breadth zero f = omega arith
after-breadth (suc k) end = rw (after-none k) (omega arith)
after-breadth (suc k) (tree n kids next) = omega (arith, after-breadth k next)

first-breadth : (k : ℕ) (f : Forest Node) → breadth (first_trees k f) + breadth (after_trees k f) ≡ breadth f
unfolding first_trees after_trees other_trees breadth
first-breadth zero f = omega arith
first-breadth (suc k) end = rw (after-none k) refl
first-breadth (suc k) (tree n kids next) = omega (arith, first-breadth k next)

first-at : (k i : ℕ) (f : Forest Node) → i < k → tree_number i (first_trees k f) ≡ tree_number i f
unfolding first_trees after_trees other_trees first_tree
first-at zero i f h = absurd (omega arith)
first-at (suc k) i end h = refl
first-at (suc k) zero (tree n kids next) h = refl
first-at (suc k) (suc i) (tree n kids next) h = first-at k i next (omega arith)

-- ---- Indexed trees
-- an element
pub record Indexed (m r i : ℕ) (f : Forest Node) (s : Site) : Type 0 where
  pub place : ℕ
  pub exists : place < breadth f
  pub same : s ≡ site m r (i + place) (tree_number place f)

pub indexed-says : (m r i : ℕ) (f : Forest Node) (s : Site) → Memᴰ s (indexed m r i f) ↔ Indexed m r i f s
unfolding indexed breadth after_trees other_trees first_tree
indexed-says m r i end s = (λ h. absurd (Memᴰ.not-nil h), λ x. absurd (omega (arith, x.exists)))
indexed-says m r i (tree n kids next) s =
    let below = indexed-says m r (suc i) next s in
    (λ h. ⊎_elim here (λ k. later (below.0 k)) (Memᴰ.cases_cons h), λ x. back x.place x.exists x.same below.1)
  where
    here : s ≡ site m r i (tree n kids end) → Indexed m r i (tree n kids next) s
    here e = record { place = 0; exists = omega arith; same = e ∙ ap (λ (j : ℕ). site m r j (tree n kids end)) (sym (add-zero i)) }

    later : Indexed m r (suc i) next s → Indexed m r i (tree n kids next) s
    later x = record { place = suc x.place; exists = omega (arith, x.exists); same = x.same ∙ ap (λ (j : ℕ). site m r j (tree_number x.place next)) (omega arith) }

    back : (k : ℕ) → k < suc (breadth next) → s ≡ site m r (i + k) (tree_number k (tree n kids next)) → (Indexed m r (suc i) next s → Memᴰ s (indexed m r (suc i) next)) →
        Memᴰ s (site m r i (tree n kids end) ∷ indexed m r (suc i) next)
    back zero h e below = Memᴰ.head (e ∙ ap (λ (j : ℕ). site m r j (tree n kids end)) (add-zero i))
    back (suc k) h e below =
        Memᴰ.tail (below record { place = k; exists = omega arith; same = e ∙ ap (λ (j : ℕ). site m r j (tree_number k next)) (omega arith) })

indexed-length : (m r i : ℕ) (f : Forest Node) → length (indexed m r i f) ≡ breadth f
unfolding indexed breadth
indexed-length m r i end = refl
indexed-length m r i (tree n kids next) = ap suc (indexed-length m r (suc i) next)

indexed-at : (m r i : ℕ) (f : Forest Node) (k : ℕ) (d : Site) → k < breadth f → get_or (indexed m r i f) k d ≡ site m r (i + k) (tree_number k f)
unfolding indexed breadth after_trees other_trees first_tree
indexed-at m r i end k d h = absurd (omega arith)
indexed-at m r i (tree n kids next) zero d h = rw (add-zero i)
indexed-at m r i (tree n kids next) (suc k) d h = indexed-at m r (suc i) next k d (omega arith) ∙ ap (λ (j : ℕ). site m r j (tree_number k next)) (omega arith)

-- ---- `sites` is the list
pub class-indexed : (i : ℕ) (f : Forest Node) → class_sites i f ≡ indexed 65535 0 i f
unfolding class_sites indexed
class-indexed i end = refl
class-indexed i (tree n kids next) = ap (λ (l : List Site). site 65535 0 i (tree n kids end) ∷ l) (class-indexed (suc i) next)

results-indexed : (m i : ℕ) (f : Forest Node) → func_sites m zero i f ≡ indexed m 1 i f
unfolding func_sites indexed
results-indexed m i end = refl
results-indexed m i (tree n kids next) = ap (λ (l : List Site). site m 1 i (tree n kids end) ∷ l) (results-indexed m (suc i) next)

arguments-indexed : (m a i : ℕ) (f : Forest Node) → func_sites m (suc a) i f ≡ indexed m 0 i (first_trees (suc a) f) ++ indexed m 1 0 (after_trees (suc a) f)
unfolding func_sites indexed first_trees after_trees other_trees
arguments-indexed m a i end = rw (after-none a)
arguments-indexed m zero i (tree n kids next) = ap (λ (l : List Site). site m 0 i (tree n kids end) ∷ l) (results-indexed m 0 next)
arguments-indexed m (suc a) i (tree n kids next) = ap (λ (l : List Site). site m 0 i (tree n kids end) ∷ l) (arguments-indexed m a (suc i) next)

pub function-indexed : (m a : ℕ) (f : Forest Node) → func_sites m a 0 f ≡ function_sites m a f
unfolding indexed first_trees after_trees
function-indexed m zero f = results-indexed m 0 f
function-indexed m (suc a) f = arguments-indexed m a 0 f

module _ (ds : List Definition) (once : Distinct (map defined_name ds)) where
  methods-are : {m : ℕ} {f : Forest Node} {l : List Site} → MethodSites ds m f l → method_sites ds m f ≡ l
  unfolding method_sites end_sites kind_sites
  methods-are none = refl
  methods-are (method {m = m} {a = a} {lids = lids} x rest) =
      rw (function-end ds once x, methods-are rest, end_sites, x.function, kind_sites, function-indexed m a lids)

  pub sites-are : {actor arguments methods : Forest Node} {l : List Site} → Interface ds actor arguments methods → MethodSites ds 0 methods l →
      sites ds actor ≡ indexed 65535 0 0 arguments ++ l
  unfolding sites
  sites-are x ms =
      let y = interface-end ds once x in
      ap₂ (λ (k l : List Site). k ++ l) (ap (class_sites 0) (interface-arguments ds once y) ∙ class-indexed 0 _)
      (ap (method_sites ds 0) (interface-methods ds once y) ∙ methods-are ms)

-- ---- Where all methods are functions, there is such a list
pub methods-listed : (ds : List Definition) (f : Forest Node) → Functions ds f → (m : ℕ) → (l : List Site) × MethodSites ds m f l
methods-listed ds end h m = ([], none)
methods-listed ds (tree n kids next) h m =
    let x = h n kids first in
    let rest = methods-listed ds next (λ k lids i. h k lids (later i)) (suc m) in
    (_, method x.2 rest.1)

-- ---- Its elements
function-says : (m a : ℕ) (f : Forest Node) (s : Site) → Memᴰ s (function_sites m a f) ↔ FunctionSite m a f s
function-says m a f s = (λ h. ⊎_elim (λ i. front ((indexed-says m 0 0 (first_trees a f) s).0 i)) (λ i. back ((indexed-says m 1 0 (after_trees a f) s).0 i)) (Memᴰ.append_cases (indexed m 0 0 (first_trees a f)) h), there)
  where
    front : Indexed m 0 0 (first_trees a f) s → FunctionSite m a f s
    front x =
        let k = x.place in
        let small : k < a = omega (arith, x.exists, first-breadth a f, after-breadth a f) in
        argument k small (omega (arith, x.exists, first-breadth a f)) (x.same ∙ ap₂ (λ (j : ℕ) (t : Forest Node). site m 0 j t) (zero-add k) (first-at a k f small))

    back : Indexed m 1 0 (after_trees a f) s → FunctionSite m a f s
    back x =
        let k = x.place in
        result k (omega (arith, x.exists, after-breadth a f)) (x.same ∙ ap₂ (λ (j : ℕ) (t : Forest Node). site m 1 j t) (zero-add k) (ap first_tree (after-after a k f)))

    there : FunctionSite m a f s → Memᴰ s (function_sites m a f)
    there (argument i small exists e) =
        Memᴰ.append_left (indexed m 1 0 (after_trees a f))
        ((indexed-says m 0 0 (first_trees a f) s).1
        record { place = i; exists = omega (arith, first-breadth a f, after-breadth a f); same = e ∙ ap₂ (λ (j : ℕ) (t : Forest Node). site m 0 j t) (sym (zero-add i)) (sym (first-at a i f small)) })
    there (result i exists e) =
        Memᴰ.append_right (indexed m 0 0 (first_trees a f))
        ((indexed-says m 1 0 (after_trees a f) s).1
        record { place = i; exists = omega (arith, after-breadth a f); same = e ∙ ap₂ (λ (j : ℕ) (t : Forest Node). site m 1 j t) (sym (zero-add i)) (sym (ap first_tree (after-after a i f))) })

function-at : (m a : ℕ) (f : Forest Node) {s : Site} (y : FunctionSite m a f s) (d : Site) → get_or (function_sites m a f) (function_place y) d ≡ s
unfolding function_place
function-at m a f (argument i small exists e) d =
    let front = indexed m 0 0 (first_trees a f) in
    let within : i < breadth (first_trees a f) = omega (arith, first-breadth a f, after-breadth a f) in
    get_or-append front (indexed m 1 0 (after_trees a f)) d i (rw (indexed-length m 0 0 (first_trees a f)) within) ∙ indexed-at m 0 0 (first_trees a f) i d within
    ∙ ap₂ (λ (j : ℕ) (t : Forest Node). site m 0 j t) (zero-add i) (first-at a i f small) ∙ sym e
function-at m a f (result i exists e) d =
    let front = indexed m 0 0 (first_trees a f) in
    let all : length front ≡ a = omega (arith, indexed-length m 0 0 (first_trees a f), first-breadth a f, after-breadth a f) in
    ap (λ (k : ℕ). get_or (front ++ indexed m 1 0 (after_trees a f)) (k + i) d) (sym all) ∙ get_or-append-add front (indexed m 1 0 (after_trees a f)) i d
    ∙ indexed-at m 1 0 (after_trees a f) i d (omega (arith, after-breadth a f)) ∙ ap₂ (λ (j : ℕ) (t : Forest Node). site m 1 j t) (zero-add i) (ap first_tree (after-after a i f)) ∙ sym e

function-within : {m a : ℕ} {kids : Forest Node} {s : Site} (y : FunctionSite m a kids s) → function_place y < breadth kids
unfolding function_place
function-within (argument i small exists e) = exists
function-within (result i exists e) = exists

functions-length : (m a : ℕ) (f : Forest Node) → length (function_sites m a f) ≡ breadth f
functions-length m a f =
    omega (
      arith,
      length-append (indexed m 0 0 (first_trees a f)) (indexed m 1 0 (after_trees a f)),
      indexed-length m 0 0 (first_trees a f),
      indexed-length m 1 0 (after_trees a f),
      first-breadth a f,
    )

-- of the methods from position j on
record MethodSite (ds : List Definition) (j : ℕ) (f : Forest Node) (s : Site) : Type 0 where
  place : ℕ
  arguments : ℕ
  kids : Forest Node
  exists : place < breadth f
  function : Function ds (tree_number place f) arguments kids
  of-function : FunctionSite (j + place) arguments kids s

module _ (ds : List Definition) (once : Distinct (map defined_name ds)) where
  methods-say : {j : ℕ} {f : Forest Node} {l : List Site} → MethodSites ds j f l → (s : Site) → Memᴰ s l ↔ MethodSite ds j f s
  unfolding breadth after_trees other_trees first_tree
  methods-say none s = (λ h. absurd (Memᴰ.not-nil h), λ x. absurd (omega (arith, x.exists)))
  methods-say (method {m = j} {a = a} {n = n} {kids = kids} {lids = lids} {next = next} {l = l} x rest) s =
      let own = function-says j a lids s in
      let below = methods-say rest s in (
        λ h. ⊎_elim (λ i. here (own.0 i)) (λ i. later-method (below.0 i)) (Memᴰ.append_cases (function_sites j a lids) h),
        λ y. back y.place y.exists y.function y.of-function own.1 below.1,
      )
    where
      here : FunctionSite j a lids s → MethodSite ds j (tree n kids next) s
      here y = record { place = 0; arguments = a; kids = lids; exists = omega arith; function = x; of-function = subst (λ (k : ℕ). FunctionSite k a lids s) (sym (add-zero j)) y }

      later-method : MethodSite ds (suc j) next s → MethodSite ds j (tree n kids next) s
      later-method y = record {
        place = suc y.place;
        arguments = y.arguments;
        kids = y.kids;
        exists = omega (arith, y.exists);
        function = y.function;
        of-function = subst (λ (k : ℕ). FunctionSite k y.arguments y.kids s) (omega arith) y.of-function;
      }

      back : (k : ℕ) {c : ℕ} {mids : Forest Node} → k < suc (breadth next) → Function ds (tree_number k (tree n kids next)) c mids → FunctionSite (j + k) c mids s →
          (FunctionSite j a lids s → Memᴰ s (function_sites j a lids)) →
          (MethodSite ds (suc j) next s → Memᴰ s l) → Memᴰ s (function_sites j a lids ++ l)
      back zero h f y own below =
          let u = function-unique ds once f x in
          Memᴰ.append_left l (own (rw (add-zero j, u.0, u.1) at y))
      back (suc k) {c} {mids} h f y own below =
          Memᴰ.append_right (function_sites j a lids)
          (below record { place = k; arguments = c; kids = mids; exists = omega arith; function = f; of-function = subst (λ (i : ℕ). FunctionSite i c mids s) (omega arith) y })

  methods-length : {j : ℕ} {f : Forest Node} {l : List Site} → MethodSites ds j f l → length l ≡ arguments_and_results ds f
  unfolding arguments_and_results
  methods-length none = refl
  methods-length (method {m = j} {a = a} {lids = lids} {l = l} x rest) =
      rw (function-breadth ds once x) (omega (arith, methods-length rest, length-append (function_sites j a lids) l, functions-length j a lids))

  -- at the place of an element stands that element
  methods-at : {j : ℕ} {f : Forest Node} {l : List Site} → MethodSites ds j f l → (m : ℕ) {k a : ℕ} {kids : Forest Node} → j + m ≡ k → m < breadth f →
      Function ds (tree_number m f) a kids → {s : Site} (y : FunctionSite k a kids s) (d : Site) → get_or l (arguments_and_results ds (first_trees m f) + function_place y) d ≡ s
  unfolding breadth after_trees other_trees first_tree first_trees arguments_and_results
  methods-at none m q h f y d = absurd (omega arith)
  methods-at (method {m = j} {a = a} {lids = lids} {l = l} x rest) zero {k = k} {a = c} {kids = mids} q h f y d =
      let own = function_sites j a lids in
      let u = function-unique ds once x f in
      let within : function_place y < length own = omega (arith, function-within y, functions-length j a lids, ap breadth u.1) in
      rw (zero-add (function_place y)) (get_or-append own l d (function_place y) within ∙ rw (sym (add-zero j) ∙ q, u.0, u.1) (function-at k c mids y d))
  methods-at (method {m = j} {a = a} {lids = lids} {next = next} {l = l} x rest) (suc m) {kids = kids} q h f y d =
      let own = function_sites j a lids in
      let before = arguments_and_results ds (first_trees m next) in
      rw (function-breadth ds once x, add_assoc (breadth lids) before (function_place y), ← functions-length j a lids)
      (get_or-append-add own l (before + function_place y) d ∙ methods-at rest m (omega arith) (omega arith) f y d)

  -- ---- All of an actor
  module _ {actor arguments methods : Forest Node} (x : Interface ds actor arguments methods) (functions : Functions ds methods) where
    pub sites-say : (s : Site) → Memᴰ s (sites ds actor) ↔ SiteOf ds arguments methods s
    sites-say s =
        let ms = methods-listed ds methods functions 0 in
        rw (sites-are ds once x ms.1) (λ h. ⊎_elim (λ i. of_class' ((indexed-says 65535 0 0 arguments s).0 i)) (λ i. of_method' ((methods-say ms.1 s).0 i)) (Memᴰ.append_cases (indexed 65535 0 0 arguments) h), back ms.0 ms.1)
      where
        of_class' : Indexed 65535 0 0 arguments s → SiteOf ds arguments methods s
        of_class' y = of_class y.place y.exists (y.same ∙ ap (λ (j : ℕ). site 65535 0 j (tree_number y.place arguments)) (zero-add y.place))

        of_method' : MethodSite ds 0 methods s → SiteOf ds arguments methods s
        of_method' y = of_method y.exists y.function (subst (λ (j : ℕ). FunctionSite j y.arguments y.kids s) (zero-add y.place) y.of-function)

        back : (l : List Site) → MethodSites ds 0 methods l → SiteOf ds arguments methods s → Memᴰ s (indexed 65535 0 0 arguments ++ l)
        back l ms (of_class i h e) =
            Memᴰ.append_left l ((indexed-says 65535 0 0 arguments s).1 record { place = i; exists = h; same = e ∙ ap (λ (j : ℕ). site 65535 0 j (tree_number i arguments)) (sym (zero-add i)) })
        back l ms (of_method {m = m} {a = a} {kids = kids} h f y) =
            Memᴰ.append_right (indexed 65535 0 0 arguments)
            ((methods-say ms s).1 record { place = m; arguments = a; kids = kids; exists = h; function = f; of-function = subst (λ (j : ℕ). FunctionSite j a kids s) (sym (zero-add m)) y })

    pub sites-length : length (sites ds actor) ≡ breadth arguments + arguments_and_results ds methods
    sites-length =
        let ms = methods-listed ds methods functions 0 in
        rw (sites-are ds once x ms.1, length-append (indexed 65535 0 0 arguments) ms.0, indexed-length 65535 0 0 arguments, methods-length ms.1)

    pub sites-at : {s : Site} (y : SiteOf ds arguments methods s) (d : Site) → get_or (sites ds actor) (site_place y) d ≡ s
    unfolding site_place
    sites-at {s} (of_class i h e) d =
        let ms = methods-listed ds methods functions 0 in
        let front = indexed 65535 0 0 arguments in
        rw (sites-are ds once x ms.1)
        (get_or-append front ms.0 d i (rw (indexed-length 65535 0 0 arguments) h) ∙ indexed-at 65535 0 0 arguments i d h
        ∙ ap (λ (j : ℕ). site 65535 0 j (tree_number i arguments)) (zero-add i) ∙ sym e)
    sites-at {s} (of_method {m = m} h f y) d =
        let ms = methods-listed ds methods functions 0 in
        let front = indexed 65535 0 0 arguments in
        let before = arguments_and_results ds (first_trees m methods) in
        rw (sites-are ds once x ms.1, ← indexed-length 65535 0 0 arguments)
        (get_or-append-add front ms.0 (before + function_place y) d ∙ methods-at ms.1 m (zero-add m) h f y d)
