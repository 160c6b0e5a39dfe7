-- How many methods an actor offers at most, and arguments and results of a method. Assumes that the book fits.
--     methods-few                    4,096: trees of the book have no more nodes; with imports methods differ by hash, and names are fewer
--     resolved-slim, results-few     at most 4,096 of each method, and 4,097 of a class
use mathlib.Core.Path.{◌≡◌, refl, sym, ap}
use mathlib.Core.Logic.{⊎_elim}
use mathlib.Core.Bool.{Bool, true, false, cond}
use mathlib.Core.List.Memᴰ
use mathlib.Core.List.{List, [], ◌∷◌, map, Memᴰ}
use Prim.Native.Nat.{ℕ, zero, suc, ◌+◌, ◌*◌, ◌≤◌}
use native.Mathlib.Omega.{arith}
use lib.ListN.{length, length-map, get_or}
use Rattle.labels.specs.Number.{label_number}
use Rattle.format.specs.Forest.{Forest, end, tree, beside, count, breadth}
use Rattle.format.specs.Node.{Node}
use Rattle.format.specs.Book.{Definition, File, Book, bodies, actors, trees}
use Rattle.format.specs.Fits.{Fits}
use Rattle.format.proofs.Trees.{breadth-count, count-beside, breadth-beside}
use Rattle.format.proofs.Encoded.{fit-parts}
use Rattle.refusals.specs.Verdict.{passes}
use Rattle.judgement.specs.Environment.{main_definitions, Head, named, other, head_kind, head, is_func_kind, is_serv_kind, kids_of}
use Rattle.judgement.specs.Aliases.{End, unbound, circle, ends, alias_end, methods_at}
use Rattle.judgement.specs.Actor.{is_service_import, service_imports, is_class_kind, is_class, last_tree, all_but_last, first_actor, main_actor, class_arguments, below_class, service_of, class_of}
use Rattle.judgement.specs.Resolve.{methods_of, imported_methods, merged_actor, resolve_with, resolve_actor}
use Rattle.judgement.specs.Check.{check}
use Rattle.format.specs.Distinct.{Distinct}
use Rattle.format.specs.Labels.{keys_of, method_names}
use Rattle.judgement.specs.WellFormed.{Leads, arrived, onward}
use Rattle.judgement.specs.Rust.{hash_of, hashes_of}
use Rattle.format.proofs.Distinct.{pigeonhole}
use Rattle.judgement.proofs.Lookup.{keep-says}
use Rattle.judgement.proofs.Chains.{stops, run-end, end-leads, leads-keeps}
use Rattle.judgement.proofs.Theorems.{actor-hashes}
use Rattle.listing.specs.Offers.{function_breadth, arguments_and_results}
use Rattle.judgement.proofs.Classes.{last-beside}
use Rattle.judgement.proofs.Methods.{methods-keep}

-- A forest has no more nodes than a book may have.
abbrev Held : Forest Node → Type 0
Held f = count f ≤ 4096

-- Its trees are no more.
abbrev Few : Forest Node → Type 0
Few f = breadth f ≤ 4096

-- parts of a forest have no more nodes
kids-count : (f : Forest Node) → count (kids_of f) ≤ count f
unfolding kids_of count
kids-count end = omega arith
kids-count (tree n kids next) = omega arith

last-count : (f : Forest Node) → count (last_tree f) ≤ count f
unfolding last_tree count
last-count end = omega arith
last-count (tree n kids end) = omega arith
last-count (tree n kids (tree m lids next)) = omega (arith, last-count (tree m lids next))

below-count : (f : Forest Node) → count (below_class f) ≤ count f
unfolding below_class
below-count f = go (is_class f)
  where
    go : (c : Bool) → count (cond c (last_tree (kids_of f)) f) ≤ count f
    go true = omega (arith, last-count (kids_of f), kids-count f)
    go false = omega arith

body-count : (ds : List Definition) (d : Definition) → Memᴰ d ds → count d.body ≤ count (bodies ds)
unfolding bodies
body-count [] d m = absurd (Memᴰ.not-nil m)
body-count (e ∷ ds) d (Memᴰ.head q) = omega (arith, count-beside e.body (bodies ds), ap (λ (x : Definition). count x.body) q)
body-count (e ∷ ds) d (Memᴰ.tail m) = omega (arith, count-beside e.body (bodies ds), body-count ds d m)

first-count : (fs : List File) → count (first_actor fs) ≤ count (actors fs)
unfolding first_actor actors count
first-count [] = omega arith
first-count (f ∷ fs) = omega (arith, count-beside f.actor (actors fs))

-- hashes that differ are no more than there are names, and one
pub names-long : (f : Forest Node) → length (method_names f) ≡ breadth f
unfolding keys_of breadth
names-long end = refl
names-long (tree n kids next) = ap suc (names-long next)

bytes-listed : (names : List (List ℕ)) (n : ℕ) → Memᴰ (get_or names n []) ([] ∷ names)
bytes-listed [] n = Memᴰ.head refl
bytes-listed (s ∷ names) zero = Memᴰ.tail (Memᴰ.head refl)
bytes-listed (s ∷ names) (suc n) =
    ⊎_elim (λ e. Memᴰ.head e) (λ m. Memᴰ.tail (Memᴰ.tail m)) (Memᴰ.cases_cons (bytes-listed names n))

hash-listed : (names : List (List ℕ)) (ns : List ℕ) (h : ℕ) → Memᴰ h (map (hash_of names) ns) → Memᴰ h (map label_number ([] ∷ names))
hash-listed names ns h m = let f = Memᴰ.of_map (hash_of names) ns m in Memᴰ.cast (sym f.2) (Memᴰ.map label_number (bytes-listed names f.0))

pub hashes-few : (names : List (List ℕ)) (f : Forest Node) → Distinct (hashes_of names f) → breadth f ≤ suc (length names)
hashes-few names f h =
    omega (arith, pigeonhole h (map label_number ([] ∷ names)) (hash-listed names (method_names f)), names-long f, length-map (method_names f) (hash_of names), length-map ([] ∷ names) label_number)

-- ---- Arguments and results

-- The methods' own children are few.
abbrev pub Slim : Forest Node → Type 0
Slim end = Unit {0}
Slim (tree n kids next) = (breadth kids ≤ 4096) × Slim next

held-slim : (f : Forest Node) → Held f → Slim f
unfolding count
held-slim end h = tt
held-slim (tree n kids next) h = (omega (arith, breadth-count kids), held-slim next (omega arith))

beside-slim : (f g : Forest Node) → Slim f → Slim g → Slim (beside f g)
unfolding beside
beside-slim end g h k = k
beside-slim (tree n kids next) g h k = (h.0, beside-slim next g h.1 k)

others-breadth : (f : Forest Node) → breadth (all_but_last f) ≤ breadth f
unfolding all_but_last breadth
others-breadth end = omega arith
others-breadth (tree n kids end) = omega arith
others-breadth (tree n kids (tree m lids next)) = omega (arith, others-breadth (tree m lids next))

arguments-breadth : (t : Forest Node) → breadth (class_arguments t) ≤ breadth (kids_of t)
unfolding class_arguments breadth
arguments-breadth t = go (is_class t)
  where
    go : (c : Bool) → breadth (cond c (all_but_last (kids_of t)) end) ≤ breadth (kids_of t)
    go true = others-breadth (kids_of t)
    go false = omega arith

imports-count : (fs : List File) (f : File) → Memᴰ f (service_imports fs) → count f.actor ≤ count (actors fs)
unfolding service_imports actors
imports-count [] f m = absurd (Memᴰ.not-nil m)
imports-count (g ∷ fs) f m = go (is_service_import g.role) (imports-count fs f) m
  where
    go : (c : Bool) → (Memᴰ f (service_imports fs) → count f.actor ≤ count (actors fs)) →
        Memᴰ f (cond c (g ∷ service_imports fs) (service_imports fs)) → count f.actor ≤ count (beside g.actor (actors fs))
    go true later m =
        let both = count-beside g.actor (actors fs) in
        ⊎_elim (λ (e : f ≡ g). omega (arith, both, ap (λ (x : File). count x.actor) e)) (λ k. omega (arith, both, later k))
        (Memᴰ.cases_cons m)
    go false later m = omega (arith, count-beside g.actor (actors fs), later m)

module _ (b : Book) (fits : Fits b) where
  abbrev ds : List Definition
  ds = main_definitions b

  book-count : count (bodies b.definitions) + count (actors b.files) ≤ 4096
  unfolding trees
  book-count = omega (arith, count-beside (bodies b.definitions) (actors b.files), (fit-parts fits).few_nodes)

  tree-count : (d : Definition) → Memᴰ d ds → Held d.body
  unfolding main_definitions
  tree-count d m = omega (arith, body-count b.definitions d ((keep-says _ b.definitions d).0 m).0, book-count)

  actor-count : Held (main_actor b)
  unfolding main_actor
  actor-count = omega (arith, first-count b.files, book-count)

  below-held : Held (below_class (main_actor b))
  below-held = omega (arith, below-count (main_actor b), actor-count)

  -- the end of a chain from a tree of the book, or from a name, is one of the book
  held-methods : (t : Forest Node) → Held t → breadth (kids_of t) ≤ 4096
  held-methods t h = omega (arith, breadth-count (kids_of t), kids-count t)

  end-methods : (t : Forest Node) → ((u : Forest Node) → Leads ds t u → Held u) → breadth (methods_at (alias_end ds t)) ≤ 4096
  unfolding methods_at breadth
  end-methods t held = go (alias_end ds t) refl
    where
      go : (e : End) → alias_end ds t ≡ e → breadth (methods_at e) ≤ 4096
      go (unbound n) q = omega arith
      go circle q = omega arith
      go (ends u) q = methods-keep Few (omega arith) u (held-methods u (held u (end-leads ds t u q)))

  named-held : {t u : Forest Node} {n : ℕ} → head t ≡ named n → Leads ds t u → Held u
  named-held e (arrived h) = let z : ◌≡◌ {A = ℕ} 0 1 = cc in absurd (omega arith)
  named-held e (onward {d = d} h m q l) = leads-keeps ds Held tree-count l (tree-count d m)

  hashed-few : (t : Forest Node) → Distinct (hashes_of b.names (kids_of t)) → breadth (methods_at (alias_end ds t)) ≤ 4096
  unfolding breadth
  hashed-few t once = go (head t) refl
    where
      go : (h : Head) → head t ≡ h → breadth (methods_at (alias_end ds t)) ≤ 4096
      go other e =
          rw (run-end ds (stops e))
          (methods-keep Few (omega arith) t (omega (arith, hashes-few b.names (kids_of t) once, (fit-parts fits).few_names)))
      go (named n) e = end-methods t (λ u l. named-held e l)

  pub methods-few : check b ≡ passes → breadth (methods_at (alias_end ds (below_class (resolve_actor b)))) ≤ 4096
  unfolding resolve_actor resolve_with
  methods-few passed =
      ⊎_elim (λ none. rw none (end-methods (below_class (main_actor b)) (λ u l. leads-keeps ds Held tree-count l below-held)))
      (hashed-few (below_class (resolve_actor b))) (actor-hashes b fits passed)

  methods-slim : (t : Forest Node) → Held t → Slim (methods_at (alias_end ds t))
  unfolding methods_at
  methods-slim t h = go (alias_end ds t) refl
    where
      go : (e : End) → alias_end ds t ≡ e → Slim (methods_at e)
      go (unbound n) q = tt
      go circle q = tt
      go (ends u) q =
          methods-keep Slim tt u (held-slim (kids_of u) (omega (arith, kids-count u, leads-keeps ds Held tree-count (end-leads ds t u q) h)))

  imported-slim : (fs : List File) → ((f : File) → Memᴰ f fs → Held f.actor) → Slim (imported_methods ds fs)
  unfolding imported_methods methods_of
  imported-slim [] h = tt
  imported-slim (f ∷ fs) h =
      beside-slim (methods_of ds f.actor) (imported_methods ds fs) (methods-slim f.actor (h f (Memᴰ.head refl)))
      (imported-slim fs (λ g m. h g (Memᴰ.tail m)))

  main-slim : Slim (methods_at (alias_end ds (below_class (main_actor b))))
  main-slim = methods-slim (below_class (main_actor b)) below-held

  main-arguments : breadth (class_arguments (main_actor b)) ≤ 4096
  main-arguments = omega (arith, arguments-breadth (main_actor b), held-methods (main_actor b) actor-count)

  -- with service imports
  module _ (fs : List File) (few : (f : File) → Memᴰ f fs → Held f.actor) where
    abbrev arguments : Forest Node
    arguments = class_arguments (main_actor b)

    abbrev merged : Forest Node
    merged = beside (methods_of ds (below_class (main_actor b))) (imported_methods ds fs)

    merged-slim : Slim (methods_at (alias_end ds (below_class (merged_actor ds (main_actor b) fs))))
    unfolding merged_actor below_class is_class is_class_kind is_serv_kind kids_of head head_kind methods_at methods_of breadth
    merged-slim = go (is_class (main_actor b))
      where
        served : Slim (methods_at (alias_end ds (service_of merged)))
        served =
            rw (run-end ds (stops {t = service_of merged} refl))
            (beside-slim (methods_of ds (below_class (main_actor b))) (imported_methods ds fs) main-slim (imported-slim fs few))

        go : (c : Bool) → Slim (methods_at (alias_end ds (below_class (cond c (class_of arguments (service_of merged)) (service_of merged)))))
        go true = rw (last-beside arguments (service_of merged) refl) served
        go false = served

    merged-arguments : breadth (class_arguments (merged_actor ds (main_actor b) fs)) ≤ 4097
    unfolding merged_actor class_arguments is_class is_class_kind kids_of breadth
    merged-arguments = go (is_class (main_actor b))
      where
        go : (c : Bool) → breadth (class_arguments (cond c (class_of arguments (service_of merged)) (service_of merged))) ≤ 4097
        go true =
            omega (arith, main-arguments, others-breadth (beside arguments (service_of merged)), breadth-beside arguments (service_of merged))
        go false = omega arith

  pub resolved-slim : Slim (methods_at (alias_end ds (below_class (resolve_actor b)))) × (breadth (class_arguments (resolve_actor b)) ≤ 4097)
  unfolding resolve_actor resolve_with
  resolved-slim = go (service_imports b.files) (λ f m. omega (arith, imports-count b.files f m, book-count))
    where
      go : (fs : List File) → ((f : File) → Memᴰ f fs → Held f.actor) →
          Slim (methods_at (alias_end ds (below_class (resolve_with ds (main_actor b) fs))))
          × (breadth (class_arguments (resolve_with ds (main_actor b) fs)) ≤ 4097)
      go [] few = (main-slim, omega (arith, main-arguments))
      go (f ∷ fs) few = (merged-slim (f ∷ fs) few, merged-arguments (f ∷ fs) few)

  -- a function's arguments and results are no more than the children
  function-few : (e : End) → ((u : Forest Node) → e ≡ ends u → Few (kids_of u)) → function_breadth e ≤ 4096
  unfolding function_breadth kids_of
  function-few (unbound m) h = omega arith
  function-few circle h = omega arith
  function-few (ends end) h = omega arith
  function-few (ends (tree n kids next)) h = go (is_func_kind n.kind)
    where
      go : (c : Bool) → cond c (breadth kids) 0 ≤ 4096
      go true = h (tree n kids next) refl
      go false = omega arith

  pub results-few : (f : Forest Node) → Slim f → arguments_and_results ds f ≤ 4096 * breadth f
  unfolding arguments_and_results breadth kids_of
  results-few end s = omega arith
  results-few (tree n kids next) s =
      let t = tree n kids end in
      omega (arith, results-few next s.1, function-few (alias_end ds t) (go (head t) refl))
    where
      go : (h : Head) → head (tree n kids end) ≡ h → (u : Forest Node) → alias_end ds (tree n kids end) ≡ ends u → Few (kids_of u)
      go other e u q = let same : u ≡ tree n kids end = cc (run-end ds (stops e)) in rw same s.0
      go (named k) e u q = held-methods u (named-held e (end-leads ds (tree n kids end) u q))
