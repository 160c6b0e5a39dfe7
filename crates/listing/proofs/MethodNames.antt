-- How many methods an actor of an admitted book offers at most: 1,025. Those of a service that stands in the book differ by name, since no label is
-- repeated, and those of one that imports have made by hash. A book has 1,024 names; `hashes-few` allows for one hash more, that of a number outside
-- the table, which no method of a book that fits has. Assumes that the book fits and that its labels differ.
use mathlib.Core.Path.{◌≡◌, refl, sym, ap, subst}
use mathlib.Core.Logic.{⊎_elim}
use mathlib.Core.Bool.{Bool, true, false, cond}
use mathlib.Core.List.Memᴰ
use mathlib.Core.List.{List, [], ◌∷◌, Memᴰ}
use Prim.Native.Nat.{ℕ, zero, suc, ◌≤◌, ◌<◌}
use native.Mathlib.Decide.{ℕ_discrete}
use native.Mathlib.Omega.{arith}
use lib.Dec.{T}
use lib.ListN.{length}
use Rattle.format.specs.Forest.{Forest, end, tree, breadth}
use Rattle.format.specs.Node.{ServT, Node}
use Rattle.format.specs.Book.{Definition, File, Book, bodies, actors, trees}
use Rattle.format.specs.Fits.{place_below, forest_fits, Fits}
use Rattle.format.specs.Distinct.{Distinct}
use Rattle.format.specs.Labels.{method_names, Labels}
use Rattle.format.specs.Occurs.{here}
use Rattle.format.proofs.Distinct.{pigeonhole}
use Rattle.format.proofs.Encoded.{fit-parts}
use Rattle.format.proofs.Logic.{of-true}
use Rattle.format.proofs.Occurs.{Everywhere, in-kids, in-next, beside-everywhere}
use Rattle.refusals.specs.Verdict.{passes}
use Rattle.judgement.specs.Environment.{main_definitions, Head, named, other, head, is_serv_kind, kids_of}
use Rattle.judgement.specs.Aliases.{End, unbound, circle, ends, alias_end, methods_at}
use Rattle.judgement.specs.Actor.{is_class, last_tree, first_actor, main_actor, below_class}
use Rattle.judgement.specs.Resolve.{resolve_with, resolve_actor}
use Rattle.judgement.specs.Check.{check}
use Rattle.judgement.specs.WellFormed.{Leads, arrived, onward}
use Rattle.judgement.specs.Rust.{hashes_of}
use Rattle.judgement.proofs.Books.{main-actor-fits, bodies-fit}
use Rattle.judgement.proofs.Chains.{stops, run-end, end-leads, leads-keeps}
use Rattle.judgement.proofs.Fitting.{Fitting, fitting-class, tree-fits}
use Rattle.judgement.proofs.Lookup.{keep-says}
use Rattle.judgement.proofs.Methods.{methods-keep}
use Rattle.judgement.proofs.Named.{method-named}
use Rattle.judgement.proofs.Theorems.{actor-hashes}
use Rattle.judgement.proofs.Walks.{is-service}
use Rattle.listing.proofs.Methods.{names-long, hashes-few}

-- ---- Numbers below a bound that differ are no more than it
below : ℕ → List ℕ
below zero = []
below (suc k) = k ∷ below k

below-long : (k : ℕ) → length (below k) ≡ k
unfolding below
below-long zero = refl
below-long (suc k) = ap suc (below-long k)

below-has : (k n : ℕ) → n < k → Memᴰ n (below k)
unfolding below
below-has zero n h = absurd (omega arith)
below-has (suc k) n h = elim (ℕ_discrete n k) [ yes e ↦ Memᴰ.head e | no m ↦ Memᴰ.tail (below-has k n (omega arith)) ]

numbers-few : (k : ℕ) {l : List ℕ} → Distinct l → ((n : ℕ) → Memᴰ n l → n < k) → length l ≤ k
numbers-few k d h = omega (arith, pigeonhole d (below k) (λ n m. below-has k n (h n m)), below-long k)

-- ---- Trees whose services have methods that differ by name
abbrev Differs : Node → Forest Node → Type 0
Differs n kids = n.kind ≡ ServT → Distinct (method_names kids)

record Labelled (names : ℕ) (t : Forest Node) : Type 0 where
  fits : Fitting names t
  apart : Everywhere Differs t

kids-apart : (t : Forest Node) → Everywhere Differs t → Everywhere Differs (kids_of t)
unfolding kids_of
kids-apart end h = h
kids-apart (tree n kids next) h = in-kids h

last-apart : (t : Forest Node) → Everywhere Differs t → Everywhere Differs (last_tree t)
unfolding last_tree
last-apart end h = h
last-apart (tree n kids end) h = h
last-apart (tree n kids (tree m lids next)) h = last-apart (tree m lids next) (in-next h)

class-apart : (t : Forest Node) → Everywhere Differs t → Everywhere Differs (below_class t)
unfolding below_class
class-apart t h = go (is_class t)
  where
    go : (c : Bool) → Everywhere Differs (cond c (last_tree (kids_of t)) t)
    go true = last-apart (kids_of t) (kids-apart t h)
    go false = h

bodies-apart : (ds : List Definition) → Everywhere Differs (bodies ds) → (d : Definition) → Memᴰ d ds → Everywhere Differs d.body
unfolding bodies
bodies-apart [] h d m = absurd (Memᴰ.not-nil m)
bodies-apart (e ∷ ds) h d m =
    let p = beside-everywhere e.body (bodies ds) h in
    ⊎_elim (λ (q : d ≡ e). subst (λ (x : Definition). Everywhere Differs x.body) (sym q) p.0) (bodies-apart ds p.1 d) (Memᴰ.cases_cons m)

first-apart : (fs : List File) → Everywhere Differs (actors fs) → Everywhere Differs (first_actor fs)
unfolding actors first_actor
first-apart [] h = h
first-apart (f ∷ fs) h = (beside-everywhere f.actor (actors fs) h).0

-- A service's methods are no more than names.
served-few : (names : ℕ) (t : Forest Node) → Labelled names t → breadth (methods_at (ends t)) ≤ names
unfolding methods_at breadth place_below
served-few names end x = omega arith
served-few names (tree n kids next) x = go (is_serv_kind n.kind) refl
  where
    go : (c : Bool) → is_serv_kind n.kind ≡ c → breadth (cond c kids end) ≤ names
    go false e = omega arith
    go true e =
        let κ : n.kind ≡ ServT = is-service n.kind (of-true (is_serv_kind n.kind) e) in
        let fit = subst (λ k. T (forest_fits names (place_below k) kids)) κ (tree-fits names x.fits.place n kids next x.fits.fit).1 in
        omega (arith, numbers-few names (x.apart n kids here κ) (λ k m. method-named names kids fit m), names-long kids)

module _ (b : Book) (fits : Fits b) (labels : Labels b.names (trees b)) where
  abbrev ds : List Definition
  ds = main_definitions b

  parts-apart : Everywhere Differs (bodies b.definitions) × Everywhere Differs (actors b.files)
  unfolding trees
  parts-apart = beside-everywhere (bodies b.definitions) (actors b.files) labels.methods

  body-labelled : (d : Definition) → Memᴰ d ds → Labelled (length b.names) d.body
  unfolding main_definitions
  body-labelled d m = record {
    fits = bodies-fit b fits d m;
    apart = bodies-apart b.definitions parts-apart.0 d ((keep-says _ b.definitions d).0 m).0;
  }

  actor-labelled : Labelled (length b.names) (below_class (main_actor b))
  unfolding main_actor
  actor-labelled = record {
    fits = fitting-class (length b.names) (main_actor b) (main-actor-fits b fits);
    apart = class-apart (main_actor b) (first-apart b.files parts-apart.1);
  }

  -- at a chain's end
  end-few : (t : Forest Node) → ((u : Forest Node) → Leads ds t u → Labelled (length b.names) u) → breadth (methods_at (alias_end ds t)) ≤ 1024
  unfolding methods_at breadth
  end-few t h = go (alias_end ds t) refl
    where
      go : (e : End) → alias_end ds t ≡ e → breadth (methods_at e) ≤ 1024
      go (unbound n) q = omega arith
      go circle q = omega arith
      go (ends u) q = omega (arith, served-few (length b.names) u (h u (end-leads ds t u q)), (fit-parts fits).few_names)

  named-labelled : {t u : Forest Node} {n : ℕ} → head t ≡ named n → Leads ds t u → Labelled (length b.names) u
  named-labelled e (arrived h) = let z : ◌≡◌ {A = ℕ} 0 1 = cc in absurd (omega arith)
  named-labelled e (onward {d = d} h m q l) = leads-keeps ds (Labelled (length b.names)) body-labelled l (body-labelled d m)

  hashed-few : (t : Forest Node) → Distinct (hashes_of b.names (kids_of t)) → breadth (methods_at (alias_end ds t)) ≤ 1025
  unfolding breadth
  hashed-few t once = go (head t) refl
    where
      go : (h : Head) → head t ≡ h → breadth (methods_at (alias_end ds t)) ≤ 1025
      go other e =
          rw (run-end ds (stops e))
          (methods-keep (λ f. breadth f ≤ 1025) (omega arith) t (omega (arith, hashes-few b.names (kids_of t) once, (fit-parts fits).few_names)))
      go (named n) e = omega (arith, end-few t (λ u l. named-labelled e l))

  main-few : breadth (methods_at (alias_end ds (below_class (main_actor b)))) ≤ 1025
  main-few =
      omega (arith, end-few (below_class (main_actor b)) (λ u l. leads-keeps ds (Labelled (length b.names)) body-labelled l actor-labelled))

  pub methods-fewer : check b ≡ passes → breadth (methods_at (alias_end ds (below_class (resolve_actor b)))) ≤ 1025
  unfolding resolve_actor resolve_with
  methods-fewer passed = ⊎_elim (λ none. rw none main-few) (hashed-few (below_class (resolve_actor b))) (actor-hashes b fits passed)
