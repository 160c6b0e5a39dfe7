-- Uses: the row of a name has an entry for each argument and result from which the name is reachable, in their order. Assumes nothing; on
-- books, that they fit and pass and have an actor.
--     Inherited, sites-inherit       what passes on to parts and along aliases holds of every site of an actor of which it holds
--     names-inherited, ..            such are: that all names are bound, that all are reachable
--     sites-reach                    what is reachable from a site is reachable from the actor
--     kept-says, kept-ascends, ..    what passes a test
--     row-says, row-unique, ..       the row: the entries of the sites that pass a test of being reachable
--     WalkLists, WalkListed, ..      the walk from each site lists what is reachable, if that from all fit types does
--     uses-row, unreachable-none     then `uses_of` gives the row
--     passed-walks, passed-listed    it is so on books
--     uses-given, uses-say, ..       so the question is answered with the row
--     own-name                       the name of a method's own function is by itself no use
--     uses-in-row, uses-numbers      a refusal lies in its row; the rows that there are
--     sites-few, uses-few, ..        no more arguments and results, and no more entries, than so many
--     uses-bytes-in-row, ..          all on bytes
use mathlib.Core.Path.{◌≡◌, refl, sym, ap, subst, ◌∙◌}
use mathlib.Core.Logic.{◌↔◌, ◌⊎◌, inl, inr, ⊎_elim}
use mathlib.Core.Bool.{Bool, true, false, cond}
use mathlib.Core.List.{List, [], ◌∷◌, ◌++◌, map, Memᴰ}
use Prim.Native.Nat.{ℕ, zero, suc, ◌+◌, ◌≤◌, ◌<◌}
use native.Mathlib.Omega.{arith}
use lib.Dec.{T}
use lib.ListN.{length, length-map}
use Rattle.labels.specs.declared.Label.TheVariants.{Named}
use Rattle.format.specs.Forest.{Forest, end, tree, breadth}
use Rattle.format.specs.Node.{Nat, Kind, PrimT, VarT, OptT, VecT, RecordT, VariantT, FuncT, ServT, ClassT, InitT, unlabelled, labelled, Node}
use Rattle.format.specs.Book.{Definition, Book}
use Rattle.format.specs.Fits.{Fits}
use Rattle.format.specs.Distinct.{Ascends}
use Rattle.format.specs.References.{references}
use Rattle.format.specs.References as refer
use Rattle.judgement.specs.Environment.{main_definitions, find_type, Head, named, other, head_kind, head, is_serv_kind, kids_of}
use Rattle.judgement.specs.Aliases.{End, unbound, circle, ends, met, link, chain_from, chain, alias_end, methods_at}
use Rattle.judgement.specs.Actor.{is_class_kind, is_class, last_tree, all_but_last, class_arguments, below_class}
use Rattle.judgement.specs.Resolve.{resolve_actor}
use Rattle.judgement.specs.Check.{member, check}
use Rattle.judgement.specs.WellFormed.{defined_name, Defined, Leads, arrived, onward, Bound, below_top}
use Rattle.judgement.proofs.Chains.{stops, run-end, end-leads}
use Rattle.judgement.proofs.Heads.{head-refers, named-no-class}
use Rattle.judgement.proofs.Methods.{methods-keep}
use Rattle.judgement.proofs.Lookup.{member-says}
use Rattle.judgement.proofs.Books.{main-definitions-fit}
use Rattle.judgement.proofs.Theorems.{check-typed, actor-trees}
use Rattle.judgement.proofs.Rows.{check-numbers}
use Rattle.listing.specs.Chase.{going, push, arm, chase, meet_name, visit, chase_types}
use Rattle.refusals.specs.Handed.{Use}
use Rattle.listing.specs.Sites.{Site, class_sites, func_sites, kind_sites, end_sites, method_sites, type_of, sites}
use Rattle.listing.specs.Uses.{is_listed, uses_at, uses_of, uses, kept, entry_of, RowOf, UsesGiven, UsesOf, UsesRow, uses_rows, checked, no_actor, short}
use Rattle.listing.specs.References.{Reachable, direct}
use Rattle.listing.specs.References as reach
use Rattle.refusals.specs.Outcome.{given, refused, fit}
use Rattle.listing.proofs.Leaves.{Leafy, LeafyBodies, resolved-leafy}
use Rattle.listing.proofs.Chases.{Listed}
use Rattle.listing.proofs.Chase.{bound-defined, walk-lists, bound-walk}
use Rattle.listing.proofs.List.{main-bodies}
use Rattle.listing.specs.Offers.{Interface, SiteOf, arguments_and_results}
use Rattle.listing.proofs.Interface.{passed-once, passed-functions, passed-interface, interface-methods}
use Rattle.listing.proofs.Room.{answered, actor-given, after-actor, fit-row, check-short, fit-most, bytes-most, passed-actor, check-stops}
use Rattle.listing.proofs.Sites.{sites-are, methods-listed, sites-say, sites-length}
use Rattle.format.proofs.Admission.{asked-row, row-numbers}
use Rattle.refusals.specs.declared.Refusal.{Refusal}
use Rattle.refusals.specs.Refusal.{number_of}
use Rattle.format.specs.Admission.{on_bytes, admission_rows, InRow, Source}
use Rattle.refusals.proofs.Outcomes.{given-refused, after-given, same-given}
use Rattle.format.proofs.Logic.{same-test}
use Rattle.listing.specs.Room.{ShortRow, needs_actor, AfterCheck, Most}
use Rattle.refusals.specs.declared.Refusal.TheVariants.{Short}
use Rattle.listing.proofs.Methods.{Slim, methods-few, resolved-slim, results-few}
use Rattle.refusals.proofs.Verdicts.{both-pass}
use Rattle.refusals.specs.Verdict.{passes, and_then}

-- ---- What passes on to the parts of a type and along aliases
pub record Inherited (ds : List Definition) (P : Forest Node → Type 0) : Type 0 where
  pub none : P end
  pub kids : {n : Node} {kids next : Forest Node} → P (tree n kids next) → P kids
  pub others : {n : Node} {kids next : Forest Node} → P (tree n kids next) → P next
  pub alone : {n : Node} {kids next : Forest Node} → P (tree n kids next) → P (tree n kids end)
  pub alias : {t : Forest Node} {n : ℕ} {d : Definition} → head t ≡ named n → Memᴰ d ds → d.name ≡ n → P t → P d.body

abbrev pub EachSite : (Forest Node → Type 0) → List Site → Type 0
EachSite P l = (s : Site) → Memᴰ s l → P s.type

module _ (ds : List Definition) (P : Forest Node → Type 0) (passes : Inherited ds P) where
  no-site : EachSite P []
  no-site s m = absurd (mathlib.Core.List.Memᴰ.not-nil m)

  one-more : {t : Forest Node} {u : Use} {l : List Site} → P t → EachSite P l → EachSite P (record { entry = u; type = t } ∷ l)
  one-more {t} {u} p h s m = ⊎_elim (λ (e : s ≡ record { entry = u; type = t }). subst P (ap (λ (x : Site). x.type) (sym e)) p) (h s) (mathlib.Core.List.Memᴰ.cases_cons m)

  both-sites : (k : List Site) {l : List Site} → EachSite P k → EachSite P l → EachSite P (k ++ l)
  both-sites k g h s m = ⊎_elim (g s) (h s) (mathlib.Core.List.Memᴰ.append_cases k m)

  leads-inherit : {t u : Forest Node} → Leads ds t u → P t → P u
  leads-inherit (arrived h) p = p
  leads-inherit (onward h m e l) p = leads-inherit l (passes.alias h m e p)

  kids-inherit : (t : Forest Node) → P t → P (kids_of t)
  unfolding kids_of
  kids-inherit end p = p
  kids-inherit (tree n kids next) p = passes.kids p

  last-inherit : (f : Forest Node) → P f → P (last_tree f)
  unfolding last_tree
  last-inherit end p = p
  last-inherit (tree n kids end) p = p
  last-inherit (tree n kids (tree m lids next)) p = last-inherit (tree m lids next) (passes.others p)

  arguments-inherit : (i : ℕ) (f : Forest Node) → P f → EachSite P (class_sites i (all_but_last f))
  unfolding class_sites all_but_last
  arguments-inherit i end p = no-site
  arguments-inherit i (tree n kids end) p = no-site
  arguments-inherit i (tree n kids (tree m lids next)) p = one-more (passes.alone p) (arguments-inherit (suc i) (tree m lids next) (passes.others p))

  function-inherit : (m a i : ℕ) (f : Forest Node) → P f → EachSite P (func_sites m a i f)
  unfolding func_sites
  function-inherit m zero i end p = no-site
  function-inherit m (suc a) i end p = no-site
  function-inherit m zero i (tree n kids next) p = one-more (passes.alone p) (function-inherit m zero (suc i) next (passes.others p))
  function-inherit m (suc zero) i (tree n kids next) p = one-more (passes.alone p) (function-inherit m zero 0 next (passes.others p))
  function-inherit m (suc (suc a)) i (tree n kids next) p = one-more (passes.alone p) (function-inherit m (suc a) (suc i) next (passes.others p))

  kind-inherit : (m : ℕ) (κ : Kind) (kids : Forest Node) → P kids → EachSite P (kind_sites m κ kids)
  unfolding kind_sites
  kind-inherit m (PrimT p) kids h = no-site
  kind-inherit m (VarT n) kids h = no-site
  kind-inherit m OptT kids h = no-site
  kind-inherit m VecT kids h = no-site
  kind-inherit m RecordT kids h = no-site
  kind-inherit m VariantT kids h = no-site
  kind-inherit m (FuncT a ms) kids h = function-inherit m a 0 kids h
  kind-inherit m ServT kids h = no-site
  kind-inherit m ClassT kids h = no-site
  kind-inherit m InitT kids h = no-site

  -- what stands at the end of a chain
  end-inherit : (t : Forest Node) → P t → P (type_of (alias_end ds t))
  unfolding type_of
  end-inherit t p = go (alias_end ds t) refl
    where
      go : (e : End) → alias_end ds t ≡ e → P (type_of e)
      go (unbound n) q = passes.none
      go circle q = passes.none
      go (ends u) q = leads-inherit (end-leads ds t u q) p

  end-sites : (m : ℕ) (e : End) → P (type_of e) → EachSite P (end_sites m e)
  unfolding end_sites type_of
  end-sites m (unbound n) p = no-site
  end-sites m circle p = no-site
  end-sites m (ends end) p = no-site
  end-sites m (ends (tree n kids next)) p = kind-inherit m n.kind kids (passes.kids p)

  end-methods : (e : End) → P (type_of e) → P (methods_at e)
  unfolding methods_at type_of
  end-methods (unbound n) p = p
  end-methods circle p = p
  end-methods (ends t) p = methods-keep P passes.none t (kids-inherit t p)

  methods-inherit : (m : ℕ) (f : Forest Node) → P f → EachSite P (method_sites ds m f)
  unfolding method_sites
  methods-inherit m end p = no-site
  methods-inherit m (tree n kids next) p =
      both-sites (end_sites m (alias_end ds (tree n kids end))) (end-sites m (alias_end ds (tree n kids end)) (end-inherit (tree n kids end) (passes.alone p)))
      (methods-inherit (suc m) next (passes.others p))

  -- what is walked of an actor
  pub top-inherit : (t : Forest Node) → P t → P (below_top t)
  unfolding below_top
  top-inherit t p = go (is_class t)
    where
      go : (c : Bool) → P (cond c (kids_of t) t)
      go true = kids-inherit t p
      go false = p

  top-end : (t : Forest Node) → P (below_top t) → P (below_top (type_of (alias_end ds t)))
  unfolding below_top type_of
  top-end t p = go (head t) refl
    where
      go : (h : Head) → head t ≡ h → P (below_top (type_of (alias_end ds t)))
      go other e = rw (run-end ds (stops e)) p
      go (named n) e = top-inherit (type_of (alias_end ds t)) (end-inherit t (rw (named-no-class t e) at p))

  pub sites-inherit : (actor : Forest Node) → P (below_top actor) → EachSite P (sites ds actor)
  unfolding sites class_arguments below_class below_top class_sites
  sites-inherit actor p = let t = type_of (alias_end ds actor) in go t (is_class t) (top-end actor p)
    where
      go : (t : Forest Node) (c : Bool) → P (cond c (kids_of t) t) →
          EachSite P (class_sites 0 (cond c (all_but_last (kids_of t)) end) ++ method_sites ds 0 (methods_at (alias_end ds (cond c (last_tree (kids_of t)) t))))
      go t true q =
          both-sites (class_sites 0 (all_but_last (kids_of t))) (arguments-inherit 0 (kids_of t) q)
          (methods-inherit 0 _ (end-methods (alias_end ds (last_tree (kids_of t))) (end-inherit (last_tree (kids_of t)) (last-inherit (kids_of t) q))))
      go t false q = methods-inherit 0 _ (end-methods (alias_end ds t) (end-inherit t q))

-- Two such together.
pub both-inherited : {ds : List Definition} {P Q : Forest Node → Type 0} → Inherited ds P → Inherited ds Q → Inherited ds (λ f. P f × Q f)
both-inherited p q = record {
  none = (p.none, q.none);
  kids = λ h. (p.kids h.0, q.kids h.1);
  others = λ h. (p.others h.0, q.others h.1);
  alone = λ h. (p.alone h.0, q.alone h.1);
  alias = λ h m e x. (p.alias h m e x.0, q.alias h m e x.1);
}

-- What holds of every name that a type refers to passes on, where it passes from a name to those that its definition refers to.
abbrev pub EachName : (ℕ → Type 0) → Forest Node → Type 0
EachName Q f = (n : ℕ) → Memᴰ n (references f) → Q n

pub names-inherited : (ds : List Definition) (Q : ℕ → Type 0) → ((n : ℕ) (d : Definition) → Q n → Memᴰ d ds → d.name ≡ n → EachName Q d.body) → Inherited ds (EachName Q)
unfolding references
names-inherited ds Q on = record {
  none = λ n m. absurd (mathlib.Core.List.Memᴰ.not-nil m);
  kids = λ {n = k} {next = next} h n m. h n (mathlib.Core.List.Memᴰ.append_right (refer.reference_of k.kind) (mathlib.Core.List.Memᴰ.append_left (references next) m));
  others = λ {n = k} {kids = kids} h n m. h n (mathlib.Core.List.Memᴰ.append_right (refer.reference_of k.kind) (mathlib.Core.List.Memᴰ.append_right (references kids) m));
  alone = λ {n = k} {kids = kids} {next = next} h n m. h n (wider (refer.reference_of k.kind) (references kids) (references next) n m);
  alias = λ {t = t} {n = k} {d = d} h m e p. on k d (p k (head-refers t h)) m e;
}
  where
    wider : (a b c : List ℕ) (n : ℕ) → Memᴰ n (a ++ (b ++ [])) → Memᴰ n (a ++ (b ++ c))
    wider a b c n m =
        ⊎_elim (mathlib.Core.List.Memᴰ.append_left (b ++ c))
        (λ k. mathlib.Core.List.Memᴰ.append_right a (⊎_elim (mathlib.Core.List.Memᴰ.append_left c) (λ z. absurd (mathlib.Core.List.Memᴰ.not-nil z)) (mathlib.Core.List.Memᴰ.append_cases b k)))
        (mathlib.Core.List.Memᴰ.append_cases a m)

pub bound-inherited : (ds : List Definition) → ((d : Definition) → Memᴰ d ds → Bound ds d.body) → Inherited ds (Bound ds)
bound-inherited ds bodies = names-inherited ds (Defined ds) (λ n d q m e. bodies d m)

-- What is reachable from a site is reachable from the actor.
pub reach-on : {ds : List Definition} {actor t : Forest Node} {n : ℕ} → EachName (Reachable ds actor) t → Reachable ds t n → Reachable ds actor n
reach-on {n = n} h (direct m) = h n m
reach-on h (reach.onward r f) = reach.onward (reach-on h r) f

pub sites-reach : (ds : List Definition) (actor : Forest Node) (s : Site) → Memᴰ s (sites ds actor) → (n : ℕ) → Reachable ds s.type n → Reachable ds actor n
sites-reach ds actor s m n r =
    let Q = Reachable ds actor in
    let passes = names-inherited ds Q (λ k d q i e j h. reach.onward {m = k} q record { definition = d; listed = i; named = e; refers = h }) in
    reach-on (sites-inherit ds (EachName Q) passes actor (top-inherit ds (EachName Q) passes actor (λ k i. direct i)) s m) r

-- ---- What passes a test

module _ {A : Type 0} where
  pub kept-cons : (test : A → Bool) (P : List A → Type 0) (a : A) (l : List A) → (T (test a) → P (a ∷ kept test l)) → ((T (test a) → ⊥) → P (kept test l)) → P (kept test (a ∷ l))
  unfolding kept
  kept-cons test P a l = go (test a)
    where
      go : (b : Bool) → (T b → P (a ∷ kept test l)) → ((T b → ⊥) → P (kept test l)) → P (cond b (a ∷ kept test l) (kept test l))
      go true y n = y tt
      go false y n = n (λ t. t)

  pub kept-says : (test : A → Bool) (l : List A) (a : A) → Memᴰ a (kept test l) ↔ (Memᴰ a l × T (test a))
  unfolding kept
  kept-says test [] a = (λ m. absurd (mathlib.Core.List.Memᴰ.not-nil m), λ p. p.0)
  kept-says test (c ∷ l) a =
      let below = kept-says test l a in
      let later : Memᴰ a (kept test l) → Memᴰ a (c ∷ l) × T (test a) = λ k. let p = below.0 k in (mathlib.Core.List.Memᴰ.tail p.0, p.1) in
      kept-cons test (λ k. Memᴰ a k ↔ (Memᴰ a (c ∷ l) × T (test a))) c l
      (λ y. (
        λ m. ⊎_elim (λ (e : a ≡ c). (mathlib.Core.List.Memᴰ.head e, subst (λ (x : A). T (test x)) (sym e) y)) later (mathlib.Core.List.Memᴰ.cases_cons m),
        λ p. ⊎_elim (λ (e : a ≡ c). mathlib.Core.List.Memᴰ.head e) (λ k. mathlib.Core.List.Memᴰ.tail (below.1 (k, p.1))) (mathlib.Core.List.Memᴰ.cases_cons p.0),
      ))
      (λ n. (later, λ p. ⊎_elim (λ (e : a ≡ c). absurd (n (subst (λ (x : A). T (test x)) e p.1))) (λ k. below.1 (k, p.1)) (mathlib.Core.List.Memᴰ.cases_cons p.0)))

  pub kept-length : (test : A → Bool) (l : List A) → length (kept test l) ≤ length l
  unfolding kept
  kept-length test [] = omega arith
  kept-length test (c ∷ l) =
      let below = kept-length test l in
      kept-cons test (λ k. length k ≤ suc (length l)) c l (λ y. omega arith) (λ n. omega arith)

  -- what passes a test passes another: as much is kept, and the same; or less
  pub kept-more : (test test' : A → Bool) (l : List A) → ((a : A) → T (test a) → T (test' a)) →
      (kept test l ≡ kept test' l) ⊎ (length (kept test l) < length (kept test' l))
  unfolding kept
  kept-more test test' [] h = inl refl
  kept-more test test' (c ∷ l) h = go (test c) (test' c) (h c) (kept-more test test' l h)
    where
      go : (b b' : Bool) → (T b → T b') → (kept test l ≡ kept test' l) ⊎ (length (kept test l) < length (kept test' l)) →
          (cond b (c ∷ kept test l) (kept test l) ≡ cond b' (c ∷ kept test' l) (kept test' l))
          ⊎ (length (cond b (c ∷ kept test l) (kept test l)) < length (cond b' (c ∷ kept test' l) (kept test' l)))
      go true true i (inl e) = inl (ap (λ (k : List A). c ∷ k) e)
      go true true i (inr m) = inr (omega (arith, m))
      go true false i r = absurd (i tt)
      go false true i (inl e) = inr (omega (arith, ap length e))
      go false true i (inr m) = inr (omega (arith, m))
      go false false i r = r

  -- tests that say the same keep the same
  kept-same : (test test' : A → Bool) (l : List A) → ((a : A) → Memᴰ a l → test a ≡ test' a) → kept test l ≡ kept test' l
  unfolding kept
  kept-same test test' [] h = refl
  kept-same test test' (c ∷ l) h = rw (h c (mathlib.Core.List.Memᴰ.head refl), kept-same test test' l (λ a m. h a (mathlib.Core.List.Memᴰ.tail m)))

-- numbers in order stay so
pub kept-ascends : (test : ℕ → Bool) (l : List ℕ) → Ascends l → Ascends (kept test l)
unfolding kept
kept-ascends test [] a = tt
kept-ascends test (n ∷ l) a =
    kept-cons test Ascends n l (λ y. (λ m i. a.0 m ((kept-says test l m).0 i).0, kept-ascends test l a.1)) (λ h. kept-ascends test l a.1)

-- ---- The row of a name

module _ {ds : List Definition} {all : List Site} {n : ℕ} where
  pub row-says : {row : List Use} → RowOf ds all n row → (u : Use) → Memᴰ u row ↔ ((s : Site) × Memᴰ s all × (s.entry ≡ u) × Reachable ds s.type n)
  row-says x u = rw x.row-is (
    λ m. let f = mathlib.Core.List.Memᴰ.of_map entry_of (kept x.used all) m in
        let k = (kept-says x.used all f.0).0 f.1 in (f.0, k.0, f.2, (x.says f.0 k.0).0 k.1),
    λ p. mathlib.Core.List.Memᴰ.cast (sym p.2) (mathlib.Core.List.Memᴰ.map entry_of ((kept-says x.used all p.0).1 (p.1, (x.says p.0 p.1).1 p.3))),
  )

  pub row-length : {row : List Use} → RowOf ds all n row → length row ≤ length all
  row-length x = rw (x.row-is, length-map (kept x.used all) entry_of) (kept-length x.used all)

  -- there is one such row
  pub row-unique : {row row' : List Use} → RowOf ds all n row → RowOf ds all n row' → row ≡ row'
  row-unique x y =
      x.row-is ∙ ap (map entry_of) (kept-same x.used y.used all
      (λ s m. same-test (x.used s) (y.used s) (λ t. (y.says s m).1 ((x.says s m).0 t), λ t. (x.says s m).1 ((y.says s m).0 t)))) ∙ sym y.row-is

  pub row-none : {row : List Use} → RowOf ds all n row → ((s : Site) → Memᴰ s all → Reachable ds s.type n → ⊥) → row ≡ []
  row-none {row} x h = go row (λ u m. (row-says x u).0 m)
    where
      go : (l : List Use) → ((u : Use) → Memᴰ u l → (s : Site) × Memᴰ s all × (s.entry ≡ u) × Reachable ds s.type n) → l ≡ []
      go [] k = refl
      go (u ∷ l) k = let p = k u (mathlib.Core.List.Memᴰ.head refl) in absurd (h p.0 p.1 p.3)

-- ---- `uses_of` gives it

-- The walk from a type lists just what is reachable from it; and all that is known of its list.
abbrev pub WalkLists : List Definition → Forest Node → Type 0
WalkLists ds f = (seen : List ℕ) × (out : List ℕ) × (chase_types ds f ≡ going seen out) × ((n : ℕ) → Memᴰ n out ↔ Reachable ds f n)

abbrev pub WalkListed : List Definition → Forest Node → Type 0
WalkListed ds f = (seen : List ℕ) × (out : List ℕ) × (chase_types ds f ≡ going seen out) × Listed ds f seen out

pub listed-lists : {ds : List Definition} {f : Forest Node} → WalkListed ds f → WalkLists ds f
listed-lists w = (w.0, w.1, w.2, λ n. (w.3.sound n, w.3.complete n))

-- It is so of every site where it is so of all fit types, and being fit passes on.
pub sites-walk : (ds : List Definition) (Fit : Forest Node → Type 0) → Inherited ds Fit → ((f : Forest Node) → Fit f → WalkListed ds f) →
    (actor : Forest Node) → Fit (below_top actor) → EachSite (WalkListed ds) (sites ds actor)
sites-walk ds Fit passes walks actor fit s m = walks s.type (sites-inherit ds Fit passes actor fit s m)

pub uses-kept : (ds : List Definition) (n : ℕ) (all : List Site) → uses_at ds n all ≡ map entry_of (kept (λ s. is_listed n (chase_types ds s.type)) all)
unfolding uses_at kept
uses-kept ds n [] = refl
uses-kept ds n (s ∷ all) = go (is_listed n (chase_types ds s.type)) (uses-kept ds n all)
  where
    go : (b : Bool) → uses_at ds n all ≡ map entry_of (kept (λ s. is_listed n (chase_types ds s.type)) all) →
        cond b (s.entry ∷ uses_at ds n all) (uses_at ds n all)
        ≡ map entry_of (cond b (s ∷ kept (λ s. is_listed n (chase_types ds s.type)) all) (kept (λ s. is_listed n (chase_types ds s.type)) all))
    go true e = ap (λ (l : List Use). s.entry ∷ l) e
    go false e = e

-- It is listed just where it is reachable.
pub walk-says : (ds : List Definition) {f : Forest Node} → WalkLists ds f → (n : ℕ) → T (is_listed n (chase_types ds f)) ↔ Reachable ds f n
unfolding is_listed
walk-says ds w n = let i = member-says n w.1 in rw w.2 (λ t. (w.3 n).0 (i.0 t), λ r. i.1 ((w.3 n).1 r))

module _ (ds : List Definition) (actor : Forest Node) (walks : EachSite (WalkLists ds) (sites ds actor)) where
  pub uses-row : (n : ℕ) → RowOf ds (sites ds actor) n (uses_of ds actor n)
  unfolding uses_of
  uses-row n = record { used = λ s. is_listed n (chase_types ds s.type); says = λ s m. walk-says ds (walks s m) n; row-is = uses-kept ds n (sites ds actor) }

  pub unreachable-none : (n : ℕ) → (Reachable ds actor n → ⊥) → uses_of ds actor n ≡ []
  unreachable-none n h = row-none (uses-row n) (λ s m r. h (sites-reach ds actor s m n r))

-- ---- On books

-- From each argument and result of a book that fits and passes, the walk lists just what is reachable.
leafy-inherited : (ds : List Definition) → LeafyBodies ds → Inherited ds Leafy
leafy-inherited ds bodies = record { none = tt; kids = λ h. h.1; others = λ h. h.2; alone = λ h. (h.0, h.1, tt); alias = λ {d = d} h m e p. bodies d m }

pub passed-listed : (b : Book) → Fits b → check b ≡ passes → EachSite (WalkListed (main_definitions b)) (sites (main_definitions b) (resolve_actor b))
passed-listed b fits passed =
    let ds = main_definitions b in
    let w = ((check-typed b fits).0 passed).0 in
    let once = w.definitions.once in
    let bodies = main-bodies b fits in
    let bound : (d : Definition) → Memᴰ d ds → Bound ds d.body = λ d m. (w.definitions.trees d m).bound in
    let leafy = leafy-inherited ds bodies in
    sites-walk ds (λ (f : Forest Node). Leafy f × Bound ds f) (both-inherited leafy (bound-inherited ds bound))
    (λ f h.
    let walk = bound-walk ds once bodies f h.0 bound h.1 in
    (walk.0, walk.1, walk.2, walk-lists ds once bodies f h.0 walk.2))
    (resolve_actor b) (top-inherit ds Leafy leafy (resolve_actor b) (resolved-leafy b fits), (actor-trees b fits passed).bound)

pub passed-walks : (b : Book) → Fits b → check b ≡ passes → EachSite (WalkLists (main_definitions b)) (sites (main_definitions b) (resolve_actor b))
passed-walks b fits passed s m = listed-lists (passed-listed b fits passed s m)

module _ (b : Book) (fits : Fits b) (passed : check b ≡ passes) (some : resolve_actor b ≡ end → ⊥) where
  -- the answer
  pub uses-answered : (n : ℕ) → uses b n ≡ given (uses_of (main_definitions b) (resolve_actor b) n)
  unfolding uses
  uses-answered n = answered b passed some (given (uses_of (main_definitions b) (resolve_actor b) n))

  row : (n : ℕ) → RowOf (main_definitions b) (sites (main_definitions b) (resolve_actor b)) n (uses_of (main_definitions b) (resolve_actor b) n)
  row = uses-row (main_definitions b) (resolve_actor b) (passed-walks b fits passed)

  -- an entry for each argument of the class and each argument and result of a method from which n is reachable, and no other
  pub uses-say : {arguments methods : Forest Node} → Interface (main_definitions b) (resolve_actor b) arguments methods → (n : ℕ) (u : Use) →
      Memᴰ u (uses_of (main_definitions b) (resolve_actor b) n)
      ↔ ((s : Site) × SiteOf (main_definitions b) arguments methods s × (s.entry ≡ u) × Reachable (main_definitions b) s.type n)
  uses-say x n u =
      let r = row-says (row n) u in
      let say = sites-say (main_definitions b) (passed-once b passed some fits) x (passed-functions b passed some fits x) in
      (λ m. let x = r.0 m in (x.0, (say x.0).0 x.1, x.2, x.3), λ p. r.1 (p.0, (say p.0).1 p.1, p.2, p.3))

  -- all of it, and in order
  pub uses-given : {arguments methods : Forest Node} → Interface (main_definitions b) (resolve_actor b) arguments methods → (n : ℕ) → UsesGiven (main_definitions b) arguments methods n (uses b n)
  uses-given x n =
      let ds = main_definitions b in
      let once = passed-once b passed some fits in
      let ms = methods-listed ds _ (passed-functions b passed some fits x) 0 in
      record {
        of_methods = ms.0;
        in_order = ms.1;
        row = uses_of ds (resolve_actor b) n;
        is-given = uses-answered n;
        row-of = subst (λ (l : List Site). RowOf ds l n (uses_of ds (resolve_actor b) n)) (sites-are ds once x ms.1) (row n);
      }

  pub uses-room : {arguments methods : Forest Node} → Interface (main_definitions b) (resolve_actor b) arguments methods → (n : ℕ) →
      length (uses_of (main_definitions b) (resolve_actor b) n) ≤ breadth arguments + arguments_and_results (main_definitions b) methods
  uses-room x n =
      omega (
        arith,
        row-length (row n),
        sites-length (main_definitions b) (passed-once b passed some fits) x (passed-functions b passed some fits x),
      )

  -- a name that is not reachable, one without definition, and a number outside the table have none
  pub uses-unreachable : (n : ℕ) → (Reachable (main_definitions b) (resolve_actor b) n → ⊥) → uses b n ≡ given []
  uses-unreachable n h = uses-answered n ∙ ap given (unreachable-none (main_definitions b) (resolve_actor b) (passed-walks b fits passed) n h)

  pub uses-undefined : (n : ℕ) → (Defined (main_definitions b) n → ⊥) → uses b n ≡ given []
  uses-undefined n h =
      let w = ((check-typed b fits).0 passed).0 in
      let bodies : (d : Definition) → Memᴰ d (main_definitions b) → Bound (main_definitions b) d.body = λ d m. (w.definitions.trees d m).bound in
      let bound = sites-inherit (main_definitions b) (Bound (main_definitions b)) (bound-inherited (main_definitions b) bodies) (resolve_actor b) (actor-trees b fits passed).bound in
      uses-answered n ∙ ap given (row-none (row n) (λ s m r. h (bound-defined bodies (bound s m) r)))

  pub uses-outside : (n : ℕ) → length b.names ≤ n → uses b n ≡ given []
  uses-outside n h = uses-undefined n (λ d.
      let f = mathlib.Core.List.Memᴰ.of_map defined_name (main_definitions b) d in
      omega (arith, (main-definitions-fit b fits).exists f.0 f.1, f.2))

-- ---- The check comes first
pub uses-after : (n : ℕ) → AfterCheck (λ b. uses b n)
unfolding uses
uses-after n b r e = check-stops b _ e

-- ---- What is refused
module _ (b : Book) (fits : Fits b) (n places : ℕ) where
  pub uses-in-row : {r : Refusal} → fit places (uses b n) ≡ refused r → UsesRow b n places r
  unfolding uses
  uses-in-row = fit-row places (uses b n) (UsesOf b n) (UsesRow b n places) own result (λ k x. short x)
    where
      own : (r : Refusal) → uses b n ≡ refused r → UsesRow b n places r
      own r e = after-actor b fits _ (UsesRow b n places) (λ r. checked) no_actor (λ passed some. given-refused (sym e ∙ uses-answered b fits passed some n)) e

      result : (l : List Use) → uses b n ≡ given l → UsesOf b n l
      result l e =
          let p = actor-given b _ e in
          let x = passed-interface b p.0 p.1 in
          (class_arguments (resolve_actor b), x.0, x.1, subst (UsesGiven (main_definitions b) (class_arguments (resolve_actor b)) x.0 n) e (uses-given b fits p.0 p.1 x.1 n))

-- The rows that there are.
pub uses-numbers : {b : Book} {n places : ℕ} {r : Refusal} → UsesRow b n places r → Memᴰ (number_of r) uses_rows
uses-numbers {b} (checked {r = r} x) = mathlib.Core.List.Memᴰ.tail (mathlib.Core.List.Memᴰ.tail (check-numbers b r x))
uses-numbers (no_actor x) = mathlib.Core.List.Memᴰ.head refl
uses-numbers (short x) = mathlib.Core.List.Memᴰ.tail (mathlib.Core.List.Memᴰ.head refl)

-- ---- How many arguments and results there are at most, and entries
-- 4,097 and 4,096 times 4,096: some four times the most that there are
pub sites-few : (b : Book) → Fits b → check b ≡ passes → (resolve_actor b ≡ end → ⊥) → length (sites (main_definitions b) (resolve_actor b)) ≤ 16781313
sites-few b fits passed some =
    let x = passed-interface b passed some in
    let once = passed-once b passed some fits in
    let methods = interface-methods (main_definitions b) once x.1 in
    let slim = resolved-slim b fits in
    omega (
      arith,
      sites-length (main_definitions b) once x.1 (passed-functions b passed some fits x.1),
      slim.1,
      results-few b fits x.0 (subst Slim methods slim.0),
      methods-few b fits passed,
      ap breadth methods,
    )

pub uses-few : (b : Book) → Fits b → (n : ℕ) (l : List Use) → uses b n ≡ given l → length l ≤ 16781313
unfolding uses
uses-few b fits n l e =
    let p = after-given (and_then (check b) (needs_actor (resolve_actor b))) _ e in
    let q = both-pass (check b) (needs_actor (resolve_actor b)) p.0 in
    let some = passed-actor (resolve_actor b) q.1 in
    omega (arith, ap length (same-given p.1), row-length (row b fits q.0 some n), sites-few b fits q.0 some)

uses-short : (b : Book) (n : ℕ) {places k : ℕ} → UsesRow b n places (Short k) → ShortRow places (uses b n) (UsesOf b n) k
uses-short b n (checked x) = absurd (check-short b x)
uses-short b n (short x) = x

pub uses-most : (b : Book) → Fits b → (n : ℕ) → (places : ℕ) → Most 16781313 (fit places (uses b n))
uses-most b fits n places = fit-most 16781313 places (uses b n) (uses-few b fits n) (λ k e. uses-short b n (uses-in-row b fits n places e))

-- ---- On bytes
module _ (bs : Source) (places : ℕ) (n : ℕ) {r : Refusal} (e : fit places (on_bytes (λ b. uses b n) bs) ≡ refused r) where
  pub uses-bytes-in-row : InRow bs (λ b. UsesRow b n places) r
  uses-bytes-in-row = asked-row bs places (λ b. uses b n) (λ b. UsesRow b n places) (λ b fits. uses-in-row b fits n places) e

  pub uses-bytes-numbers : Memᴰ (number_of r) (admission_rows ++ uses_rows)
  uses-bytes-numbers = row-numbers bs (λ b. UsesRow b n places) uses_rows r (λ b. uses-numbers) uses-bytes-in-row

pub uses-bytes-most : (bs : Source) (places : ℕ) (n : ℕ) → Most 16781313 (fit places (on_bytes (λ b. uses b n) bs))
uses-bytes-most bs places n = bytes-most 16781313 places (λ b. uses b n) (λ b fits. uses-most b fits n places) bs

-- ---- Examples: the name of a method's function definition is by itself no use
abbrev plain : Kind → Node
plain k = record { kind = k; label = unlabelled }

-- `service : { m : f }`, where f and m are the names 0 and 1, and `type f = ..`
abbrev with_method : Forest Node
with_method = tree (plain ServT) (tree (record { kind = VarT 0; label = labelled (Named 1) }) end end) end

abbrev defining : Forest Node → List Definition
defining t = record { name = 0; file = 0; body = t } ∷ []

-- `type f = func (nat) -> ()`: none; `type f = func (service { m : f }) -> ()`: one, since f is reachable from its own argument
pub own-name : (uses_of (defining (tree (plain (FuncT 1 [])) (tree (plain (PrimT Nat)) end end) end)) with_method 0 ≡ [])
    × (uses_of (defining (tree (plain (FuncT 1 [])) with_method end)) with_method 0 ≡ record { method = 0; result = 0; index = 0 } ∷ [])
unfolding uses_of uses_at sites type_of class_sites method_sites end_sites kind_sites func_sites is_listed alias_end chain chain_from link met head head_kind find_type class_arguments below_class is_class is_class_kind is_serv_kind kids_of methods_at chase_types chase arm visit meet_name push member
own-name = (refl, refl)
