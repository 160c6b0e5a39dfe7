-- The verdicts on an actor, on its imports and on the actor that both are resolved to, each said both ways. Assumes what the lemmas say: that
-- definitions pass, and that the trees fit.
--     imports-say                 12: a service import has an actor
--     hashes-say                  14: methods of the same hash
--     main-say, imported-say      10 and 13, and 3 on the way: the main actor and each import stand for a service
--     actor-walk                  the walk of an actor or of init arguments
--     actor-say                   an actor that is walked and has to be a service
--     merged-stands, merged-fits  main with other methods is a service, and fits where these do
--     together-fits               the methods of types that fit do
use mathlib.Core.Path.{◌≡◌, refl, sym, subst}
use mathlib.Core.Logic.{◌↔◌, ◌⊎◌, inl, inr, ⊎_elim}
use mathlib.Core.Bool.{Bool, true, false, cond, not}
use mathlib.Core.List.Memᴰ
use mathlib.Core.List.{List, [], ◌∷◌, map, Memᴰ}
use Prim.Native.Nat.{ℕ}
use native.Mathlib.Omega.{arith}
use lib.Dec.{T}
use Rattle.format.specs.declared.Place.TheVariants.{Method, Inner}
use Rattle.format.specs.Forest.{Forest, end, tree, no_trees}
use Rattle.format.specs.Node.{Node, label_value}
use Rattle.format.specs.Book.{Definition, File}
use Rattle.format.specs.Fits.{forest_fits}
use Rattle.format.specs.Distinct.{Distinct, FirstRepeat}
use Rattle.format.specs.Labels.{keys_of, method_names}
use Rattle.format.specs.References as refer
use Rattle.format.specs.References.{references}
use Rattle.format.proofs.Trees.{fits-join}
use Rattle.format.proofs.Logic.{is-false}
use Rattle.refusals.specs.declared.Refusal.{Refusal}
use Rattle.refusals.specs.declared.Refusal.TheVariants.{Unbound, NoService, ImportWithoutActor, ImportNoService, SameHash}
use Rattle.std.specs.Prelude.{Err}
use Rattle.refusals.specs.Verdict.{Verdict, unless}
use Rattle.refusals.proofs.Verdicts.{refused-passed, passed-refused}
use Rattle.judgement.specs.Environment.{head, head_kind, is_serv_kind, kids_of}
use Rattle.judgement.specs.Aliases.{End, unbound, circle, ends, alias_end, root_passes, as_service}
use Rattle.judgement.specs.Actor.{is_class_kind, is_class, last_tree, class_arguments, below_class, service_of, class_of, merged_of}
use Rattle.judgement.specs.Check.{check_forest, is_circle, imports_verdict, service_verdict, imported_verdict, hashes_verdict, main_verdict, actor_verdict}
use Rattle.judgement.specs.WellFormed.{defined_name, arrived, RootIs, StandsFor, Bound, below_top}
use Rattle.judgement.specs.Rust.{hash_of, hashes_of}
use Rattle.judgement.specs.Meaning.{MeetsUnbound, LeadsElsewhere, Together, none, more}
use Rattle.judgement.specs.Order.{First, Sound, Fault, DefinitionsPass, Unserved, elsewhere}
use Rattle.judgement.specs.Order as order
use Rattle.judgement.proofs.Chains.{circle-never, unbound-meets, end-leads, leads-end, meets-end, leads-unique, no-circle, circle-says, root-says, service-says, bound-leads, leads-keeps}
use Rattle.judgement.proofs.Walks.{service-is, walk-say}
use Rattle.judgement.proofs.Says.{Says, says-unless, says-if, says-then, says-as}
use Rattle.judgement.proofs.Each.{each, says-each, repeats, says-repeats}
use Rattle.judgement.proofs.Fitting.{Fitting, methods-fit, arguments-fit, service-fits}
use Rattle.judgement.proofs.Meaning.{MainStands, ImportsStand, some-tree, merged-below}

-- ---- 14: methods of the same hash
hashes-repeats : (names : List (List ℕ)) (seen : List ℕ) (f : Forest Node) → hashes_verdict names seen f ≡ repeats (hash_of names) SameHash seen (method_names f)
unfolding hashes_verdict repeats keys_of
hashes-repeats names seen end = refl
hashes-repeats names seen (tree n kids next) = rw (hashes-repeats names (hash_of names (label_value n.label) ∷ seen) next)

pub hashes-say : (names : List (List ℕ)) (f : Forest Node) →
    Says (hashes_verdict names [] f) (Distinct (hashes_of names f)) (λ r. (n : ℕ) × (r ≡ SameHash n) × FirstRepeat (hash_of names) (method_names f) n)
hashes-say names f = rw (hashes-repeats names [] f) (says-repeats (hash_of names) SameHash (method_names f))

-- ---- 12: a service import has an actor
none-says : (f : Forest Node) → T (no_trees f) ↔ (f ≡ end)
unfolding no_trees
none-says end = (λ t. refl, λ e. tt)
none-says (tree n kids next) = (λ (z : ⊥). absurd z, λ e. some-tree e)

abbrev import_verdict : File → Verdict
import_verdict f = unless (not (no_trees f.actor)) (ImportWithoutActor f.name)

imports-each : (fs : List File) → imports_verdict fs ≡ each import_verdict fs
unfolding imports_verdict each
imports-each [] = refl
imports-each (f ∷ fs) = rw (imports-each fs)

pub imports-say : (fs : List File) → Says (imports_verdict fs) ((f : File) → Memᴰ f fs → f.actor ≡ end → ⊥)
    (λ r. First (λ f. f.actor ≡ end → ⊥) (λ f. (r ≡ ImportWithoutActor f.name) × (f.actor ≡ end)) fs)
imports-say fs = rw (imports-each fs) (says-each import_verdict fs (λ f m. says-if (no_trees f.actor) (ImportWithoutActor f.name) (none-says f.actor)))

-- ---- What stands below a class's top is among what is walked
last-uses : (f : Forest Node) {n : ℕ} → Memᴰ n (references (last_tree f)) → Memᴰ n (references f)
unfolding last_tree references
last-uses end m = m
last-uses (tree n kids end) m = m
last-uses (tree n kids (tree k lids next)) m =
    Memᴰ.append_right (refer.reference_of n.kind) (Memᴰ.append_right (references kids) (last-uses (tree k lids next) m))

class-uses : (f : Forest Node) {n : ℕ} → Memᴰ n (references (below_class f)) → Memᴰ n (references (below_top f))
unfolding below_class below_top
class-uses f {n} = go (is_class f)
  where
    go : (c : Bool) → Memᴰ n (references (cond c (last_tree (kids_of f)) f)) → Memᴰ n (references (cond c (kids_of f) f))
    go true m = last-uses (kids_of f) m
    go false m = m

-- ---- The walk
pub actor-walk : (ds : List Definition) (once : Distinct (map defined_name ds)) (names : ℕ) (f : Forest Node) → Fitting names f →
    Says (check_forest false false ds f) (Sound ds true f) (Fault ds true false f)
actor-walk ds once names f x =
    says-as (walk-say ds once names x.place false false f x.fit) (λ g. g.0, λ s. (s, λ (z : ⊥). absurd z)) (λ r. (λ h. h, λ h. h))

-- ---- Where definitions pass
module _ (ds : List Definition) (pass : DefinitionsPass ds) where
  abbrev once : Distinct (map defined_name ds)
  once = pass.0.once

  -- ---- A type that has to be a service: 3 on the way, or another refusal

  -- the chain's end from what is said of it: no two of these hold
  stands-unbound : {t : Forest Node} {n : ℕ} {A : Type 0} → alias_end ds t ≡ unbound n → StandsFor is_serv_kind ds t → A
  stands-unbound e s = let q = leads-end ds once s.leads in let z : ◌≡◌ {A = ℕ} 0 1 = cc in absurd (omega arith)

  meets-ends : {t u : Forest Node} {n : ℕ} {A : Type 0} → alias_end ds t ≡ ends u → MeetsUnbound ds n t → A
  meets-ends e m = let q = meets-end ds once m in let z : ◌≡◌ {A = ℕ} 0 1 = cc in absurd (omega arith)

  pub stands-elsewhere : {t : Forest Node} → LeadsElsewhere ds t → StandsFor is_serv_kind ds t → ⊥
  stands-elsewhere l s = l.2 (subst (RootIs is_serv_kind) (leads-unique ds once s.leads l.1) s.root)

  pub stands-meets : {t : Forest Node} {n : ℕ} → MeetsUnbound ds n t → StandsFor is_serv_kind ds t → ⊥
  stands-meets m s = stands-unbound (meets-end ds once m) s

  unserved-unbound : (other : Refusal) (t : Forest Node) (n : ℕ) → alias_end ds t ≡ unbound n → {r : Refusal} → Unserved ds other t r → ◌≡◌ {A = Verdict} (Err (Unbound n)) (Err r)
  unserved-unbound other t n e (order.unbound m) = let q = meets-end ds once m in cc
  unserved-unbound other t n e (elsewhere l) = let q = leads-end ds once l.1 in let z : ◌≡◌ {A = ℕ} 0 1 = cc in absurd (omega arith)

  unserved-ends : (other : Refusal) (t u : Forest Node) → alias_end ds t ≡ ends u → {r : Refusal} → Unserved ds other t r → (r ≡ other) × (StandsFor is_serv_kind ds t → ⊥)
  unserved-ends other t u e (order.unbound m) = meets-ends e m
  unserved-ends other t u e (elsewhere l) = (refl, stands-elsewhere l)

  ends-unserved : (other : Refusal) (t u : Forest Node) → alias_end ds t ≡ ends u → {r : Refusal} → (r ≡ other) × (StandsFor is_serv_kind ds t → ⊥) → Unserved ds other t r
  ends-unserved other t u e x =
      let l = end-leads ds t u e in
      subst (Unserved ds other t) (sym x.0) (elsewhere (u, l, λ p. x.1 record { type = u; leads = l; root = p }))

  serve-say : (other : Refusal) (t : Forest Node) → Says (service_verdict other (alias_end ds t)) (StandsFor is_serv_kind ds t) (Unserved ds other t)
  unfolding service_verdict
  serve-say other t = go (alias_end ds t) refl
    where
      go : (e : End) → alias_end ds t ≡ e → Says (service_verdict other e) (StandsFor is_serv_kind ds t) (Unserved ds other t)
      go (unbound n) e = record {
        passed = (λ q. refused-passed q, λ s. stands-unbound e s);
        refused = λ r. (λ q. let p : Unbound n ≡ r = cc in subst (Unserved ds other t) p (order.unbound (unbound-meets ds t n e)), unserved-unbound other t n e);
      }
      go circle e = absurd (no-circle ds once pass.0.chains t (circle-never ds t e))
      go (ends u) e =
          let i = rw e at (root-says ds once is_serv_kind t) in
          says-as (says-unless (root_passes is_serv_kind (ends u)) other i) (λ s. s, λ s. s) (λ r. (ends-unserved other t u e, unserved-ends other t u e))

  -- ---- The main actor, where there is one
  pub main-say : (main : Forest Node) → Says (main_verdict ds main) (MainStands ds main) (λ r. (main ≡ end → ⊥) × Unserved ds NoService (below_class main) r)
  unfolding main_verdict no_trees
  main-say end = record { passed = (λ e. inl refl, λ h. refl); refused = λ r. (λ e. passed-refused e, λ x. absurd (x.0 refl)) }
  main-say (tree n kids next) =
      says-as (serve-say NoService (below_class (tree n kids next))) (inr, ⊎_elim (λ q. some-tree q) (λ s. s)) (λ r. (λ u. (λ q. some-tree q, u), λ x. x.1))

  -- ---- 13: each service import is a service
  imported-each : (fs : List File) → imported_verdict ds fs ≡ each (λ f. service_verdict (ImportNoService f.name) (alias_end ds f.actor)) fs
  unfolding imported_verdict each
  imported-each [] = refl
  imported-each (f ∷ fs) = rw (imported-each fs)

  pub imported-say : (fs : List File) → Says (imported_verdict ds fs) (ImportsStand ds fs)
      (λ r. First (λ f. StandsFor is_serv_kind ds f.actor) (λ f. Unserved ds (ImportNoService f.name) f.actor r) fs)
  imported-say fs =
      rw (imported-each fs) (says-each (λ f. service_verdict (ImportNoService f.name) (alias_end ds f.actor)) fs (λ f m. serve-say (ImportNoService f.name) f.actor))

  -- ---- An actor: it is walked, and a service where there is one. All its names are bound then, so that it leads somewhere.
  bound-elsewhere : (t : Forest Node) → Bound ds t → (StandsFor is_serv_kind ds t → ⊥) ↔ LeadsElsewhere ds t
  bound-elsewhere t b = (there, λ l. stands-elsewhere l)
    where
      there : (StandsFor is_serv_kind ds t → ⊥) → LeadsElsewhere ds t
      there h =
          let open' = is-false (is_circle (alias_end ds t)) (λ c. no-circle ds once pass.0.chains t ((circle-says ds once t).0 c)) in
          let x = bound-leads ds (λ d m. (pass.0.trees d m).bound) t b open' in
          (x.0, x.1, λ p. h record { type = x.0; leads = x.1; root = p })

  -- Why 10 is given of an actor.
  abbrev pub NoServer : Forest Node → Refusal → Type 0
  NoServer t r = (r ≡ NoService) × ((t ≡ end → ⊥) × LeadsElsewhere ds (below_class t))

  service-say : (n : Node) (kids next : Forest Node) → Sound ds true (below_top (tree n kids next)) →
      Says (unless (as_service ds (below_class (tree n kids next))) NoService) (MainStands ds (tree n kids next)) (NoServer (tree n kids next))
  service-say n kids next s =
      let t = tree n kids next in
      let i = bound-elsewhere (below_class t) (λ k m. s.bound k (class-uses t m)) in
      says-as (says-unless (as_service ds (below_class t)) NoService (service-says ds once (below_class t))) (inr, ⊎_elim (λ q. some-tree q) (λ x. x))
      (λ r. (λ x. (x.0, (λ q. some-tree q, i.0 x.1)), λ x. (x.0, i.1 x.1.1)))

  pub actor-say : (names : ℕ) (t : Forest Node) → Fitting names (below_top t) →
      Says (actor_verdict ds t) (Sound ds true (below_top t) × MainStands ds t) (λ r. Fault ds true false (below_top t) r ⊎ (Sound ds true (below_top t) × NoServer t r))
  unfolding actor_verdict no_trees below_top is_class check_forest
  actor-say names end x = record {
    passed = (λ e. ((actor-walk ds once names end x).passed.0 refl, inl refl), λ h. refl);
    refused = λ r. (λ e. passed-refused e, ⊎_elim (λ f. elim f [ ]) (λ h. absurd (h.1.1.0 refl)));
  }
  actor-say names (tree n kids next) x = says-then (actor-walk ds once names (below_top (tree n kids next)) x) (service-say n kids next)

-- ---- The actor of these methods: main's with them
pub merged-stands : (ds : List Definition) (main methods : Forest Node) → StandsFor is_serv_kind ds (below_class (merged_of main methods))
unfolding head head_kind is_serv_kind
merged-stands ds main methods = rw (merged-below main methods) (record { type = service_of methods; leads = arrived refl; root = tt })

module _ (names : ℕ) where
  pub merged-fits : (main methods : Forest Node) → Fitting names main → T (forest_fits names Method methods) → Fitting names (below_top (merged_of main methods))
  unfolding below_top is_class is_class_kind kids_of
  merged-fits main methods x t = record { place = Inner; fit = go (is_class main) }
    where
      go : (c : Bool) → T (forest_fits names Inner (below_top (cond c (class_of (class_arguments main) (service_of methods)) (service_of methods))))
      go true = fits-join names Inner (class_arguments main) (service_of methods) (arguments-fit names main x) (service-fits names methods t)
      go false = service-fits names methods t

  pub together-fits : {ds : List Definition} → ((d : Definition) → Memᴰ d ds → Fitting names d.body) → {ts : List (Forest Node)} {methods : Forest Node} →
      Together ds ts methods → ((t : Forest Node) → Memᴰ t ts → Fitting names t) → T (forest_fits names Method methods)
  unfolding forest_fits kids_of
  together-fits bodies none h = tt
  together-fits {ds} bodies (more {t = t} {methods = methods} {rest = rest} x r) h =
      let service = tree x.node methods x.next in
      let own = methods-fit names service (service-is x.node.kind x.service) (leads-keeps ds (Fitting names) bodies x.leads (h t (Memᴰ.head refl))) in
      fits-join names Method methods rest own (together-fits bodies r (λ u m. h u (Memᴰ.tail m)))
