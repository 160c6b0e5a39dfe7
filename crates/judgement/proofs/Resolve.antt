-- The two verdicts on a book's actor, said both ways: it is resolved where there are service imports, then walked. Assumes that the book fits
-- and that its definitions pass.
--     Resolved        what both pass, of the resolved actor
--     resolved-say    both in order: what passes, and the first refusal
use mathlib.Core.Path.{◌≡◌, refl, sym, subst}
use mathlib.Core.Logic.{◌↔◌, ◌⊎◌, inl, inr, ⊎_elim, ⊎_map}
use mathlib.Core.Bool.{true, false}
use mathlib.Core.List.Memᴰ
use mathlib.Core.List.{List, [], ◌∷◌, map}
use Prim.Native.Nat.{ℕ}
use lib.ListN.{length}
use Rattle.format.specs.Forest.{Forest, end}
use Rattle.format.specs.Node.{Node}
use Rattle.format.specs.Book.{Definition, File, Book}
use Rattle.format.specs.Fits.{Fits}
use Rattle.format.specs.Distinct.{Distinct, FirstRepeat}
use Rattle.format.specs.Labels.{method_names}
use Rattle.refusals.specs.declared.Refusal.{Refusal}
use Rattle.refusals.specs.declared.Refusal.TheVariants.{NoService, ImportNoService, SameHash}
use Rattle.refusals.specs.Verdict.{passes, and_then}
use Rattle.refusals.proofs.Verdicts.{passed-refused}
use Rattle.judgement.specs.Environment.{main_definitions, is_serv_kind, kids_of}
use Rattle.judgement.specs.Actor.{service_imports, main_actor, below_class, merged_of}
use Rattle.judgement.specs.Resolve.{resolve_actor}
use Rattle.judgement.specs.Check.{imported_verdict, hashes_verdict, main_verdict, resolve_verdict, actor_verdict}
use Rattle.judgement.specs.WellFormed.{defined_name, StandsFor, WellFormedTrees, below_top}
use Rattle.judgement.specs.Rust.{OneMode, hash_of, hashes_of, Hashed}
use Rattle.judgement.specs.Meaning.{Together, services, ActorOf, written}
use Rattle.judgement.specs.Order.{First, Sound, Fault, DefinitionsPass, Unserved, Imported, ResolvingRefuses, ActorRefuses}
use Rattle.judgement.specs.Order as order
use Rattle.judgement.proofs.Walks.{sound-formed}
use Rattle.judgement.proofs.Says.{Says, says-then, says-as}
use Rattle.judgement.proofs.Meaning.{MainStands, ImportsStand, found_methods, together-main, together-imports, merged-together, none-imported, resolved-written, resolved-merged, resolved-methods, actor-unique, actor-of}
use Rattle.judgement.proofs.Actors.{hashes-say, main-say, imported-say, NoServer, stands-elsewhere, actor-say, merged-stands}
use Rattle.judgement.proofs.Books.{actor-fits}

-- What both verdicts ask of the resolved actor.
pub record Resolved (b : Book) : Type 0 where
  pub actor : WellFormedTrees (main_definitions b) (below_top (resolve_actor b))
  pub modes : OneMode (below_top (resolve_actor b))
  pub service : MainStands (main_definitions b) (main_actor b)
  pub imported : ImportsStand (main_definitions b) (service_imports b.files)
  pub hashes : (service_imports b.files ≡ []) ⊎ Distinct (hashes_of b.names (kids_of (below_class (resolve_actor b))))

module _ (names : List (List ℕ)) (ds : List Definition) (main resolved : Forest Node) where
  no-imports : (fs : List File) → fs ≡ [] → resolve_verdict names ds main fs resolved ≡ passes
  unfolding resolve_verdict
  no-imports fs e = rw e

  some-imports : (fs : List File) → (fs ≡ [] → ⊥) → resolve_verdict names ds main fs resolved
      ≡ and_then (main_verdict ds main) (and_then (imported_verdict ds fs) (hashes_verdict names [] (kids_of (below_class resolved))))
  unfolding resolve_verdict
  some-imports [] h = absurd (h refl)
  some-imports (f ∷ fs) h = refl

module _ (b : Book) (fits : Fits b) (pass : DefinitionsPass (main_definitions b)) where
  abbrev ds : List Definition
  ds = main_definitions b

  abbrev main : Forest Node
  main = main_actor b

  abbrev imports : List File
  imports = service_imports b.files

  abbrev once : Distinct (map defined_name ds)
  once = pass.0.once

  abbrev methods : Forest Node
  methods = kids_of (below_class (resolve_actor b))

  -- ---- Resolved where there are service imports
  abbrev Resolves : Type 0
  Resolves = Imported b → MainStands ds main × (ImportsStand ds imports × Distinct (hashes_of b.names methods))

  abbrev Unresolved : Refusal → Type 0
  Unresolved r =
      ((main ≡ end → ⊥) × Unserved ds NoService (below_class main) r)
      ⊎ (MainStands ds main
      × (First (λ f. StandsFor is_serv_kind ds f.actor) (λ f. Unserved ds (ImportNoService f.name) f.actor r) imports
      ⊎ (ImportsStand ds imports × ((n : ℕ) × (r ≡ SameHash n) × FirstRepeat (hash_of b.names) (method_names methods) n))))

  together : MainStands ds main → ImportsStand ds imports → Together ds (services b) (found_methods ds main imports)
  unfolding services
  together m i = merged-together ds once main imports m i

  main-stands : {ms : Forest Node} → Together ds (services b) ms → MainStands ds main
  unfolding services
  main-stands t = together-main main imports t

  imports-stand : {ms : Forest Node} → Together ds (services b) ms → ImportsStand ds imports
  unfolding services
  imports-stand t = together-imports main imports t

  hashed-says : Resolves ↔ (Imported b → Hashed b)
  hashed-says = (
    λ s h.
        let x = s h in
        let t = together x.0 x.1.0 in
        record { methods = found_methods ds main imports; together = t; distinct = rw (resolved-methods b once h t) at x.1.1 },
    λ s h. let x = s h in let t = x.together in (main-stands t, (imports-stand t, rw (resolved-methods b once h t) x.distinct)),
  )

  unresolved : Imported b → (r : Refusal) → Unresolved r ↔ (Imported b × ResolvingRefuses b r)
  unresolved h r = (λ u. (h, there u), λ x. back x.1)
    where
      there : Unresolved r → ResolvingRefuses b r
      there (inl x) = order.main x.0 x.1
      there (inr (m, inl x)) = order.imported m x
      there (inr (m, inr (i, x))) =
          let t = together m i in
          subst (ResolvingRefuses b) (sym x.1) (order.same_hash t (rw (resolved-methods b once h t) at x.2))

      back : {s : Refusal} → ResolvingRefuses b s → Unresolved s
      back (order.main e u) = inl (e, u)
      back (order.imported m x) = inr (m, inl x)
      back (order.same_hash {n = n} t x) = inr (main-stands t, inr (imports-stand t, (n, refl, rw (resolved-methods b once h t) x)))

  abbrev Resolving : Type 0
  Resolving = Says (resolve_verdict b.names ds main imports (resolve_actor b)) Resolves (λ r. Imported b × ResolvingRefuses b r)

  resolve-say : Resolving
  resolve-say = ⊎_elim none some (none-imported imports)
    where
      none : imports ≡ [] → Resolving
      none e = rw (no-imports b.names ds main (resolve_actor b) imports e) (record {
        passed = (λ q h. absurd (h e), λ s. refl);
        refused = λ r. (λ q. passed-refused q, λ x. absurd (x.0 e));
      })

      some : Imported b → Resolving
      some h = rw (some-imports b.names ds main (resolve_actor b) imports h)
          (says-as (says-then (main-say ds pass main) (λ m. says-then (imported-say ds pass imports) (λ i. hashes-say b.names methods)))
          (λ s k. s, λ s. s h) (unresolved h))

  -- ---- Walked, once it is resolved
  module _ (resolves : Resolves) where
    is-written : imports ≡ [] → resolve_actor b ≡ main
    unfolding resolve_actor
    is-written e = resolved-written ds main imports e

    is-merged : Imported b → resolve_actor b ≡ merged_of main (found_methods ds main imports)
    unfolding resolve_actor
    is-merged h = resolved-merged ds main imports h

    is-actor : ActorOf b (resolve_actor b)
    is-actor =
        ⊎_elim (λ e. subst (ActorOf b) (sym (is-written e)) (written e)) (λ h. actor-of b once (resolves h).0 (resolves h).1.0) (none-imported imports)

    merged-serves : Imported b → StandsFor is_serv_kind ds (below_class (resolve_actor b))
    merged-serves h = rw (is-merged h) (merged-stands ds main (found_methods ds main imports))

    abbrev Unwalked : Refusal → Type 0
    Unwalked r = Fault ds true false (below_top (resolve_actor b)) r ⊎ (Sound ds true (below_top (resolve_actor b)) × NoServer ds pass (resolve_actor b) r)

    unwalked : (r : Refusal) → Unwalked r ↔ ActorRefuses b r
    unwalked r = (⊎_elim (order.walk is-actor) (λ x. there (none-imported imports) x.0 x.1), back)
      where
        there : (imports ≡ []) ⊎ Imported b → Sound ds true (below_top (resolve_actor b)) → NoServer ds pass (resolve_actor b) r → ActorRefuses b r
        there (inl e) s x =
            let q = is-written e in
            rw x.0 (order.no_service e (rw q at x.1.0) (rw q at s) (rw q at x.1.1))
        there (inr h) s x = absurd (stands-elsewhere ds pass x.1.1 (merged-serves h))

        back : {s : Refusal} → ActorRefuses b s → Fault ds true false (below_top (resolve_actor b)) s ⊎ (Sound ds true (below_top (resolve_actor b)) × NoServer ds pass (resolve_actor b) s)
        back {s} (order.walk a f) = inl (subst (λ (t : Forest Node). Fault ds true false (below_top t) s) (actor-unique b once a) f)
        back (order.no_service e m s l) = let q = is-written e in inr (rw q s, (refl, rw q (m, l)))

    walked-say : Says (actor_verdict ds (resolve_actor b)) (Sound ds true (below_top (resolve_actor b)) × MainStands ds (resolve_actor b)) (ActorRefuses b)
    walked-say = says-as (actor-say ds pass (length b.names) (resolve_actor b) (actor-fits b fits is-actor)) (λ h. h, λ h. h) unwalked

  -- ---- Both
  resolved-says : (Resolves × (Sound ds true (below_top (resolve_actor b)) × MainStands ds (resolve_actor b))) ↔ Resolved b
  resolved-says = (λ p. there p.0 p.1.0 p.1.1 (none-imported imports), back)
    where
      there : Resolves → Sound ds true (below_top (resolve_actor b)) → MainStands ds (resolve_actor b) → (imports ≡ []) ⊎ Imported b → Resolved b
      there res s m (inl e) =
          let w = (sound-formed ds (below_top (resolve_actor b))).0 s in
          record { actor = w.0; modes = w.1; service = rw (is-written res e) at m; imported = λ f i. absurd (Memᴰ.not-nil (rw e at i)); hashes = inl e }
      there res s m (inr h) =
          let w = (sound-formed ds (below_top (resolve_actor b))).0 s in
          let x = res h in
          record { actor = w.0; modes = w.1; service = x.0; imported = x.1.0; hashes = inr x.1.1 }

      back : Resolved b → Resolves × (Sound ds true (below_top (resolve_actor b)) × MainStands ds (resolve_actor b))
      back x =
          let res : Resolves = λ h. (x.service, (x.imported, ⊎_elim (λ e. absurd (h e)) (λ d. d) x.hashes)) in
          (res, ((sound-formed ds (below_top (resolve_actor b))).1 (x.actor, x.modes), ⊎_elim (λ e. rw (is-written res e) x.service) (λ h. inr (merged-serves res h)) (none-imported imports)))

  pub resolved-say : Says (and_then (resolve_verdict b.names ds main imports (resolve_actor b)) (actor_verdict ds (resolve_actor b))) (Resolved b)
      (λ r. (Imported b × ResolvingRefuses b r) ⊎ ((Imported b → Hashed b) × ActorRefuses b r))
  resolved-say =
      says-as (says-then resolve-say walked-say) resolved-says
      (λ r. (⊎_map (λ x. x) (λ x. (hashed-says.0 x.0, x.1)), ⊎_map (λ x. x) (λ x. (hashed-says.1 x.0, x.1))))
