-- The check and the init check said both ways: what they ask step by step, and the first refusal. Assumes that the book fits.
--     Steps, check-say              the check
--     InitSteps, init-say           what the init check goes on with
--     init-check-say                both
use mathlib.Core.Path.{◌≡◌, refl, sym, ap, subst}
use mathlib.Core.Logic.{◌↔◌, ◌⊎◌, inl, inr}
use mathlib.Core.Bool.{true, false}
use mathlib.Core.List.{List}
use Prim.Native.Nat.{ℕ, ◌<◌}
use lib.ListN.{length}
use Rattle.format.specs.Forest.{Forest, end}
use Rattle.format.specs.Node.{Node}
use Rattle.format.specs.Book.{Definition, File, Book}
use Rattle.format.specs.Fits.{Fits}
use Rattle.refusals.specs.declared.Refusal.{Refusal}
use Rattle.refusals.specs.declared.Refusal.TheVariants.{ImportWithoutActor, Differs}
use Rattle.judgement.specs.Environment.{main_definitions, init_definitions, merge_definitions, kids_of}
use Rattle.judgement.specs.Actor.{service_imports, init_tree}
use Rattle.judgement.specs.Check.{check, init_verdict, init_check}
use Rattle.judgement.specs.Rust.{Hashed}
use Rattle.judgement.specs.Rows.{Disagree}
use Rattle.judgement.specs.Order.{First, Sound, Fault, DefinitionsRefuse, DefinitionsPass, Imported, ResolvingRefuses, ActorRefuses, ImportsHaveActors, CheckRefuses, InitRefuses}
use Rattle.judgement.specs.Order as order
use Rattle.judgement.proofs.Lookup.{merge-distinct}
use Rattle.judgement.proofs.Says.{Says, says-then, says-as}
use Rattle.judgement.proofs.Decs.{decs-say}
use Rattle.judgement.proofs.Fitting.{fitting-kids}
use Rattle.judgement.proofs.Actors.{imports-say, actor-walk}
use Rattle.judgement.proofs.Resolve.{Resolved, resolved-say}
use Rattle.judgement.proofs.Merge.{merge-say}
use Rattle.judgement.proofs.Books.{main-definitions-fit, init-definitions-fit, init-tree-fits}

-- ---- The check

-- The first import without an actor, by what is refused, and by its name.
abbrev FirstWithout : List File → Refusal → Type 0
FirstWithout fs r = First (λ (f : File). f.actor ≡ end → ⊥) (λ f. (r ≡ ImportWithoutActor f.name) × (f.actor ≡ end)) fs

abbrev FirstNamed : List File → ℕ → Type 0
FirstNamed fs n = First (λ (f : File). f.actor ≡ end → ⊥) (λ f. (f.name ≡ n) × (f.actor ≡ end)) fs

first-named : {fs : List File} {r : Refusal} → FirstWithout fs r → (n : ℕ) × (r ≡ ImportWithoutActor n) × FirstNamed fs n
first-named x = (
  x.it.name,
  x.bad.0,
  record { before = x.before; it = x.it; following = x.following; parts = x.parts; fine = x.fine; bad = (refl, x.bad.1) },
)

named-first : {fs : List File} {n : ℕ} → FirstNamed fs n → FirstWithout fs (ImportWithoutActor n)
named-first x = record {
  before = x.before;
  it = x.it;
  following = x.following;
  parts = x.parts;
  fine = x.fine;
  bad = (ap ImportWithoutActor (sym x.bad.0), x.bad.1);
}

module _ (b : Book) where
  -- What the check asks, step by step.
  abbrev pub Steps : Type 0
  Steps = ImportsHaveActors b × (DefinitionsPass (main_definitions b) × Resolved b)

  abbrev Refuses : Refusal → Type 0
  Refuses r =
      FirstWithout (service_imports b.files) r
      ⊎ (ImportsHaveActors b
      × (DefinitionsRefuse (main_definitions b) r
      ⊎ (DefinitionsPass (main_definitions b) × ((Imported b × ResolvingRefuses b r) ⊎ ((Imported b → Hashed b) × ActorRefuses b r)))))

  refuses-order : (r : Refusal) → Refuses r ↔ CheckRefuses b r
  refuses-order r = (there, back)
    where
      there : Refuses r → CheckRefuses b r
      there (inl x) = let y = first-named x in subst (CheckRefuses b) (sym y.1) (order.without_actor y.2)
      there (inr (a, inl x)) = order.definitions a x
      there (inr (a, inr (p, inl x))) = order.resolving a p x.0 x.1
      there (inr (a, inr (p, inr x))) = order.actor a p x.0 x.1

      back : {s : Refusal} → CheckRefuses b s → Refuses s
      back (order.without_actor x) = inl (named-first x)
      back (order.definitions a x) = inr (a, inl x)
      back (order.resolving a p i x) = inr (a, inr (p, inl (i, x)))
      back (order.actor a p h x) = inr (a, inr (p, inr (h, x)))

  pub check-say : Fits b → Says (check b) Steps (CheckRefuses b)
  unfolding check
  check-say fits =
      says-as (says-then (imports-say (service_imports b.files)) (λ a. says-then (decs-say (length b.names) (main_definitions b) (main-definitions-fit b fits)) (resolved-say b fits)))
      (λ h. h, λ h. h) refuses-order

-- ---- The init check
module _ (b : Book) where
  abbrev arguments : Forest Node
  arguments = kids_of (init_tree b.files)

  abbrev both-files : List Definition
  both-files = merge_definitions (init_definitions b) (main_definitions b)

  -- What it asks after the check.
  abbrev pub InitSteps : Type 0
  InitSteps = DefinitionsPass (init_definitions b) × (((n : ℕ) → Disagree b n → ⊥) × Sound both-files true arguments)

  abbrev Inits : Refusal → Type 0
  Inits r =
      DefinitionsRefuse (init_definitions b) r
      ⊎ (DefinitionsPass (init_definitions b)
      × (((n : ℕ) × (r ≡ Differs n) × Disagree b n × ((m : ℕ) → m < n → Disagree b m → ⊥))
      ⊎ (((n : ℕ) → Disagree b n → ⊥) × Fault both-files true false arguments r)))

  inits-order : (r : Refusal) → Inits r ↔ InitRefuses b r
  inits-order r = (there, back)
    where
      there : Inits r → InitRefuses b r
      there (inl x) = order.definitions x
      there (inr (p, inl x)) = subst (InitRefuses b) (sym x.1) (order.differs p x.2 x.3)
      there (inr (p, inr x)) = order.arguments p x.0 x.1

      back : {s : Refusal} → InitRefuses b s → Inits s
      back (order.definitions x) = inl x
      back (order.differs {n = n} p d l) = inr (p, inl (n, refl, d, l))
      back (order.arguments p a x) = inr (p, inr (a, x))

  pub init-say : Fits b → DefinitionsPass (main_definitions b) → Says (init_verdict b) InitSteps (InitRefuses b)
  unfolding init_verdict
  init-say fits main =
      let fit = init-definitions-fit b fits in
      let names = length b.names in
      let once = main.0.once in
      let walk : DefinitionsPass (init_definitions b) → Says _ (Sound both-files true arguments) (Fault both-files true false arguments) = λ p.
      actor-walk both-files (merge-distinct (init_definitions b) (main_definitions b) p.0.once once) names arguments (fitting-kids names (init_tree b.files) (init-tree-fits b fits)) in
      says-as (says-then (decs-say names (init_definitions b) fit) (λ p. says-then (merge-say b fits p.0.once once fit.exists) (λ a. walk p))) (λ h. h, λ h. h) inits-order

  pub init-check-say : Fits b → Says (init_check b) (Steps b × InitSteps) (λ r. CheckRefuses b r ⊎ (Steps b × InitRefuses b r))
  unfolding init_check
  init-check-say fits = says-then (check-say b fits) (λ s. init-say fits s.1.0)
