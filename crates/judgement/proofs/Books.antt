-- A book that fits: its definitions, its actors and its init arguments do. Assumes nothing.
use mathlib.Core.Path.{◌≡◌, refl}
use mathlib.Core.Logic.{inr, ⊎_elim}
use mathlib.Core.Bool.{Bool, true, false, cond}
use mathlib.Core.List.Memᴰ
use mathlib.Core.List.{List, [], ◌∷◌, Memᴰ}
use Prim.Native.Nat.{ℕ, ◌≤◌, ◌<◌}
use native.Mathlib.Omega.{arith}
use lib.Dec.{T}
use lib.ListN.{length}
use Rattle.format.specs.declared.Place.TheVariants.{Root, Method}
use Rattle.format.specs.Forest.{Forest, end, breadth}
use Rattle.format.specs.Node.{Node}
use Rattle.format.specs.Book.{Definition, File, Book}
use Rattle.format.specs.Fits.{is_init_role, definition_fits, file_fits, forest_fits, Fits}
use Rattle.format.proofs.Lists.{All, all-every}
use Rattle.format.proofs.Logic.{says}
use Rattle.format.proofs.Encoded.{fit-parts}
use Rattle.judgement.specs.Environment.{keep, main_definitions, init_definitions}
use Rattle.judgement.specs.Actor.{is_service_import, service_imports, first_actor, main_actor, init_tree}
use Rattle.judgement.specs.WellFormed.{below_top}
use Rattle.judgement.specs.Meaning.{Together, services, ActorOf, written, merged}
use Rattle.judgement.proofs.Lookup.{keep-says}
use Rattle.judgement.proofs.Each.{all-cons}
use Rattle.judgement.proofs.Decs.{FitDefinitions}
use Rattle.judgement.proofs.Meaning.{all-services}
use Rattle.judgement.proofs.Fitting.{Fitting, Written, fitting-class, fitting-top}
use Rattle.judgement.proofs.Actors.{merged-fits, together-fits}

-- What holds of each element of a list holds of one that is listed.
all-listed : {A : Type 0} (P : A → Type 0) (l : List A) → All P l → (a : A) → Memᴰ a l → P a
all-listed P [] h a m = absurd (Memᴰ.not-nil m)
all-listed P (c ∷ l) h a m = (all-cons c l).0 (h.0, all-listed P l h.1) a m

-- A definition's name, its sole tree, and that it fits.
pub definition-fits : (names files : ℕ) (d : Definition) → T (definition_fits names files d) →
    (d.name < names) × (breadth d.body ≡ 1) × T (forest_fits names Root d.body)
unfolding definition_fits
definition-fits names files d t = let p = simp says at t in (p.0.0.0.0, p.0.0.1, p.1)

-- A file's name, its tree if there is one, and that it fits.
file-fits : (names : ℕ) (f : File) → T (file_fits names f) → (f.name < names) × (breadth f.actor ≤ 1) × T (forest_fits names Root f.actor)
unfolding file_fits
file-fits names f t = let p = simp says at t in (p.0.0.0, p.0.0.1, p.1)

-- A service import is a file.
import-file : (fs : List File) {f : File} → Memᴰ f (service_imports fs) → Memᴰ f fs
unfolding service_imports
import-file [] m = m
import-file (g ∷ fs) {f} m = go (is_service_import g.role) m (import-file fs)
  where
    go : (c : Bool) → Memᴰ f (cond c (g ∷ service_imports fs) (service_imports fs)) → (Memᴰ f (service_imports fs) → Memᴰ f fs) → Memᴰ f (g ∷ fs)
    go true m h = ⊎_elim (λ e. Memᴰ.head e) (λ k. Memᴰ.tail (h k)) (Memᴰ.cases_cons m)
    go false m h = Memᴰ.tail (h m)

-- The actor that stands first, and the init arguments.
module _ (names : ℕ) where
  abbrev AllFit : List File → Type 0
  AllFit fs = (f : File) → Memᴰ f fs → Written names f.actor

  no-tree : Written names end
  unfolding forest_fits breadth
  no-tree = record { fits = record { place = Root; fit = tt }; few = omega arith }

  first-fits : (fs : List File) → AllFit fs → Written names (first_actor fs)
  unfolding first_actor
  first-fits [] h = no-tree
  first-fits (f ∷ fs) h = h f (Memᴰ.head refl)

  init-fits : (fs : List File) → AllFit fs → Written names (init_tree fs)
  unfolding init_tree
  init-fits [] h = no-tree
  init-fits (f ∷ fs) h = go (is_init_role f.role) (init-fits fs (λ g m. h g (Memᴰ.tail m)))
    where
      go : (c : Bool) → Written names (init_tree fs) → Written names (cond c f.actor (init_tree fs))
      go true rest = h f (Memᴰ.head refl)
      go false rest = rest

module _ (b : Book) (fits : Fits b) where
  pub kept-fit : (test : Definition → Bool) → FitDefinitions (length b.names) (keep test b.definitions)
  kept-fit test =
      let one : (d : Definition) → Memᴰ d (keep test b.definitions) →
      (d.name < length b.names) × (breadth d.body ≡ 1) × T (forest_fits (length b.names) Root d.body) = λ d m.
      definition-fits (length b.names) (length b.files) d
      (all-listed _ b.definitions (all-every (definition_fits (length b.names) (length b.files)) b.definitions (fit-parts fits).definitions) d ((keep-says test b.definitions d).0 m).0) in
      record { exists = λ d m. (one d m).0; sole = λ d m. (one d m).1; fit = λ d m. (one d m).2 }

  pub main-definitions-fit : FitDefinitions (length b.names) (main_definitions b)
  unfolding main_definitions
  main-definitions-fit = kept-fit _

  pub init-definitions-fit : FitDefinitions (length b.names) (init_definitions b)
  unfolding init_definitions
  init-definitions-fit = kept-fit _

  files-fit : (f : File) → Memᴰ f b.files → (f.name < length b.names) × (breadth f.actor ≤ 1) × T (forest_fits (length b.names) Root f.actor)
  files-fit f m = file-fits (length b.names) f (all-listed _ b.files (all-every (file_fits (length b.names)) b.files (fit-parts fits).files) f m)

  actors-fit : AllFit (length b.names) b.files
  actors-fit f m = let p = files-fit f m in record { fits = record { place = Root; fit = p.2 }; few = p.1 }

  pub main-actor-written : Written (length b.names) (main_actor b)
  unfolding main_actor
  main-actor-written = first-fits (length b.names) b.files actors-fit

  pub main-actor-fits : Fitting (length b.names) (main_actor b)
  main-actor-fits = main-actor-written.fits

  pub imports-written : (f : File) → Memᴰ f (service_imports b.files) → Written (length b.names) f.actor
  imports-written f m = actors-fit f (import-file b.files m)

  pub imports-fit : (f : File) → Memᴰ f (service_imports b.files) → Fitting (length b.names) f.actor
  imports-fit f m = (imports-written f m).fits

  pub imports-named : (f : File) → Memᴰ f (service_imports b.files) → f.name < length b.names
  imports-named f m = (files-fit f (import-file b.files m)).0

  pub init-tree-fits : Fitting (length b.names) (init_tree b.files)
  init-tree-fits = (init-fits (length b.names) b.files actors-fit).fits

  -- ---- The actor: the types that are to be services, their methods together, and what is walked of it
  pub bodies-fit : (d : Definition) → Memᴰ d (main_definitions b) → Fitting (length b.names) d.body
  bodies-fit d m = record { place = Root; fit = main-definitions-fit.fit d m }

  pub services-fit : (t : Forest Node) → Memᴰ t (services b) → Fitting (length b.names) t
  unfolding services
  services-fit =
      all-services (Fitting (length b.names)) (main_actor b) (service_imports b.files) (inr (fitting-class (length b.names) (main_actor b) main-actor-fits)) imports-fit

  pub together-methods-fit : {methods : Forest Node} → Together (main_definitions b) (services b) methods → T (forest_fits (length b.names) Method methods)
  together-methods-fit t = together-fits (length b.names) bodies-fit t services-fit

  pub actor-fits : {t : Forest Node} → ActorOf b t → Fitting (length b.names) (below_top t)
  actor-fits (written e) = fitting-top (length b.names) (main_actor b) main-actor-fits
  actor-fits (merged {methods = methods} h t) = merged-fits (length b.names) (main_actor b) methods main-actor-fits (together-methods-fit t)
