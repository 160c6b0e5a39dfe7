-- Document 01's table of refusals, rows 2 to 14: for each the condition of its row, from the table's words. No walk, fuel, mark or order
-- is named here (proofs/Rows.antt: a refusal lies in its row, and a row holds only of what is refused). Last, what a refusal names
-- (proofs/Named.antt). Definitions; assumes nothing.
use Rattle.std.specs.Prelude.{◌≡◌, true, ℕ, zero, suc, ◌<◌, length}
use mathlib.Core.List.{List, [], ◌∷◌, ◌++◌, map, Memᴰ}
use Rattle.format.specs.declared.Place.TheVariants.{Root}
use Rattle.format.specs.Forest.{Forest, end, tree, breadth}
use Rattle.format.specs.Node.{FuncT, ServT, ClassT, FuncMode, Oneway, Node, label_value}
use Rattle.format.specs.Book.{Definition, File, Book}
use Rattle.format.specs.References.{references}
use Rattle.refusals.specs.declared.Refusal.{Refusal}
use Rattle.refusals.specs.declared.Refusal.TheVariants.{Twice, Unbound, Class, Modes, Oneway as OnewayResults, Circle, NoFunction, MethodNoFunction, NoService, Differs, ImportWithoutActor, ImportNoService, SameHash}
use Rattle.refusals.specs.Refusal.{names_of, name_of}
use Rattle.judgement.specs.Environment.{main_definitions, init_definitions, merge_definitions, named, head, is_func_kind, kids_of}
use Rattle.judgement.specs.Actor.{service_imports, main_actor, below_class, init_tree}
use Rattle.format.specs.Occurs.{Occurs, Beside}
use Rattle.judgement.specs.WellFormed.{defined_name, Defined, StandsFor, below_top}
use Rattle.judgement.specs.Rust.{hash_of}
use Rattle.judgement.specs.Same.{Same}
use Rattle.judgement.specs.Meaning.{MeetsUnbound, LeadsElsewhere, Together, services, ActorOf}
use Rattle.format.specs.Labels.{method_names}

-- ---- Rows that speak of trees and definitions alone

-- a stands at a place of the list, and again after it.
abbrev pub StandsTwice : {A : Type 0} → A → List A → Type 0
StandsTwice {A} a l = (xs : List A) × (ys : List A) × (l ≡ xs ++ (a ∷ ys)) × Memᴰ a ys

-- The alias chain goes on for k names, and for ever.
abbrev pub GoesOn : List Definition → ℕ → Forest Node → Type 0
GoesOn ds zero t = Unit {0}
GoesOn ds (suc k) t = (n : ℕ) × (d : Definition) × (head t ≡ named n) × Memᴰ d ds × (d.name ≡ n) × GoesOn ds k d.body

abbrev pub NeverEnds : List Definition → Forest Node → Type 0
NeverEnds ds t = (k : ℕ) → GoesOn ds k t

-- A function of more than one mode; a sole mode oneway with results; a class; a method that is no function.
abbrev pub HasModes : Forest Node → Type 0
HasModes f = (n : Node) × (kids : Forest Node) × (a : ℕ) × (ms : List FuncMode) × Occurs n kids f × (n.kind ≡ FuncT a ms) × (1 < length ms)

abbrev pub HasOneway : Forest Node → Type 0
HasOneway f = (n : Node) × (kids : Forest Node) × (a : ℕ) × Occurs n kids f × (n.kind ≡ FuncT a (Oneway ∷ [])) × (a < breadth kids)

abbrev pub HasClass : Forest Node → Type 0
HasClass f = (n : Node) × (kids : Forest Node) × Occurs n kids f × (n.kind ≡ ClassT)

abbrev pub HasMethod : List Definition → ℕ → Forest Node → Type 0
HasMethod ds name f =
    (n : Node) × (kids : Forest Node) × (m : Node) × (lids : Forest Node)
    × Occurs n kids f × (n.kind ≡ ServT) × Beside m lids kids × (label_value m.label ≡ name) × (StandsFor is_func_kind ds (tree m lids end) → ⊥)

-- A name is used in trees, and has no definition.
abbrev pub UsesUnbound : List Definition → ℕ → Forest Node → Type 0
UsesUnbound ds n f = Memᴰ n (references f) × (Defined ds n → ⊥)

-- Somewhere in the bodies.
abbrev pub InBodies : List Definition → (Forest Node → Type 0) → Type 0
InBodies ds P = (d : Definition) × Memᴰ d ds × P d.body

-- A name's definition starts an alias chain that never ends.
abbrev pub CircleFrom : List Definition → ℕ → Type 0
CircleFrom ds n = (d : Definition) × Memᴰ d ds × (d.name ≡ n) × NeverEnds ds d.body

-- ---- The rows of trees and definitions, by the refusal with its name

-- 3 to 6, of trees that are walked.
pub data WalkRow (ds : List Definition) (f : Forest Node) : Refusal → Type 0 where
  unbound : {n : ℕ} → UsesUnbound ds n f → WalkRow ds f (Unbound n)
  class : HasClass f → WalkRow ds f Class
  modes : HasModes f → WalkRow ds f Modes
  oneway : HasOneway f → WalkRow ds f OnewayResults

pub data DefinitionsRow (ds : List Definition) : Refusal → Type 0 where
  twice : {n : ℕ} → StandsTwice n (map defined_name ds) → DefinitionsRow ds (Twice n)
  walked : {r : Refusal} → InBodies ds (λ f. WalkRow ds f r) → DefinitionsRow ds r
  circle : {n : ℕ} → CircleFrom ds n → DefinitionsRow ds (Circle n)
  no_function : {n : ℕ} → InBodies ds (HasMethod ds n) → DefinitionsRow ds NoFunction

-- The rows of trees that are walked as an actor or as init arguments.
pub data TreesRow (ds : List Definition) (f : Forest Node) : Refusal → Type 0 where
  walked : {r : Refusal} → WalkRow ds f r → TreesRow ds f r
  method_no_function : {n : ℕ} → HasMethod ds n f → TreesRow ds f (MethodNoFunction n)

-- ---- The rows of the actor and its imports

-- A method whose hash an earlier one has.
abbrev pub HashRepeated : List (List ℕ) → List ℕ → ℕ → Type 0
HashRepeated names methods n =
    (earlier : List ℕ) × (others : List ℕ) × (methods ≡ earlier ++ (n ∷ others)) × Memᴰ (hash_of names n) (map (hash_of names) earlier)

pub data ActorRow (b : Book) : Refusal → Type 0 where
  -- 3: the chain of an actor that has to be a service meets a name without definition
  unbound : {n : ℕ} {t : Forest Node} → Memᴰ t (services b) → MeetsUnbound (main_definitions b) n t → ActorRow b (Unbound n)
  -- 10 and 13: there is an actor, and it leads to another type
  no_service : (main_actor b ≡ end → ⊥) → LeadsElsewhere (main_definitions b) (below_class (main_actor b)) → ActorRow b NoService
  import_no_service : {f : File} → Memᴰ f (service_imports b.files) → (f.actor ≡ end → ⊥) → LeadsElsewhere (main_definitions b) f.actor →
      ActorRow b (ImportNoService f.name)
  -- 12: there is none
  import_without_actor : {f : File} → Memᴰ f (service_imports b.files) → f.actor ≡ end → ActorRow b (ImportWithoutActor f.name)
  -- 14: with service imports, of all methods together
  same_hash : {methods : Forest Node} {n : ℕ} → (service_imports b.files ≡ [] → ⊥) → Together (main_definitions b) (services b) methods →
      HashRepeated b.names (method_names methods) n → ActorRow b (SameHash n)

-- A refusal of the check: of the definitions, of the walk of the book's actor, or of the actor and its imports.
pub data CheckRow (b : Book) : Refusal → Type 0 where
  definitions : {r : Refusal} → DefinitionsRow (main_definitions b) r → CheckRow b r
  walk : {t : Forest Node} {r : Refusal} → ActorOf b t → TreesRow (main_definitions b) (below_top t) r → CheckRow b r
  actor : {r : Refusal} → ActorRow b r → CheckRow b r

-- The numbers that there are.
abbrev pub check_rows : List ℕ
check_rows = 2 ∷ 3 ∷ 4 ∷ 5 ∷ 6 ∷ 7 ∷ 8 ∷ 9 ∷ 10 ∷ 12 ∷ 13 ∷ 14 ∷ []

-- ---- The rows of init arguments

-- Both files define the name, and not as the same type.
abbrev pub Disagree : Book → ℕ → Type 0
Disagree b n =
    (d e : Definition) × Memᴰ d (init_definitions b) × Memᴰ e (main_definitions b) × (d.name ≡ n) × (e.name ≡ n)
    × (Same b.names Root d.body e.body → ⊥)

-- A refusal of the init check: of the init file's own definitions, of the lowest name on which both disagree, or of the arguments' walk.
pub data InitRow (b : Book) : Refusal → Type 0 where
  definitions : {r : Refusal} → DefinitionsRow (init_definitions b) r → InitRow b r
  differs : {n : ℕ} → Disagree b n → ((m : ℕ) → m < n → Disagree b m → ⊥) → InitRow b (Differs n)
  walk : {r : Refusal} → TreesRow (merge_definitions (init_definitions b) (main_definitions b)) (kids_of (init_tree b.files)) r → InitRow b r

-- ---- What a refusal names

-- The number that it names, where it names one, is a place in a table of so many names.
abbrev pub NamesPlace : ℕ → Refusal → Type 0
NamesPlace names r = names_of r ≡ true → name_of r < names
