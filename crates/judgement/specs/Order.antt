-- The order of the check from outside: which refusal is the first, by predicates alone. A constructor for each step that can refuse has
-- what the steps before it ask, and what is the first within it. No verdict, walk, fuel or mark is named here (proofs/Order.antt: the check
-- refuses exactly so). Definitions; assumes nothing.
use Rattle.std.specs.Prelude.{◌≡◌, ◌⊎◌, Bool, true, false, ◌&&◌, ℕ, ◌<◌, length, T}
use mathlib.Core.List.{List, [], ◌∷◌, ◌++◌, map, Memᴰ}
use Rattle.format.specs.Forest.{Forest, end, tree, breadth}
use Rattle.format.specs.Node.{VarT, FuncT, ClassT, FuncMode, Oneway, Node, label_value}
use Rattle.format.specs.Book.{Definition, File, Book}
use Rattle.format.specs.Distinct.{Distinct, FirstRepeat}
use Rattle.format.specs.Labels.{method_names}
use Rattle.refusals.specs.declared.Refusal.{Refusal}
use Rattle.refusals.specs.declared.Refusal.TheVariants.{Twice, Unbound, Class, Modes, Oneway as OnewayResults, Circle, NoFunction, MethodNoFunction, NoService, Differs, ImportWithoutActor, ImportNoService, SameHash}
use Rattle.judgement.specs.Environment.{main_definitions, init_definitions, merge_definitions, is_func_kind, is_serv_kind, kids_of}
use Rattle.judgement.specs.Actor.{service_imports, main_actor, init_tree, below_class}
use Rattle.judgement.specs.WellFormed.{defined_name, Defined, StandsFor, Bound, NoClass, OnewayWithoutResults, MethodsAreFunctions, WellFormedDefinitions, below_top, Typed}
use Rattle.judgement.specs.Rust.{OneMode, OneModeDefinitions, hash_of, Hashed, Rust}
use Rattle.judgement.specs.Rows.{HasMethod, InBodies, CircleFrom, Disagree}
use Rattle.judgement.specs.Meaning.{MeetsUnbound, LeadsElsewhere, Together, services, ActorOf}

-- ---- Firsts in a list

-- The first element that is bad: all before it are fine.
pub record First {A : Type 0} (Fine Bad : A → Type 0) (l : List A) : Type 0 where
  pub before : List A
  pub it : A
  pub following : List A
  pub parts : l ≡ before ++ (it ∷ following)
  pub fine : (a : A) → Memᴰ a before → Fine a
  pub bad : Bad it

-- ---- The walk over types: children first and left to right

-- Trees in which nothing is refused: names are bound, no class, modes are right and, where methods are tested, they are functions.
pub record Sound (ds : List Definition) (tests : Bool) (f : Forest Node) : Type 0 where
  pub bound : Bound ds f
  pub no_class : NoClass f
  pub oneway : OnewayWithoutResults f
  pub one_mode : OneMode f
  pub methods : T tests → MethodsAreFunctions ds f

-- The first fault of trees. `tests`: methods are to be functions; `method`: these trees are such methods.
pub data Fault (ds : List Definition) (tests : Bool) : (method : Bool) → Forest Node → Refusal → Type 0 where
  -- 3: a name without definition
  unbound : {method : Bool} {x : Node} {kids next : Forest Node} {n : ℕ} → x.kind ≡ VarT n → (Defined ds n → ⊥) → Fault ds tests method (tree x kids next) (Unbound n)
  -- 4: a class, unopened
  class : {method : Bool} {x : Node} {kids next : Forest Node} → x.kind ≡ ClassT → Fault ds tests method (tree x kids next) Class
  -- below a node
  below : {method : Bool} {x : Node} {kids next : Forest Node} {r : Refusal} → (x.kind ≡ ClassT → ⊥) → Fault ds tests (tests && is_serv_kind x.kind) kids r →
      Fault ds tests method (tree x kids next) r
  -- 5 and 6: a function's modes, after its arguments and results
  modes : {method : Bool} {x : Node} {kids next : Forest Node} {a : ℕ} {ms : List FuncMode} → x.kind ≡ FuncT a ms → Sound ds tests kids → 1 < length ms →
      Fault ds tests method (tree x kids next) Modes
  oneway : {method : Bool} {x : Node} {kids next : Forest Node} {a : ℕ} → x.kind ≡ FuncT a (Oneway ∷ []) → Sound ds tests kids → a < breadth kids →
      Fault ds tests method (tree x kids next) OnewayResults
  -- 9: a method that is no function, after all of its own type
  no_function : {method : Bool} {x : Node} {kids next : Forest Node} → T method → Sound ds tests (tree x kids end) → (StandsFor is_func_kind ds (tree x kids end) → ⊥) →
      Fault ds tests method (tree x kids next) (MethodNoFunction (label_value x.label))
  -- in the trees after it
  later : {method : Bool} {x : Node} {kids next : Forest Node} {r : Refusal} → Sound ds tests (tree x kids end) → (T method → StandsFor is_func_kind ds (tree x kids end)) →
      Fault ds tests method next r → Fault ds tests method (tree x kids next) r

-- ---- Definitions: 2, then 3 to 6 body by body, then 7, then 8
abbrev pub Once : List Definition → Type 0
Once ds = Distinct (map defined_name ds)

abbrev pub SoundBodies : List Definition → Type 0
SoundBodies ds = (d : Definition) → Memᴰ d ds → Sound ds false d.body

pub data DefinitionsRefuse (ds : List Definition) : Refusal → Type 0 where
  twice : {d : Definition} → FirstRepeat defined_name ds d → DefinitionsRefuse ds (Twice d.name)
  body : {r : Refusal} → Once ds → First (λ d. Sound ds false d.body) (λ d. Fault ds false false d.body r) ds → DefinitionsRefuse ds r
  circle : {n : ℕ} → Once ds → SoundBodies ds → CircleFrom ds n → ((m : ℕ) → m < n → CircleFrom ds m → ⊥) → DefinitionsRefuse ds (Circle n)
  no_function : {n : ℕ} → Once ds → SoundBodies ds → ((m : ℕ) → CircleFrom ds m → ⊥) → InBodies ds (HasMethod ds n) → DefinitionsRefuse ds NoFunction

abbrev pub DefinitionsPass : List Definition → Type 0
DefinitionsPass ds = WellFormedDefinitions ds × OneModeDefinitions ds

-- ---- A type that has to stand for a service

-- 3, or the refusal of another type.
pub data Unserved (ds : List Definition) (other : Refusal) (t : Forest Node) : Refusal → Type 0 where
  unbound : {n : ℕ} → MeetsUnbound ds n t → Unserved ds other t (Unbound n)
  elsewhere : LeadsElsewhere ds t → Unserved ds other t other

-- ---- The actor, resolved where there are service imports: main, each import, then 14
abbrev pub MainServes : Book → Type 0
MainServes b = (main_actor b ≡ end) ⊎ StandsFor is_serv_kind (main_definitions b) (below_class (main_actor b))

abbrev pub Imported : Book → Type 0
Imported b = service_imports b.files ≡ [] → ⊥

pub data ResolvingRefuses (b : Book) : Refusal → Type 0 where
  main : {r : Refusal} → (main_actor b ≡ end → ⊥) → Unserved (main_definitions b) NoService (below_class (main_actor b)) r → ResolvingRefuses b r
  imported : {r : Refusal} → MainServes b →
      First (λ f. StandsFor is_serv_kind (main_definitions b) f.actor) (λ f. Unserved (main_definitions b) (ImportNoService f.name) f.actor r) (service_imports b.files) →
      ResolvingRefuses b r
  same_hash : {methods : Forest Node} {n : ℕ} → Together (main_definitions b) (services b) methods → FirstRepeat (hash_of b.names) (method_names methods) n → ResolvingRefuses b (SameHash n)

-- ---- The walk of the actor, and 10
pub data ActorRefuses (b : Book) : Refusal → Type 0 where
  walk : {actor : Forest Node} {r : Refusal} → ActorOf b actor → Fault (main_definitions b) true false (below_top actor) r → ActorRefuses b r
  no_service : service_imports b.files ≡ [] → (main_actor b ≡ end → ⊥) → Sound (main_definitions b) true (below_top (main_actor b)) →
      LeadsElsewhere (main_definitions b) (below_class (main_actor b)) → ActorRefuses b NoService

-- ---- The check
abbrev pub ImportsHaveActors : Book → Type 0
ImportsHaveActors b = (f : File) → Memᴰ f (service_imports b.files) → f.actor ≡ end → ⊥

pub data CheckRefuses (b : Book) : Refusal → Type 0 where
  without_actor : {n : ℕ} → First (λ f. f.actor ≡ end → ⊥) (λ f. (f.name ≡ n) × (f.actor ≡ end)) (service_imports b.files) → CheckRefuses b (ImportWithoutActor n)
  definitions : {r : Refusal} → ImportsHaveActors b → DefinitionsRefuse (main_definitions b) r → CheckRefuses b r
  resolving : {r : Refusal} → ImportsHaveActors b → DefinitionsPass (main_definitions b) → Imported b → ResolvingRefuses b r → CheckRefuses b r
  actor : {r : Refusal} → ImportsHaveActors b → DefinitionsPass (main_definitions b) → (Imported b → Hashed b) → ActorRefuses b r → CheckRefuses b r

-- ---- The init check goes on with the init file
pub data InitRefuses (b : Book) : Refusal → Type 0 where
  definitions : {r : Refusal} → DefinitionsRefuse (init_definitions b) r → InitRefuses b r
  differs : {n : ℕ} → DefinitionsPass (init_definitions b) → Disagree b n → ((m : ℕ) → m < n → Disagree b m → ⊥) → InitRefuses b (Differs n)
  arguments : {r : Refusal} → DefinitionsPass (init_definitions b) → ((m : ℕ) → Disagree b m → ⊥) →
      Fault (merge_definitions (init_definitions b) (main_definitions b)) true false (kids_of (init_tree b.files)) r → InitRefuses b r

-- What the init check refuses: what the check does, or the init file of a book that passes it.
abbrev pub InitCheckRefuses : Book → Refusal → Type 0
InitCheckRefuses b r = CheckRefuses b r ⊎ ((Typed b × Rust b) × InitRefuses b r)
