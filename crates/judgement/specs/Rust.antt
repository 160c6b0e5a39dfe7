-- What the Rust asks beyond Candid.md. Predicates: none of them knows of the check, its verdicts or fuel. Definitions; assumes nothing.
use Rattle.std.specs.Prelude.{◌≡◌, ◌⊎◌, ℕ, ◌≤◌, length, get_or, T}
use mathlib.Core.List.{List, [], map, Memᴰ}
use Rattle.labels.specs.Number.{label_number}
use Rattle.format.specs.declared.Place.TheVariants.{Root}
use Rattle.format.specs.Forest.{Forest, end}
use Rattle.format.specs.Node.{FuncT, FuncMode, Node}
use Rattle.format.specs.Book.{Definition, File, Book}
use Rattle.format.specs.Occurs.{Occurs}
use Rattle.format.specs.Distinct.{Distinct}
use Rattle.format.specs.Labels.{method_names}
use Rattle.judgement.specs.Environment.{main_definitions, init_definitions, kids_of}
use Rattle.judgement.specs.Actor.{service_imports, main_actor, init_tree, is_class}
use Rattle.judgement.specs.WellFormed.{below_top}
use Rattle.judgement.specs.Same.{Same}
use Rattle.judgement.specs.Meaning.{Together, services}

-- At most one mode.
abbrev pub OneMode : Forest Node → Type 0
OneMode f = (n : Node) (kids : Forest Node) (a : ℕ) (ms : List FuncMode) → Occurs n kids f → n.kind ≡ FuncT a ms → length ms ≤ 1

abbrev pub OneModeDefinitions : List Definition → Type 0
OneModeDefinitions ds = (d : Definition) → Memᴰ d ds → OneMode d.body

-- A method's hash, by its name; those of methods.
abbrev pub hash_of : List (List ℕ) → ℕ → ℕ
hash_of names n = label_number (get_or names n [])

abbrev pub hashes_of : List (List ℕ) → Forest Node → List ℕ
hashes_of names methods = map (hash_of names) (method_names methods)

-- The methods of all services together differ by hash.
pub record Hashed (b : Book) : Type 0 where
  pub methods : Forest Node
  pub together : Together (main_definitions b) (services b) methods
  pub distinct : Distinct (hashes_of b.names methods)

-- At most one mode; a service import has an actor, and it is no class; with service imports all methods differ by hash.
pub record Rust (b : Book) : Type 0 where
  pub modes : OneModeDefinitions (main_definitions b)
  pub actor_modes : OneMode (below_top (main_actor b))
  pub import_modes : (f : File) → Memᴰ f (service_imports b.files) → OneMode f.actor
  pub import_actors : (f : File) → Memᴰ f (service_imports b.files) → f.actor ≡ end → ⊥
  pub import_services : (f : File) → Memᴰ f (service_imports b.files) → T (is_class f.actor) → ⊥
  pub hashes : (service_imports b.files ≡ []) ⊎ Hashed b

-- Init arguments: one mode, and what both files define is the same.
pub record RustInit (b : Book) : Type 0 where
  pub modes : OneModeDefinitions (init_definitions b)
  pub argument_modes : OneMode (kids_of (init_tree b.files))
  pub merged : (d e : Definition) → Memᴰ d (init_definitions b) → Memᴰ e (main_definitions b) → d.name ≡ e.name → Same b.names Root d.body e.body
