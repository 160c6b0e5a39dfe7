-- Well-formed declarations, as Candid.md states them of what is written. Predicates on trees and definitions: none of them knows of the
-- check, its verdicts or fuel (proofs/Theorems.antt joins the two). Definitions; assumes nothing.
use Rattle.std.specs.Prelude.{◌≡◌, ◌⊎◌, Bool, true, cond, ℕ, ◌≤◌, T}
use mathlib.Core.List.{List, map, Memᴰ}
use Rattle.format.specs.Forest.{Forest, end, tree, breadth}
use Rattle.format.specs.Node.{Kind, FuncT, ServT, ClassT, FuncMode, Oneway, Node}
use Rattle.format.specs.Book.{Definition, File, Book, trees}
use Rattle.format.specs.References.{references}
use Rattle.format.specs.Occurs.{Occurs, Beside}
use Rattle.format.specs.Distinct.{Distinct}
use Rattle.format.specs.Labels.{Labels}
use Rattle.judgement.specs.Environment.{main_definitions, init_definitions, merge_definitions, named, other, head, is_func_kind, is_serv_kind, kids_of}
use Rattle.judgement.specs.Actor.{service_imports, main_actor, init_tree, is_class, below_class}

-- ---- Names
abbrev pub defined_name : Definition → ℕ
defined_name d = d.name

-- A name has a definition.
abbrev pub Defined : List Definition → ℕ → Type 0
Defined ds n = Memᴰ n (map defined_name ds)

-- A type leads to another by aliases alone: it is no name, or its definition leads there.
pub data Leads (ds : List Definition) : Forest Node → Forest Node → Type 0 where
  arrived : {t : Forest Node} → head t ≡ other → Leads ds t t
  onward : {t u : Forest Node} {n : ℕ} {d : Definition} → head t ≡ named n → Memᴰ d ds → d.name ≡ n → Leads ds d.body u → Leads ds t u

-- The root of a type passes a test.
abbrev pub RootIs : (Kind → Bool) → Forest Node → Type 0
RootIs test end = ⊥
RootIs test (tree n kids next) = T (test n.kind)

-- A type stands for one of a kind: by aliases it leads there.
pub record StandsFor (test : Kind → Bool) (ds : List Definition) (t : Forest Node) : Type 0 where
  pub type : Forest Node
  pub leads : Leads ds t type
  pub root : RootIs test type

-- ---- Well-formed trees
abbrev pub Bound : List Definition → Forest Node → Type 0
Bound ds f = (n : ℕ) → Memᴰ n (references f) → Defined ds n

abbrev pub NoClass : Forest Node → Type 0
NoClass f = (n : Node) (kids : Forest Node) → Occurs n kids f → n.kind ≡ ClassT → ⊥

abbrev pub OnewayWithoutResults : Forest Node → Type 0
OnewayWithoutResults f =
    (n : Node) (kids : Forest Node) (a : ℕ) (ms : List FuncMode) → Occurs n kids f → n.kind ≡ FuncT a ms → Memᴰ Oneway ms → breadth kids ≤ a

abbrev pub MethodsAreFunctions : List Definition → Forest Node → Type 0
MethodsAreFunctions ds f =
    (n : Node) (kids : Forest Node) → Occurs n kids f → n.kind ≡ ServT →
    (m : Node) (lids : Forest Node) → Beside m lids kids → StandsFor is_func_kind ds (tree m lids end)

pub record WellFormedTrees (ds : List Definition) (f : Forest Node) : Type 0 where
  pub bound : Bound ds f
  pub no_class : NoClass f
  pub oneway : OnewayWithoutResults f
  pub methods : MethodsAreFunctions ds f

-- ---- Definitions, all in one space
pub record WellFormedDefinitions (ds : List Definition) : Type 0 where
  pub once : Distinct (map defined_name ds)
  pub trees : (d : Definition) → Memᴰ d ds → WellFormedTrees ds d.body
  pub chains : (d : Definition) → Memᴰ d ds → StandsFor (λ k. true) ds d.body

-- ---- The book

-- What is walked of an actor: all of it, but for a class's own node.
unfoldable pub below_top : Forest Node → Forest Node
below_top t = cond (is_class t) (kids_of t) t

-- An actor as written: what stands below its top is well-formed, and it stands for a service, a class by its last child.
pub record WellFormedActor (ds : List Definition) (t : Forest Node) : Type 0 where
  pub trees : WellFormedTrees ds (below_top t)
  pub service : StandsFor is_serv_kind ds (below_class t)

-- Candid.md but for labels: each name is defined once, every name is bound, no class below the top, a oneway function has no results, alias
-- chains end, each method stands for a function, and the main actor and each service import's, where there is one, for a service.
pub record Typed (b : Book) : Type 0 where
  pub definitions : WellFormedDefinitions (main_definitions b)
  pub actor : (main_actor b ≡ end) ⊎ WellFormedActor (main_definitions b) (main_actor b)
  pub imports : (f : File) → Memᴰ f (service_imports b.files) → (f.actor ≡ end) ⊎ WellFormedActor (main_definitions b) f.actor

-- Candid.md: and labels differ, in every tree of the book. The Rust leaves this to its grammar; admission asks for it (18).
pub record WellFormed (b : Book) : Type 0 where
  pub typed : Typed b
  pub labels : Labels b.names (trees b)

-- ---- Init arguments: definitions of their own, and arguments under these and main's
pub record TypedInit (b : Book) : Type 0 where
  pub definitions : WellFormedDefinitions (init_definitions b)
  pub arguments : WellFormedTrees (merge_definitions (init_definitions b) (main_definitions b)) (kids_of (init_tree b.files))
