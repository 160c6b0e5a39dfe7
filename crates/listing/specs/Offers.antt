-- What an actor offers: class arguments and methods, and the order of all arguments and results, as document 01 says. No walk is named here.
-- Definitions; assumes nothing.
use Rattle.std.specs.Prelude.{◌≡◌, cond, List, [], ◌∷◌, ◌++◌, ℕ, zero, suc, ◌+◌, ◌<◌}
use Rattle.format.specs.Forest.{Forest, end, tree, beside, breadth, first_tree, after_trees}
use Rattle.format.specs.Node.{FuncT, ClassT, FuncMode, Node}
use Rattle.format.specs.Book.{Definition}
use Rattle.format.specs.Occurs.{Beside}
use Rattle.judgement.specs.Environment.{is_func_kind}
use Rattle.judgement.specs.Aliases.{End, unbound, circle, ends, alias_end}
use Rattle.judgement.specs.WellFormed.{Leads}
use Rattle.judgement.specs.Meaning.{Serves}
use Rattle.listing.specs.Sites.{Site}

-- ---- Actors

-- By aliases a type leads to a function: the first `arguments` of `kids` are its arguments, the others its results.
pub record Function (ds : List Definition) (t : Forest Node) (arguments : ℕ) (kids : Forest Node) : Type 0 where
  pub node : Node
  pub modes : List FuncMode
  pub next : Forest Node
  pub leads : Leads ds t (tree node kids next)
  pub function : node.kind ≡ FuncT arguments modes

-- An actor: a service, or a class, whose last child is the service, the others being its arguments.
pub data Interface (ds : List Definition) (t arguments methods : Forest Node) : Type 0 where
  service : arguments ≡ end → Serves ds t methods → Interface ds t arguments methods
  class : {c : Node} {last next : Forest Node} →
      t ≡ tree c (beside arguments last) next → c.kind ≡ ClassT → breadth last ≡ 1 → Serves ds last methods → Interface ds t arguments methods

-- Each tree leads to a function.
abbrev pub Functions : List Definition → Forest Node → Type 0
Functions ds f = (n : Node) (kids : Forest Node) → Beside n kids f → (a : ℕ) × (lids : Forest Node) × Function ds (tree n kids end) a lids

-- ---- The arguments and results of an actor, in document 01's order

-- Tree i of a forest, alone; its first k trees.
abbrev pub tree_number : ℕ → Forest Node → Forest Node
tree_number i f = first_tree (after_trees i f)

unfoldable pub first_trees : ℕ → Forest Node → Forest Node
first_trees zero f = end
first_trees (suc k) end = end
first_trees (suc k) (tree n kids next) = tree n kids (first_trees k next)

-- A type with its entry: method m, or 65,535 for the class; 0 argument or 1 result; index i.
abbrev pub site : (m result i : ℕ) → Forest Node → Site
site m r i t = record { entry = record { method = m; result = r; index = i }; type = t }

-- The trees of a forest, each alone, with the indices from i on.
unfoldable pub indexed : (m result i : ℕ) → Forest Node → List Site
indexed m r i end = []
indexed m r i (tree n kids next) = site m r i (tree n kids end) ∷ indexed m r (suc i) next

-- Of a function whose first a children are arguments: these, then the results.
abbrev pub function_sites : (m a : ℕ) → Forest Node → List Site
function_sites m a kids = indexed m 0 0 (first_trees a kids) ++ indexed m 1 0 (after_trees a kids)

-- Method by method, from position m on.
pub data MethodSites (ds : List Definition) : ℕ → Forest Node → List Site → Type 0 where
  none : {m : ℕ} → MethodSites ds m end []
  method : {m a : ℕ} {n : Node} {kids lids next : Forest Node} {l : List Site} → Function ds (tree n kids end) a lids → MethodSites ds (suc m) next l →
      MethodSites ds m (tree n kids next) (function_sites m a lids ++ l)

-- One of them, by its numbers: of a method m whose function has `kids`, the first a of them arguments; and of an actor.
pub data FunctionSite (m a : ℕ) (kids : Forest Node) (s : Site) : Type 0 where
  argument : (i : ℕ) → i < a → i < breadth kids → s ≡ site m 0 i (tree_number i kids) → FunctionSite m a kids s
  result : (i : ℕ) → a + i < breadth kids → s ≡ site m 1 i (tree_number (a + i) kids) → FunctionSite m a kids s

pub data SiteOf (ds : List Definition) (arguments methods : Forest Node) (s : Site) : Type 0 where
  of_class : (i : ℕ) → i < breadth arguments → s ≡ site 65535 0 i (tree_number i arguments) → SiteOf ds arguments methods s
  of_method : {m a : ℕ} {kids : Forest Node} → m < breadth methods → Function ds (tree_number m methods) a kids → FunctionSite m a kids s → SiteOf ds arguments methods s

-- Where it stands among its function's, and among the actor's.
unfoldable pub function_place : {m a : ℕ} {kids : Forest Node} {s : Site} → FunctionSite m a kids s → ℕ
function_place (argument i h k e) = i
function_place {a = a} (result i k e) = a + i

-- How many arguments and results a function at a chain's end has; none where there is no function.
unfoldable pub function_breadth : End → ℕ
function_breadth (unbound n) = 0
function_breadth circle = 0
function_breadth (ends end) = 0
function_breadth (ends (tree n kids next)) = cond (is_func_kind n.kind) (breadth kids) 0

-- The arguments and results of methods together.
unfoldable pub arguments_and_results : List Definition → Forest Node → ℕ
arguments_and_results ds end = 0
arguments_and_results ds (tree n kids next) = function_breadth (alias_end ds (tree n kids end)) + arguments_and_results ds next

unfoldable pub site_place : {ds : List Definition} {arguments methods : Forest Node} {s : Site} → SiteOf ds arguments methods s → ℕ
site_place (of_class i h e) = i
site_place {ds} {arguments} {methods} (of_method {m = m} h f y) = breadth arguments + (arguments_and_results ds (first_trees m methods) + function_place y)
