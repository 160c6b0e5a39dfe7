-- What an alias chain comes to and what a book's actor means, as relations: `resolve_actor` of syntax/mod.rs without any walk or fuel. Definitions;
-- assumes nothing.
use Rattle.std.specs.Prelude.{◌≡◌, ℕ}
use mathlib.Core.List.{List, [], ◌∷◌, ◌++◌, map, Memᴰ}
use Rattle.format.specs.Forest.{Forest, end, tree, beside}
use Rattle.format.specs.Node.{ServT, Node}
use Rattle.format.specs.Book.{Definition, File, Book}
use Rattle.judgement.specs.Environment.{main_definitions, named, head, is_serv_kind}
use Rattle.judgement.specs.Actor.{service_imports, main_actor, below_class, merged_of}
use Rattle.judgement.specs.WellFormed.{Defined, Leads, RootIs}

-- ---- Alias chains

-- By aliases it comes to this name.
pub data ComesTo (ds : List Definition) : Forest Node → ℕ → Type 0 where
  here : {t : Forest Node} {n : ℕ} → head t ≡ named n → ComesTo ds t n
  onward : {t : Forest Node} {m n : ℕ} {d : Definition} → head t ≡ named m → Memᴰ d ds → d.name ≡ m → ComesTo ds d.body n → ComesTo ds t n

-- Across these names, one after the other, it comes to this type: the way of `Leads` and of `ComesTo`.
pub data Across (ds : List Definition) : List ℕ → Forest Node → Forest Node → Type 0 where
  here : {t : Forest Node} → Across ds [] t t
  onward : {t u : Forest Node} {n : ℕ} {ns : List ℕ} {d : Definition} → head t ≡ named n → Memᴰ d ds → d.name ≡ n → Across ds ns d.body u → Across ds (n ∷ ns) t u

-- The chain meets a name without definition.
abbrev pub MeetsUnbound : List Definition → ℕ → Forest Node → Type 0
MeetsUnbound ds n t = ComesTo ds t n × (Defined ds n → ⊥)

-- The chain ends at another type.
abbrev pub LeadsElsewhere : List Definition → Forest Node → Type 0
LeadsElsewhere ds t = (u : Forest Node) × Leads ds t u × (RootIs is_serv_kind u → ⊥)

-- ---- The actor

-- By aliases a type leads to a service with these methods.
pub record Serves (ds : List Definition) (t methods : Forest Node) : Type 0 where
  pub node : Node
  pub next : Forest Node
  pub leads : Leads ds t (tree node methods next)
  pub service : node.kind ≡ ServT

-- The methods of each of these types, one after the other.
pub data Together (ds : List Definition) : List (Forest Node) → Forest Node → Type 0 where
  none : Together ds [] end
  more : {t methods rest : Forest Node} {ts : List (Forest Node)} → Serves ds t methods → Together ds ts rest → Together ds (t ∷ ts) (beside methods rest)

-- The actors as written whose methods are merged: main's, where there is one, below its class; then the service imports' in file order.
unfoldable pub main_service : Forest Node → List (Forest Node)
main_service end = []
main_service (tree n kids next) = below_class (tree n kids next) ∷ []

abbrev pub actor_of : File → Forest Node
actor_of f = f.actor

unfoldable pub services : Book → List (Forest Node)
services b = main_service (main_actor b) ++ map actor_of (service_imports b.files)

-- The actor of a book: main's as written without service imports; with them all methods together, and a class keeps its arguments.
pub data ActorOf (b : Book) : Forest Node → Type 0 where
  written : service_imports b.files ≡ [] → ActorOf b (main_actor b)
  merged : {methods : Forest Node} → (service_imports b.files ≡ [] → ⊥) → Together (main_definitions b) (services b) methods → ActorOf b (merged_of (main_actor b) methods)
