-- The actor of a book by its interface. Definitions; assumes nothing.
--     methods_in                         methods of services
--     is_present, main_of                whether there is one, and main's node
--     interface_tree, InterfaceNodes     the tree that the actor is, and its nodes
--     ActorAs, InterfaceAs              what it offers, before and after 10
use Rattle.std.specs.Prelude.{◌≡◌, Bool, true, false, cond, List, [], ◌∷◌, Option, Some, None, ℕ, ◌≤◌, ◌<◌, length, All, IfSome}
use Rattle.format.specs.Forest.{Forest, end, beside}
use Rattle.format.specs.Node.{Node}
use Rattle.format.specs.Book.{Definition}
use Rattle.format.specs.Layout.{row_at}
use Rattle.format.specs.Whole.{tree_at}
use Rattle.judgement.specs.Environment.{kids_of}
use Rattle.judgement.specs.Aliases.{alias_end, as_service, methods_at}
use Rattle.judgement.specs.Actor.{below_class, merged_of}
use Rattle.syntax.specs.declared.interface.Actor.{Actor}
use Rattle.syntax.specs.declared.interface.Actor.TheVariants.{Absent, Written, Merged}
use Rattle.syntax.specs.declared.interface.Interface.{Interface}
use Rattle.syntax.specs.Classes.{tree_of, ArgumentsAs}

-- ---- Services

-- A node that is a service.
abbrev pub IsService : List ℕ → ℕ → ℕ → Type 0
IsService ns count n = (n < count) × ((row_at ns n).kind ≡ 24)

-- The methods of the services at these nodes, in order.
unfoldable pub methods_in : List ℕ → List ℕ → Forest Node
methods_in ns [] = end
methods_in ns (s ∷ ss) = beside (kids_of (tree_at ns s)) (methods_in ns ss)

-- ---- The actor

-- Whether there is one.
unfoldable pub is_present : Actor → Bool
is_present Absent = false
is_present (Written root) = true
is_present (Merged main) = true

-- Whether it is merged from services.
abbrev pub IsMerged : Actor → Type 0
IsMerged actor = (main : Option ℕ) × (actor ≡ Merged main)

-- The node of main's own.
unfoldable pub main_of : Actor → Option ℕ
main_of Absent = None
main_of (Written root) = Some root
main_of (Merged main) = main

-- The tree that it is, where its methods are those of services; `end` where there is none.
unfoldable pub actor_tree : List ℕ → List ℕ → Actor → Forest Node
actor_tree ns services Absent = end
actor_tree ns services (Written root) = tree_at ns root
actor_tree ns services (Merged main) = merged_of (tree_of ns main) (methods_in ns services)

abbrev pub interface_tree : List ℕ → Interface → Forest Node
interface_tree ns i = actor_tree ns i.services i.actor

-- Its nodes.
pub record InterfaceNodes (ns : List ℕ) (count : ℕ) (i : Interface) : Type 0 where
  pub few : length i.services ≤ 16
  pub main : IfSome (main_of i.actor) (λ n. n < count)
  pub service : All (IsService ns count) i.services

-- None.
abbrev pub no_interface : Interface
no_interface = record { actor = Absent; from = 0; until = 0; services = [] }

-- ---- What it offers

-- The actor is the tree t; where it is a service below its top (10), the services are those of its methods. As written it has one then,
-- and else none.
pub record ActorAs (ns : List ℕ) (count : ℕ) (ds : List Definition) (t : Forest Node) (r : Interface) : Type 0 where
  pub tree : interface_tree ns r ≡ t
  pub nodes : InterfaceNodes ns count r
  pub arguments : ArgumentsAs ns count t r.from r.until
  pub methods : as_service ds (below_class t) ≡ true → methods_in ns r.services ≡ methods_at (alias_end ds (below_class t))
  pub served : (root : ℕ) → r.actor ≡ Written root → length r.services ≡ cond (as_service ds (below_class t)) 1 0

-- What an actor offers that is the tree t, which is a service below its top.
pub record InterfaceAs (ns : List ℕ) (count : ℕ) (ds : List Definition) (t : Forest Node) (r : Interface) : Type 0 where
  pub arguments : ArgumentsAs ns count t r.from r.until
  pub few : length r.services ≤ 16
  pub service : All (IsService ns count) r.services
  pub methods : methods_in ns r.services ≡ methods_at (alias_end ds (below_class t))
  pub serves : as_service ds (below_class t) ≡ true
