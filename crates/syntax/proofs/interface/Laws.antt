-- The actor that an interface is. Assumes nothing.
--     merged-arguments, merged-methods, ..     an actor merged from services
--     tree-root                                a tree by its stored root
--     tree-absent, tree-merged, ..             whether there is an actor
--     interface-as                             what an actor offers that is a service below its top
use mathlib.Core.Path.{◌≡◌, refl, sym, ap}
use mathlib.Core.Bool.{Bool, true, false, cond, false≢true}
use mathlib.Core.List.{List}
use Prim.Native.Nat.{ℕ}
use lib.Dec.{eqb}
use Rattle.std.specs.Prelude.{Option, Some, None, IfSome}
use Rattle.format.specs.Forest.{Forest, end, tree, breadth, no_trees}
use Rattle.format.specs.Node.{Node}
use Rattle.format.specs.Book.{Definition}
use Rattle.format.specs.Whole.{WholeAt, tree_at, actor_at}
use Rattle.format.proofs.Stored.{tree-opens}
use Rattle.judgement.specs.Environment.{head_kind, head, is_serv_kind, kids_of}
use Rattle.judgement.specs.Aliases.{ends, alias_end, as_service, methods_at}
use Rattle.judgement.specs.Actor.{is_class_kind, is_class, all_but_last, class_arguments, below_class, service_of, class_of, merged_of}
use Rattle.judgement.proofs.Classes.{others-beside}
use Rattle.judgement.proofs.Meaning.{merged-below}
use Rattle.environment.proofs.FuncEnds.{stays}
use Rattle.syntax.specs.declared.interface.Actor.{Actor}
use Rattle.syntax.specs.declared.interface.Actor.TheVariants.{Absent, Written, Merged}
use Rattle.syntax.specs.declared.interface.Interface.{Interface}
use Rattle.book.specs.Reading.{stored_root}
use Rattle.syntax.specs.Classes.{tree_of}
use Rattle.syntax.specs.Interfaces.{is_present, main_of, actor_tree, ActorAs, InterfaceAs}

-- ---- An actor merged from services
module _ (main methods : Forest Node) where
  pub merged-arguments : class_arguments (merged_of main methods) ≡ class_arguments main
  unfolding class_arguments is_class is_class_kind kids_of breadth
  merged-arguments = go (is_class main) (all_but_last (kids_of main))
    where
      go : (b : Bool) (f : Forest Node) → class_arguments (cond b (class_of (cond b f end) (service_of methods)) (service_of methods)) ≡ cond b f end
      go true f = others-beside f (service_of methods) refl
      go false f = refl

  module _ (ds : List Definition) where
    service-stays : alias_end ds (below_class (merged_of main methods)) ≡ ends (service_of methods)
    unfolding head head_kind
    service-stays = rw (merged-below main methods) (stays ds (service_of methods) refl)

    pub merged-methods : methods ≡ methods_at (alias_end ds (below_class (merged_of main methods)))
    unfolding methods_at is_serv_kind
    merged-methods = sym (ap methods_at service-stays)

-- ---- Whether there is an actor
not-end : {n : Node} {k next : Forest Node} → tree n k next ≡ end → ⊥
unfolding no_trees
not-end e = false≢true (ap no_trees e)

either-some : (b : Bool) (f g : Forest Node) → (f ≡ end → ⊥) → (g ≡ end → ⊥) → cond b f g ≡ end → ⊥
either-some true f g h k e = h e
either-some false f g h k e = k e

merged-some : (main methods : Forest Node) → merged_of main methods ≡ end → ⊥
merged-some main methods = either-some (is_class main) _ _ not-end not-end

-- the tree of a root as it is stored
pub tree-root : (ns : List ℕ) (root : ℕ) → tree_of ns (stored_root root) ≡ actor_at ns root
unfolding stored_root tree_of
tree-root ns root = go (eqb root 65535)
  where
    go : (b : Bool) → tree_of ns (cond b None (Some root)) ≡ cond b end (tree_at ns root)
    go true = refl
    go false = refl

module _ (ns services : List ℕ) where
  pub tree-absent : (actor : Actor) → is_present actor ≡ false → actor_tree ns services actor ≡ end
  unfolding actor_tree is_present
  tree-absent Absent p = refl
  tree-absent (Written root) p = absurd (false≢true (sym p))
  tree-absent (Merged main) p = absurd (false≢true (sym p))

  pub tree-merged : {actor : Actor} {main : Option ℕ} → actor ≡ Merged main → actor_tree ns services actor ≡ end → ⊥
  unfolding actor_tree
  tree-merged m e = merged-some _ _ (rw m at e)

  pub tree-arguments : {actor : Actor} {main : Option ℕ} → actor ≡ Merged main → class_arguments (actor_tree ns services actor) ≡ class_arguments (tree_of ns main)
  unfolding actor_tree
  tree-arguments {main = main} m = rw m (merged-arguments (tree_of ns main) _)

  pub tree-present : (actor : Actor) → is_present actor ≡ true → IfSome (main_of actor) (WholeAt ns) → actor_tree ns services actor ≡ end → ⊥
  unfolding actor_tree is_present main_of
  tree-present Absent p w e = false≢true p
  tree-present (Written root) p w e = not-end (rw (tree-opens w) at e)
  tree-present (Merged main) p w e = merged-some _ _ e

-- ---- What it offers
pub interface-as : {ns : List ℕ} {count : ℕ} {ds : List Definition} {t : Forest Node} {i : Interface} → ActorAs ns count ds t i → as_service ds (below_class t) ≡ true → InterfaceAs ns count ds t i
interface-as x s =
    record { arguments = x.arguments; few = x.nodes.few; service = x.nodes.service; methods = x.methods s; serves = s }
