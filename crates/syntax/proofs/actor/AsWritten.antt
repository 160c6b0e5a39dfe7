-- An actor as written: the service at the end of the chain from what stands below its top, and how many names are crossed there. Assumes nothing.
use mathlib.Core.Path.{◌≡◌, refl, sym, ap, subst, ◌∙◌}
use mathlib.Core.Bool.{Bool, true, false, cond, false≢true}
use mathlib.Core.List.{List, [], ◌∷◌}
use Prim.Native.Nat.{ℕ, ◌≤◌, ◌<◌}
use native.Mathlib.Decide.{ℕ_discrete}
use native.Mathlib.Omega.{arith}
use borrow.Author.Tests.{ne_eqb}
use lib.Dec.{eqb}
use lib.ListN.{length}
use Rattle.std.specs.Prelude.{Option, Some, None, Result, All}
use Rattle.std.specs.Option.{option_to_list}
use Rattle.std.proofs.lemmas.List.Elements.{All-nil, All-cons}
use Rattle.format.specs.Forest.{Forest, end}
use Rattle.format.specs.Node.{Node}
use Rattle.format.specs.Book.{Definition}
use Rattle.format.specs.Layout.{row_at}
use Rattle.format.specs.Whole.{WholeAt, tree_at}
use Rattle.format.proofs.Trees.{beside-end}
use Rattle.judgement.specs.Environment.{head, is_serv_kind, kids_of}
use Rattle.judgement.specs.Aliases.{End, unbound, circle, ends, alias_end, alias_length, root_passes, as_service, methods_at}
use Rattle.judgement.specs.Actor.{is_class, below_class}
use Rattle.environment.specs.Tables.{EndNodes, EndAt, Chains, Ended, end_is, end_node, reached_in, LookupAs}
use Rattle.environment.specs.declared.Reached.{Reached}
use Rattle.environment.specs.Trees.{AllTrees}
use Rattle.environment.proofs.FuncEnds.{stays, ends-service}
use Rattle.environment.proofs.ChainEnds.{end-at, end-inside, end-whole}
use Rattle.syntax.specs.declared.class.Top.{Top}
use Rattle.syntax.specs.declared.interface.Actor.TheVariants.{Absent, Written}
use Rattle.syntax.specs.declared.interface.Interface.{Interface}
use Rattle.syntax.specs.Classes.{tree_of, TopAs}
use Rattle.syntax.specs.Interfaces.{IsService, methods_in, main_of, actor_tree, no_interface, ActorAs}
use Rattle.syntax.proofs.class.Laws.{none-arguments}
use Rattle.syntax.proofs.Stored.{tree-service, tree-methods}

-- ---- No actor
none-serves : (ds : List Definition) (t : Forest Node) → t ≡ end → as_service ds (below_class t) ≡ false
unfolding as_service root_passes below_class is_class head
none-serves ds t e = rw e (ap (root_passes is_serv_kind) (stays ds end refl))

pub written-none : {ns : List ℕ} {names count : ℕ} → AllTrees ns names count → {r : Interface} → r ≡ no_interface → (ds : List Definition) →
    ActorAs ns count ds (tree_of ns None) r
unfolding actor_tree main_of tree_of
written-none {ns} {count = count} a i ds =
    rw i
    (record {
      tree = refl;
      nodes = record { few = omega arith; main = tt; service = All-nil (IsService ns count) };
      arguments = none-arguments a;
      methods = λ s. absurd (false≢true (sym (none-serves ds _ refl) ∙ s));
      served = λ root m. absurd (absent m);
    })
  where
    absent : {root : ℕ} → Absent ≡ Written root → ⊥
    absent e = cc

-- ---- The type at which a chain ends
record Served (ns : List ℕ) (count : ℕ) (ds : List Definition) (below : ℕ) (services : List ℕ) : Type 0 where
  few : length services ≤ 16
  counted : length services ≡ cond (as_service ds (tree_at ns below)) 1 0
  service : All (IsService ns count) services
  methods : as_service ds (tree_at ns below) ≡ true → methods_in ns services ≡ methods_at (alias_end ds (tree_at ns below))

module _ {ns ends' : List ℕ} {below : ℕ} (s : Ended ns ends' below) {o : Option ℕ} (is : o ≡ end_node ns ends' below) (ds : List Definition) {services : List ℕ}
    (z : services ≡ cond (as_service ds (tree_at ns below)) (option_to_list o) []) where
  not-served : as_service ds (tree_at ns below) ≡ false → Served ns s.count ds below services
  not-served f =
      let none : services ≡ [] = z ∙ rw f in
      rw none (record { few = omega arith; counted = rw f; service = All-nil (IsService ns s.count); methods = λ t. absurd (false≢true (sym f ∙ t)) })

  by-end : (f : End) → alias_end ds (tree_at ns below) ≡ f → EndAt ns o f → Served ns s.count ds below services
  unfolding as_service root_passes methods_at methods_in
  by-end (unbound m) q x = not-served (ap (root_passes is_serv_kind) q)
  by-end circle q x = absurd x
  by-end (ends t) q x = go (ℕ_discrete (row_at ns e).kind 24)
    where
      e : ℕ
      e = x.0

      here : Some e ≡ end_node ns ends' below
      here = sym x.1 ∙ is

      at : alias_end ds (tree_at ns below) ≡ ends (tree_at ns e)
      at = q ∙ ap ends x.2

      whole : WholeAt ns e
      whole = end-whole s here

      says : as_service ds (tree_at ns below) ≡ eqb (row_at ns e).kind 24
      says = ap (root_passes is_serv_kind) at ∙ tree-service whole

      go : Dec ((row_at ns e).kind ≡ 24) → Served ns s.count ds below services
      go (yes k) =
          let found : as_service ds (tree_at ns below) ≡ true = says ∙ rw k in
          let one : services ≡ e ∷ [] = z ∙ rw found (ap option_to_list x.1) in
          rw one
          (record {
            few = omega arith;
            counted = rw found;
            service = All-cons (IsService ns s.count) e [] (end-inside s here, k) (All-nil (IsService ns s.count));
            methods = λ t. beside-end (kids_of (tree_at ns e)) ∙ tree-methods whole k ∙ ap methods_at (sym at);
          })
      go (no k) = not-served (says ∙ ne_eqb (row_at ns e).kind 24 k)

  served : Chains ns ends' s.names ds → Served ns s.count ds below services
  served c = by-end (alias_end ds (tree_at ns below)) refl (subst (λ (k : Option ℕ). EndAt ns k (alias_end ds (tree_at ns below))) (sym is) (end-at s ds c))

-- ---- An actor
module _ {ns ends' : List ℕ} {names count root : ℕ} (a : AllTrees ns names count) (z : EndNodes ends' count) {top : Top} (t : TopAs ns count root top) (h : root < count) where
  pub below-ended : Ended ns ends' top.below
  below-ended =
      record { names = names; count = count; nodes = a.nodes; table = z; inside = omega (arith, t.below.inside, (a.nodes.tree root h).ends) }

  -- below a class too: a lookup of what stands below an actor's top has crossed the names of its chain
  pub below-length : {kind : ℕ} {r : Result Reached Reached} → LookupAs kind ns ends' top.below r → (ds : List Definition) → Chains ns ends' names ds →
      (reached_in r).crossed ≡ alias_length ds (below_class (tree_at ns root))
  unfolding below-ended
  below-length l ds c = l.reached.length-is below-ended ds c ∙ ap (alias_length ds) t.below.is

  module _ {o : Option ℕ} (is : o ≡ end_node ns ends' top.below) where
    pub written-as : {services : List ℕ} → services ≡ cond (end_is 24 ns ends' top.below) (option_to_list o) [] → (ds : List Definition) → Chains ns ends' names ds →
        ActorAs ns count ds (tree_of ns (Some root)) (record { actor = Written root; from = top.from; until = top.until; services = services })
    unfolding actor_tree main_of tree_of below-ended
    written-as q ds c =
        let s = served below-ended is ds (q ∙ ap (λ (b : Bool). cond b (option_to_list o) []) (ends-service below-ended ds c)) c in
        record {
          tree = refl;
          nodes = record { few = s.few; main = h; service = s.service };
          arguments = t.arguments;
          methods = λ y. s.methods (ap (as_service ds) t.below.is ∙ y) ∙ ap (λ (u : Forest Node). methods_at (alias_end ds u)) t.below.is;
          served = λ n m. s.counted ∙ ap (λ (u : Forest Node). cond (as_service ds u) 1 0) t.below.is;
        }
