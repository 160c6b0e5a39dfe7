-- The list of a book that passed, as the code has it. Assumes nothing.
--     list-lacks                 17
--     interface-here             what the walk asks
--     list-says                  what it comes to
--     few-definitions, counted   there are no more than 512 definitions, by which the table of roots is made
use mathlib.Core.Path.{◌≡◌, sym, ap, ◌∙◌}
use mathlib.Core.List.{List}
use Prim.Native.Nat.{ℕ, ◌≤◌}
use native.Mathlib.Omega.{arith}
use lib.ListN.{length}
use Rattle.refusals.specs.declared.Refusal.TheVariants.{NoActor}
use Rattle.refusals.specs.Outcome.{refused}
use Rattle.format.specs.Forest.{Forest, end, count}
use Rattle.format.specs.Book.{trees}
use Rattle.format.specs.Node.{Node}
use Rattle.format.specs.Layout.{nodes_part}
use Rattle.book.specs.declared.kinds.Contents.{Contents}
use Rattle.book.specs.Reading.{Admitted}
use Rattle.book.proofs.Opened.{nodes-count}
use Rattle.judgement.specs.Environment.{main_definitions}
use Rattle.judgement.specs.Actor.{class_arguments}
use Rattle.judgement.specs.Resolve.{resolve_actor}
use Rattle.typing.specs.declared.prog.Passed.{Passed}
use Rattle.syntax.specs.Interfaces.{interface_tree}
use Rattle.typing.specs.Passing.{PassedAs}
use Rattle.syntax.proofs.interface.Laws.{tree-merged, tree-arguments}
use Rattle.typing.proofs.prog.Book.{tabled, few}
use Rattle.environment.specs.declared.scope.Scope.{Scope}
use Rattle.listing.specs.Chase.{chase_types, walked}
use Rattle.listing.specs.List.{list}
use Rattle.std.proofs.Common.{Result}
use Rattle.refusals.specs.declared.Refusal.{Refusal}
use Rattle.analysis.specs.declared.chase.Walk.{Walk}
use Rattle.analysis.specs.Walking.{Counted, WalkedAs, InterfaceIn}
use Rattle.passed.specs.Answers.{walk_outcome}
use Rattle.passed.proofs.Asking.{lacks-actor, has-actor}
use Rattle.passed.proofs.Walks.{Walks, walk-says}

module _ {bs : List ℕ} {c : Contents} {a : Admitted bs c} {roots ends' : List ℕ} {p : Passed} (x : PassedAs a roots ends' p) where
  interface-in : InterfaceIn (nodes_part bs) (count (trees a.book)) p.interface
  interface-in = record {
    nodes = x.nodes;
    arguments = λ m.
        let y = (x.offers (λ e. tree-merged (nodes_part bs) p.interface.services m.1 (x.tree ∙ e))).arguments in
        record { whole = y.whole; inside = y.inside; are = y.are ∙ ap class_arguments (sym x.tree) ∙ tree-arguments (nodes_part bs) p.interface.services m.1 };
  }

  pub few-definitions : length (main_definitions a.book) ≤ 512
  few-definitions = omega (arith, (tabled x).1, few x)

  -- as a record, since its definitions are asked for
  abbrev pub counted : Counted (nodes_part bs) roots
  counted = record { ds = main_definitions a.book; binds = (tabled x).0; few = few-definitions }

  pub list-lacks : resolve_actor a.book ≡ end → list a.book ≡ refused NoActor
  unfolding list
  list-lacks h = lacks-actor x _ h

  module _ (s : Scope) (here : s.rows.now ≡ nodes_part bs) (table : s.roots.now ≡ roots) where
    pub interface-here : s.nodes ≡ c.nodes → InterfaceIn s.rows.now s.nodes p.interface × Counted s.rows.now s.roots.now
    interface-here many = rw (here, table, many, nodes-count a) (interface-in, counted)

    module _ (w : Result Walk Refusal) (h : WalkedAs s.rows.now s.roots.now (interface_tree s.rows.now p.interface) w) where
      list-walks : Walks (nodes_part bs) roots (main_definitions a.book) (interface_tree (nodes_part bs) p.interface) w
      list-walks = record { binds = (tabled x).0; few = few-definitions; comes = rw (here, table) at h }

      pub list-says : (resolve_actor a.book ≡ end → ⊥) → list a.book ≡ walk_outcome w
      unfolding list
      list-says f =
          walk-says list-walks
          (has-actor x _ f ∙ ap (λ (t : Forest Node). walked (chase_types (main_definitions a.book) t)) (sym x.tree))
