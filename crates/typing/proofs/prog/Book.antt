-- What an admitted book gives that passed the check, for callers. Assumes nothing.
--     fits, few, tabled          what the book gives by its bytes, and the tables of it
--     no-actor, some-actor        17
use mathlib.Core.Path.{◌≡◌, sym, ◌∙◌}
use mathlib.Core.Bool.{Bool, true, false}
use mathlib.Core.List.{List}
use Prim.Native.Nat.{ℕ, ◌≤◌}
use native.Mathlib.Omega.{arith}
use Rattle.format.specs.Forest.{end}
use Rattle.format.specs.Fits.{Fits}
use Rattle.format.specs.Layout.{nodes_part}
use Rattle.format.proofs.Theorems.{found}
use Rattle.book.specs.declared.kinds.Contents.{Contents}
use Rattle.book.specs.Reading.{Admitted}
use Rattle.judgement.specs.Environment.{main_definitions}
use Rattle.judgement.specs.Resolve.{resolve_actor}
use Rattle.environment.specs.Tables.{Tabled}
use Rattle.std.proofs.lemmas.Option.{IfSome_then}
use Rattle.syntax.specs.Interfaces.{is_present, main_of}
use Rattle.environment.proofs.Book.{few-definitions}
use Rattle.syntax.proofs.interface.Laws.{tree-absent, tree-present}
use Rattle.typing.specs.declared.prog.Passed.{Passed}
use Rattle.typing.specs.Passing.{PassedAs}

-- ---- What a passed book gives
module _ {bs : List ℕ} {c : Contents} {a : Admitted bs c} {roots ends' : List ℕ} {p : Passed} (x : PassedAs a roots ends' p) where
  pub fits : Fits a.book
  fits = ((found bs a.book).0 a.laid).0

  pub few : p.main ≤ 512
  few = omega (arith, x.within, few-definitions bs a.laid)

  pub tabled : Tabled (nodes_part bs) roots p.main (main_definitions a.book)
  tabled = (x.checked.env.binds, x.counted)

  -- ---- Whether there is an actor, as the code tells it
  module _ {has : Bool} (is : has ≡ is_present p.interface.actor) where
    pub no-actor : has ≡ false → resolve_actor a.book ≡ end
    no-actor f = sym x.tree ∙ tree-absent (nodes_part bs) p.interface.services p.interface.actor (sym is ∙ f)

    pub some-actor : has ≡ true → resolve_actor a.book ≡ end → ⊥
    some-actor f e =
        tree-present (nodes_part bs) p.interface.services p.interface.actor (sym is ∙ f)
        (IfSome_then (main_of p.interface.actor) x.nodes.main (λ n h. (x.all.nodes.tree n h).whole)) (x.tree ∙ e)
