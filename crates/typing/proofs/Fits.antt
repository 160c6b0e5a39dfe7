-- The walk that tests the methods of services for being functions: what is left fits just where all does. Assumes nothing.
use mathlib.Core.Path.{◌≡◌, refl, sym, ap, ◌∙◌}
use mathlib.Core.Bool.{Bool, true, false, not, ◌&&◌, ◌||◌, and-false}
use mathlib.Core.List.{List}
use Prim.Native.Nat.{ℕ, ◌+◌, ◌≤◌, ◌<◌}
use native.Mathlib.Omega.{arith}
use lib.Dec.{eqb}
use Rattle.std.specs.Prelude.{Option, None, Some, IsSome}
use Rattle.std.specs.Option.{is_none}
use Rattle.format.specs.Book.{Definition}
use Rattle.format.specs.Encode.{Row}
use Rattle.format.specs.Layout.{row_at, siblings, node_of}
use Rattle.format.proofs.Rows.{node-within, siblings-none, siblings-opens}
use Rattle.format.proofs.Stored.{tree-opens}
use Rattle.judgement.specs.Aliases.{as_func}
use Rattle.judgement.specs.Check.{methods_fit}
use Rattle.book.specs.declared.read.Node.{Node}
use Rattle.book.specs.declared.walks.Siblings.{Siblings}
use Rattle.book.specs.Walks.{Over, NextTree, Walks}
use Rattle.book.proofs.Walking.{last, here, row, at, over-next}
use Rattle.environment.specs.Tables.{end_is}
use Rattle.environment.proofs.FuncEnds.{serv-kind}
use Rattle.typing.specs.declared.types.Walk.{Walk}
use Rattle.typing.specs.Types.{ends_of, Under, TreesIn}
use Rattle.typing.proofs.Walk.{first, rest-in}

-- what is said of the trees from node `from` up to node `until`
abbrev pub Fit : Walk → Bool → ℕ → ℕ → Bool → Type 0
Fit w methods from until r = IsSome w.ends → Under w (λ pre ds. r ≡ methods_fit ds methods (siblings w.env.scope.rows.now from until))

pub some-not-none : {A : Type 0} (o : Option A) → IsSome o → is_none o ≡ false
some-not-none None h = cc
some-not-none (Some x) h = refl

pub record FitLeft (w : Walk) (methods : Bool) (from until : ℕ) (s : Siblings) : Type 0 where
  pub over : Over w.env.scope.rows.now until s
  pub trees : TreesIn w false s.at until
  pub later : from ≤ s.at
  pub same : IsSome w.ends → Under w (λ pre ds. methods_fit ds methods (siblings w.env.scope.rows.now s.at until) ≡ methods_fit ds methods (siblings w.env.scope.rows.now from until))

module _ {w : Walk} {methods : Bool} {from until : ℕ} {s : Siblings} (l : FitLeft w methods from until s) where
  pub fit-end : {t : Siblings} → Walks s None t → Fit w methods from until true
  unfolding methods_fit
  fit-end x q ds e =
      let h : until ≤ s.at = omega (arith, last l.over x) in
      rw (← l.same q ds e, siblings-none w.env.scope.rows.now s.at until h) refl

  module _ {n : ℕ} {node : Node} {t : Siblings} (x : NextTree s n node t) where
    h : s.at < until
    h = here l.over x

    module _ {own : Bool} (owns : own ≡ (is_none w.ends || end_is 23 w.env.scope.rows.now (ends_of w.ends) n)) where
      abbrev under : List Definition → Bool
      under ds = methods_fit ds (eqb node.kind 24) (siblings w.env.scope.rows.now (n + 1) (n + node.size))

      abbrev next : List Definition → Bool
      next ds = methods_fit ds methods (siblings w.env.scope.rows.now (s.at + (row_at w.env.scope.rows.now s.at).size) until)

      -- in three parts: node n itself, what is below it and what stands after it
      parts : IsSome w.ends → Under w (λ pre ds. ((not methods || own) && under ds && next ds) ≡ methods_fit ds methods (siblings w.env.scope.rows.now from until))
      unfolding methods_fit node_of
      parts q ds e =
          let o = first l.trees h in
          let z = some-not-none w.ends q in
          let kind = ap (λ (r : Row). r.kind) (row l.over x) in
          let size = ap (λ (r : Row). r.size) (row l.over x) in
          let own-is = owns ∙ ap (λ (b : Bool). b || end_is 23 w.env.scope.rows.now (ends_of w.ends) n) z
          ∙ ap (end_is 23 w.env.scope.rows.now (ends_of w.ends)) x.place ∙ e.func z s.at (node-within o.here) ∙ ap (as_func ds) (tree-opens o.here) in
          rw (own-is, x.place, kind, size, ← l.same q ds e, siblings-opens o, ← serv-kind (row_at w.env.scope.rows.now s.at).kind (row_at w.env.scope.rows.now s.at).value) refl

      module _ (a : Bool) (is : (not methods || own) ≡ a) where
        pub fit-own : a ≡ false → Fit w methods from until false
        fit-own f q ds e = rw (is, f) at (parts q ds e)

        module _ {below : Bool} (belows : Fit w (eqb node.kind 24) (n + 1) (n + node.size) below) where
          pub fit-below : below ≡ false → Fit w methods from until false
          fit-below f q ds e = sym (ap (λ (b : Bool). b && next ds) (and-false a)) ∙ (rw (is, ← belows q ds e, f) at (parts q ds e))

          pub fit-on : a ≡ true → below ≡ true → FitLeft w methods from until t
          fit-on o f =
              record {
                over = over-next l.over x;
                trees = rw (at l.over x) (rest-in l.trees h);
                later = omega (arith, at l.over x, l.later);
                same = λ q ds e. rw (at l.over x) (rw (is, o, ← belows q ds e, f) at (parts q ds e));
              }
