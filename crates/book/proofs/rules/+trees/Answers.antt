-- The proof of the cycle of calls {trees}: its measure is the number of nodes. What is left is good just where all of it is. Assumes nothing.
use mathlib.Core.Path.{sym, subst, ◌∙◌}
use Prim.Native.Nat.{ℕ, ◌+◌}
use mathlib.Core.List.{List}
use mathlib.Core.Path.{◌≡◌}
use Rattle.format.specs.declared.Place.{Place}
use Rattle.format.specs.Rules.{below_kind}
use Rattle.book.specs.declared.read.Node.{Node}
use Rattle.std.specs.Prelude.{Option, Some, None}
use Rattle.book.specs.Steps.{TreesAs}
use Rattle.book.proofs.Trees.{trees-none, trees-long, trees-kids, trees-row, trees-on, trees-end}
use Rattle.book.proofs.rules.+trees.Goals as goal

pub returns-then-size-eq0 : goal.returns-then-size-eq0
returns-then-size-eq0 t c = trees-none c.loop-i.invariant c.loop-i-test.true _ c.at-node.ensures c.if-size-eq0.true

pub returns-then-until-i : goal.returns-then-until-i
returns-then-until-i t c = trees-long c.loop-i.invariant c.loop-i-test.true _ c.at-node.ensures c.if-until-i.true

-- What a walk over the children of a node of size n finds, where they stand at q.
abbrev Below : List ℕ → ℕ → ℕ → ℕ → Place → Option ℕ → Type 0
Below rows names i n q w = TreesAs names q rows (i + 1) (i + n) w

pub returns-in_err-kids : goal.returns-in_err-kids
returns-in_err-kids t c =
    let n : Node = c.at-node.result in
    let B : Place → Option ℕ → Type 0 = Below c.args.rows.now c.args.names c.loop-i.i n.size in
    rw c.from_residual.ensures (trees-kids c.loop-i.invariant c.loop-i-test.true _ c.at-node.ensures
    (subst (λ (q : Place). B q None) c.place_below.ensures (subst (B c.place_below.result) c.in_err-kids.was c.trees.ensures)))

-- Past the call: the children are good, and counted.
below : {rows : List ℕ} {names : ℕ} (i size kind : ℕ) {kids : ℕ} {q : Place} {w : Option ℕ} → q ≡ below_kind kind → w ≡ Some kids → Below rows names i size q w
    → Below rows names i size (below_kind kind) (Some kids)
below {rows} {names} i size kind {kids} {q} e f h = subst (λ (q : Place). Below rows names i size q (Some kids)) e (subst (Below rows names i size q) f h)

pub returns-then-not-node_fine : goal.returns-then-not-node_fine
returns-then-not-node_fine t c =
    trees-row c.loop-i.invariant c.loop-i-test.true _ c.at-node.ensures
    c.if-size-eq0.false c.if-until-i.false _
    (below _ _ c.at-node.result.kind c.place_below.ensures c.in_ok-kids.was c.trees.ensures) (sym c.node_fine.ensures ∙ c.if-not-node_fine.true)

pub loop-i-preserved : goal.loop-i-preserved
loop-i-preserved t c =
    trees-on c.loop-i.invariant c.loop-i-test.true _ c.at-node.ensures
    c.if-size-eq0.false c.if-until-i.false _
    (below _ _ c.at-node.result.kind c.place_below.ensures c.in_ok-kids.was c.trees.ensures) (sym c.node_fine.ensures ∙ c.if-not-node_fine.false)

pub returns : goal.returns
returns t c = trees-end c.loop-i.invariant c.loop-i-test.false
