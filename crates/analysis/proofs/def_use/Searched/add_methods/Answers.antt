-- `Searched::add_methods` meets its contract: what is left to add completes all. Assumes nothing.
use mathlib.Core.Path.{sym, ap, ◌∙◌}
use mathlib.Core.Bool.{true, false}
use mathlib.Core.List.{List}
use Prim.Native.Nat.{ℕ, ◌<◌}
use native.Mathlib.Omega.{arith}
use Rattle.std.proofs.Common.{append-nil}
use Rattle.arrayvec.specs.ArrayVec.{ArrayVec}
use Rattle.book.proofs.Walking.{here, last, over-next}
use Rattle.analysis.proofs.BookNodes.{end-whole-at}
use Rattle.analysis.proofs.methods.Positions.{method-room, methods-on, methods-counted, methods-end}
use Rattle.analysis.proofs.def_use.Searched.add_methods.Goals as goal
use Rattle.analysis.proofs.def_use.Searched.add_methods.Goals.{then-is_used_at, else-is_used_at}

abbrev items : ArrayVec ℕ → List ℕ
items v = v.items

pub is_used_at-requires : goal.is_used_at-requires
is_used_at-requires c =
    let p = c.requires.inside in
    let l = c.loop-i.invariant in
    let x = c.in-Some.ensures.steps in
    let inside : c.in-Some.i < p.count = omega (arith, (p.nodes.tree _ p.inside).ends, here l.over x, x.place) in
    end-whole-at p inside c.end_of-end.ensures.node-is

pub push-requires : goal.push-requires
push-requires c =
    let l = c.loop-i.invariant in
    (omega arith, omega (arith, method-room l.left (here l.over c.in-Some.ensures.steps), l.left.few, c.requires.room))

pub loop-i-preserved : goal.loop-i-preserved
loop-i-preserved c =
    let l = c.loop-i.invariant in
    let x = c.in-Some.ensures.steps in
    record {
      over = over-next l.over x;
      left = elim c.if-is_used_at.branch [
        | then-is_used_at w ↦ methods-on l.over l.left x c.end_of-end.ensures.node-is true (λ y. sym w.if-is_used_at.true ∙ c.is_used_at.ensures y) (ap items w.positions-is ∙ w.push.ensures.items)
        | else-is_used_at w ↦ methods-on l.over l.left x c.end_of-end.ensures.node-is false (λ y. sym w.if-is_used_at.false ∙ c.is_used_at.ensures y) (ap items w.positions-is ∙ sym (append-nil _))
      ];
    }

pub returns-clause-position : goal.returns-clause-position
returns-clause-position c =
    let l = c.loop-i.invariant in
    let end = last l.over c.in-None.ensures.steps in
    methods-counted l.left (omega arith)

pub returns-clause-adds : goal.returns-clause-adds
returns-clause-adds c =
    let l = c.loop-i.invariant in
    let end = last l.over c.in-None.ensures.steps in
    λ x. methods-end l.left (omega arith) x (x.ended.nodes.tree _ x.ended.inside).ends
