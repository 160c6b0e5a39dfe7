-- `Comparison::same_node` meets its contract. Assumes nothing.
use mathlib.Core.Logic.{inl, inr}
use Rattle.environment.proofs.merge.Labels.{label-in, node-kind, node-value, node-same}
use Rattle.environment.proofs.merge.Comparison.same_node.Goals as goal

pub returns-then-a-b : goal.returns-then-a-b
returns-then-a-b c = λ names a.
    let p = c.requires in
    elim c.then-a-b.either [
      | inl h ↦ node-kind p.0 p.1 names _ h
      | inr h ↦ node-value p.0 p.1 names _ h.0 h.1
    ]

pub same_label-requires : goal.same_label-requires
same_label-requires c =
    let p = c.requires in
    (label-in p.0 c.label.ensures, label-in p.1 c.label-2.ensures)

pub returns : goal.returns
returns c =
    let p = c.requires in
    λ names a. node-same p.0 p.1 names _ c.if-a-b.false c.if-a-b-2.false c.label.ensures c.label-2.ensures (c.same_label.ensures names a)
