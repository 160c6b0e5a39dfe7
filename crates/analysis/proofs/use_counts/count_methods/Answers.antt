-- `count_methods` meets its contract. Assumes nothing.
use mathlib.Core.Path.{sym, ◌∙◌}
use native.Mathlib.Omega.{arith}
use Rattle.std.specs.Prelude.{Some, None}
use Rattle.book.proofs.Walking.{last, over-next}
use Rattle.analysis.proofs.use_counts.Methods.{methods-all, method-inside, methods-on}
use Rattle.analysis.proofs.use_counts.count_methods.Goals as goal

pub bounds-methods-f : goal.bounds-methods-f
bounds-methods-f c =
    let l = c.loop-i.invariant in
    method-inside l.over l.left c.in-Some.ensures.steps (Some c.in-Some-node.f) (sym c.in-Some-node.is ∙ c.end_of-end.ensures.node-is) c.requires.0

pub bounds-methods-f-in-Some-node : goal.bounds-methods-f-in-Some-node
bounds-methods-f-in-Some-node c =
    let l = c.loop-i.invariant in
    method-inside l.over l.left c.in-Some.ensures.steps (Some c.in-Some-node.f) (sym c.in-Some-node.is ∙ c.end_of-end.ensures.node-is) c.requires.0

pub loop-i-preserved-in-Some-node : goal.loop-i-preserved-in-Some-node
loop-i-preserved-in-Some-node c =
    let l = c.loop-i.invariant in
    let x = c.in-Some.ensures.steps in
    record { over = over-next l.over x; left = methods-on l.over l.left x (Some c.in-Some-node.f) (sym c.in-Some-node.is ∙ c.end_of-end.ensures.node-is) c.requires.0 }

pub loop-i-preserved : goal.loop-i-preserved
loop-i-preserved c =
    let l = c.loop-i.invariant in
    let x = c.in-Some.ensures.steps in
    record { over = over-next l.over x; left = methods-on l.over l.left x None (sym c.in_default.is ∙ c.end_of-end.ensures.node-is) c.requires.0 }

pub returns-clause-counted : goal.returns-clause-counted
returns-clause-counted c =
    let l = c.loop-i.invariant in
    let end = last l.over c.in-None.ensures.steps in
    methods-all l.left (omega arith)
