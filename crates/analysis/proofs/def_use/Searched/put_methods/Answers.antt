-- `Searched::put_methods` meets its contract. Assumes nothing.
use Prim.Native.Nat.{◌<◌}
use mathlib.Core.Path.{◌∙◌}
use native.Mathlib.Omega.{arith}
use Rattle.book.proofs.Walking.{here, last, over-next}
use Rattle.analysis.proofs.BookNodes.{end-whole-at}
use Rattle.analysis.proofs.def_use.Methods.{methods-few, methods-on, methods-counted, methods-puts}
use Rattle.analysis.proofs.def_use.Searched.put_methods.Goals as goal

pub put_end-requires : goal.put_end-requires
put_end-requires c =
    let p = c.requires in
    let l = c.loop-i.invariant in
    let x = c.in-Some.ensures.steps in
    let inside : c.in-Some.i < p.0.count = omega (arith, (p.0.nodes.tree _ p.0.inside).ends, here l.over x, x.place) in
    (end-whole-at p.0 inside c.end_of-end.ensures.node-is, omega (arith, p.2, l.left.few, methods-few l.left, here l.over x))

pub loop-i-preserved : goal.loop-i-preserved
loop-i-preserved c =
    let l = c.loop-i.invariant in
    let e = c.put_end.ensures in
    let x = c.in-Some.ensures.steps in
    record { same = e.same ∙ l.same; over = over-next l.over x; left = methods-on l.over l.left x c.end_of-end.ensures.node-is e.most e.adds }

pub returns-clause-position : goal.returns-clause-position
returns-clause-position c =
    let l = c.loop-i.invariant in
    let end = last l.over c.in-None.ensures.steps in
    methods-counted l.left (omega arith)

pub returns-clause-adds : goal.returns-clause-adds
returns-clause-adds c =
    let l = c.loop-i.invariant in
    let end = last l.over c.in-None.ensures.steps in
    λ x. methods-puts l.left (omega arith) x (x.ended.nodes.tree _ x.ended.inside).ends
