-- `Taking::take_methods` meets its contract: the methods that are left come to the same. Assumes nothing.
use mathlib.Core.Path.{◌∙◌}
use native.Mathlib.Omega.{arith}
use Rattle.book.proofs.Walking.{last, over-next}
use Rattle.analysis.proofs.project.Laws.{method-name, method-room, methods-on, methods-end}
use Rattle.analysis.proofs.project.Taking.take_methods.Goals as goal

pub take-requires : goal.take-requires
take-requires c =
    let l = c.loop-t.invariant in
    let x = c.in-Some.ensures.steps in
    (method-room l.over l.left x c.requires.1, method-name l.over l.left x)

pub loop-t-preserved : goal.loop-t-preserved
loop-t-preserved c =
    let l = c.loop-t.invariant in
    let e = c.take.ensures in
    let x = c.in-Some.ensures.steps in
    record { names = e.left ∙ l.names; list = e.out ∙ l.list; over = over-next l.over x; left = methods-on l.over l.left x e.taken }

pub returns-clause-taken : goal.returns-clause-taken
returns-clause-taken c =
    let l = c.loop-t.invariant in
    let end = last l.over c.in-None.ensures.steps in
    methods-end l.left c.requires.1.names (omega arith)
