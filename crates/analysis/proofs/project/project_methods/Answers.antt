-- `project_methods` meets its contract: the services that are left come to the same. Assumes nothing.
use mathlib.Core.Path.{◌∙◌}
use Rattle.std.proofs.Common.{rules}
use Rattle.analysis.proofs.project.Laws.{service-methods, service-room, services-on, services-end, all-same}
use Rattle.analysis.proofs.project.project_methods.Goals as goal

pub take_methods-requires : goal.take_methods-requires
take_methods-requires c =
    let l = c.loop-s.invariant.left in
    let y = c.requires.0 in
    let h = c.loop-s-test.true in
    rw (c.new.ensures.over.rows, c.new.ensures.over.until, c.new.ensures.at) (service-methods y h _ c.at-t.ensures, service-room l y h _ c.at-t.ensures c.requires.1)

pub loop-s-preserved : goal.loop-s-preserved
loop-s-preserved c =
    let l = c.loop-s.invariant in
    let e = c.take_methods.ensures in
    record { names = e.left ∙ l.names; list = e.out ∙ l.list; left = services-on l.left c.requires.0 c.loop-s-test.true _ c.at-t.ensures (rw (c.new.ensures.over.rows, c.new.ensures.over.until, c.new.ensures.at) at e.taken) }

pub returns : goal.returns
returns c = all-same (search rules) (search rules) (services-end c.loop-s.invariant.left c.requires.0 c.loop-s.auto.s-index-end c.loop-s-test.false)
