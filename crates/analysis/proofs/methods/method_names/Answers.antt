-- `method_names` meets its contract: the services that are left complete all. Assumes nothing.
use Rattle.analysis.proofs.project.Laws.{service-methods}
use Rattle.analysis.proofs.methods.Names.{service-names-room, service-names-on, service-names-end}
use Rattle.analysis.proofs.methods.method_names.Goals as goal

pub add_names-requires-clause-methods : goal.add_names-requires-clause-methods
add_names-requires-clause-methods c =
    rw (c.new.ensures.over.rows, c.new.ensures.over.until, c.new.ensures.at) (service-methods c.requires.services c.loop-s-test.true _ c.at-t.ensures)

pub add_names-requires-clause-room : goal.add_names-requires-clause-room
add_names-requires-clause-room c =
    rw (c.new.ensures.over.rows, c.new.ensures.over.until, c.new.ensures.at)
    (service-names-room c.loop-s.invariant c.requires.services c.loop-s-test.true _ c.at-t.ensures c.requires.few)

pub loop-s-preserved : goal.loop-s-preserved
loop-s-preserved c =
    service-names-on c.loop-s.invariant c.requires.services c.loop-s-test.true _ c.at-t.ensures
    (rw (c.new.ensures.over.rows, c.new.ensures.over.until, c.new.ensures.at) at c.add_names.ensures)

pub returns : goal.returns
returns c = service-names-end c.loop-s.invariant c.loop-s-test.false
