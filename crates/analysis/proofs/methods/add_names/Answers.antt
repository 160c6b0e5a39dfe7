-- `add_names` meets its contract: what is left to add completes all. Assumes nothing.
use native.Mathlib.Omega.{arith}
use Rattle.book.proofs.Walking.{last, over-next}
use Rattle.analysis.proofs.methods.Names.{name-small, name-room, names-on, names-end}
use Rattle.analysis.proofs.methods.add_names.Goals as goal

pub overflow_cast-t : goal.overflow_cast-t
overflow_cast-t c = let l = c.loop-t.invariant in omega (arith, name-small l.over l.left c.in-Some.ensures.steps)

pub push-requires : goal.push-requires
push-requires c =
    let l = c.loop-t.invariant in
    (omega arith, name-room l.over l.left c.in-Some.ensures.steps c.requires.room)

pub loop-t-preserved : goal.loop-t-preserved
loop-t-preserved c =
    let l = c.loop-t.invariant in
    let x = c.in-Some.ensures.steps in
    record { over = over-next l.over x; left = names-on l.over l.left x c.push.ensures.items }

pub returns : goal.returns
returns c =
    let l = c.loop-t.invariant in
    let end = last l.over c.in-None.ensures.steps in
    names-end l.left (omega arith)
