-- `UsedTypes::add_all` meets its contract: what is used, and what is left to add, are together always the same. Assumes nothing.
use native.Mathlib.Omega.{arith}
use Rattle.book.proofs.Walking.{last, over-next}
use Rattle.analysis.proofs.use_counts.Used.{used-start, used-inside, used-room, used-on, used-end}
use Rattle.analysis.proofs.use_counts.UsedTypes.add_all.Goals as goal

pub loop-n-init : goal.loop-n-init
loop-n-init c =
    rw c.into_iter-n-iterator.ensures.into_iter_gives record {
      over = c.new-n-items.ensures.over;
      left = used-start c.args.until c.args.times c.requires.stands c.new-n-items.ensures.at;
    }

pub add-requires-clause-inside : goal.add-requires-clause-inside
add-requires-clause-inside c =
    let l = c.loop-n.invariant in
    omega (arith, used-inside l.over l.left c.in-Some.ensures.steps, c.requires.trees.1)

pub add-requires-clause-stands : goal.add-requires-clause-stands
add-requires-clause-stands c = c.loop-n.invariant.left.stands

pub add-requires-clause-room : goal.add-requires-clause-room
add-requires-clause-room c =
    let l = c.loop-n.invariant in
    used-room l.over l.left c.in-Some.ensures.steps c.requires.room

pub loop-n-preserved : goal.loop-n-preserved
loop-n-preserved c =
    let l = c.loop-n.invariant in
    let x = c.in-Some.ensures.steps in
    record { over = over-next l.over x; left = used-on l.over l.left x c.add.ensures.stands c.add.ensures.used }

pub returns : goal.returns
returns c =
    let l = c.loop-n.invariant in
    let end = last l.over c.in-None.ensures.steps in
    record { stands = l.left.stands; used = used-end l.left (omega arith) }
