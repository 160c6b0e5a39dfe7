-- `method_names` meets its contract: what is left of the methods. Assumes nothing.
use Rattle.std.proofs.Common.{◌<◌}
use native.Mathlib.Omega.{arith}
use Rattle.book.proofs.Walking.{here, row, at, over-next, last}
use Rattle.syntax.proofs.hashes.Gathering.{services-end, service-start, service-end, name-small, service-on}
use Rattle.syntax.proofs.hashes.method_names.Goals as goal

pub loop-m-init : goal.loop-m-init
loop-m-init c =
    rw c.into_iter-m-iterator.ensures.into_iter_gives
    (record {
      over = c.new-m-items.ensures.over;
      left = rw c.new-m-items.ensures.at (service-start c.requires c.loop-s.invariant c.loop-s-test.true 0 _ c.at.ensures);
    })

pub overflow_cast-m : goal.overflow_cast-m
overflow_cast-m c =
    let o = c.loop-m.invariant.over in
    let x = c.in-Some.ensures.steps in
    let named : c.in-Some.m.label < 1024 = name-small c.loop-m.invariant.left (here o x) _ (row o x) in
    omega (arith, named)

pub loop-m-preserved : goal.loop-m-preserved
loop-m-preserved c =
    let o = c.loop-m.invariant.over in
    let x = c.in-Some.ensures.steps in
    record {
      over = over-next o x;
      left = rw (at o x, c.push.ensures.items) (service-on c.loop-m.invariant.left (here o x) _ (row o x));
    }

pub loop-s-preserved : goal.loop-s-preserved
loop-s-preserved c =
    let e = last c.loop-m.invariant.over c.in-None.ensures.steps in
    service-end c.loop-m.invariant.left (omega arith)

pub returns : goal.returns
returns c = services-end c.requires c.loop-s.invariant c.loop-s-test.false
