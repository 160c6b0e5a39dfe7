use Rattle.std.proofs.Common.{◌≡◌, ◌+◌, length}
use Rattle.format.specs.Fits.{before}
use Rattle.book.proofs.rules.before.Given as goal

abbrev pub invariant-loop-x : goal.invariant-loop-x
invariant-loop-x l = record {
  same : before l.x-iterator.a.rest.now l.x-iterator.b.rest.now ≡ before l.a l.b;
  even : length l.a + length l.x-iterator.b.rest.now ≡ length l.b + length l.x-iterator.a.rest.now;
}
