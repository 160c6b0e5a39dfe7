use Rattle.format.specs.Layout.{definitions_part}
use Rattle.book.specs.Walks.{OverEntries}
use Rattle.answer_batch.proofs.inner.say_lookups.Given as goal

abbrev pub invariant-loop-e : goal.invariant-loop-e
invariant-loop-e l = OverEntries (definitions_part l.passed.book.bytes.now) l.passed.main l.e-iterator
