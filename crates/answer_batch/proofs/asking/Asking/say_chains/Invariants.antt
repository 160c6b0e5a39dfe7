use Rattle.format.specs.Layout.{definitions_part}
use Rattle.book.specs.Walks.{OverEntries}
use Rattle.answer_batch.proofs.asking.Asking.say_chains.Given as goal

abbrev pub invariant-loop-e : goal.invariant-loop-e
invariant-loop-e l = OverEntries (definitions_part l.self.book.now) l.c.definitions l.e-iterator
