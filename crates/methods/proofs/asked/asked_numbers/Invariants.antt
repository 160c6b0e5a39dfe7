-- The numbers so far. Assumes nothing.
use Rattle.format.specs.Layout.{read}
use Rattle.methods.specs.Asked.{ended}
use Rattle.methods.proofs.Named.{Numbered}
use Rattle.methods.proofs.asked.asked_numbers.Given as goal

abbrev pub invariant-loop-n : goal.invariant-loop-n
invariant-loop-n l = Numbered (ended l.asked) (read l.names.book.bytes.now).names l.n l.numbers.items
