use Rattle.passed.specs.Checked.{book_of}
use Rattle.print.specs.Laid.{Lays}
use Rattle.values.specs.Printed.{lines}
use Rattle.values.proofs.Counted.{counted_below}
use Rattle.values.proofs.lines.Given as goal

abbrev pub invariant-loop-n : goal.invariant-loop-n
invariant-loop-n l = Lays (lines l.book.book.bytes.now (counted_below (book_of l.book) l.n)) l.initial.text l.text
