use Rattle.uses_report.proofs.Listed.{LinesTo}
use Rattle.uses_report.proofs.lines.Given as goal

abbrev pub invariant-loop-name : goal.invariant-loop-name
invariant-loop-name l =
    LinesTo l.names.book.bytes.now l.listed l.counts l.name-iterator.a.rest.now l.name-iterator.b.rest.now l.initial.text l.text
