use mathlib.Core.Path.{◌≡◌}
use Prim.Native.Nat.{◌≤◌}
use Rattle.format.specs.Layout.{nodes_part, definitions_part}
use Rattle.judgement.specs.Check.{bodies_verdict}
use Rattle.book.specs.Walks.{OverEntries}
use Rattle.environment.specs.Tables.{definitions_in}
use Rattle.typing.specs.Decs.{definitions_of}
use Rattle.typing.proofs.decs.Decs.check_bodies.Given as goal

abbrev pub invariant-loop-e : goal.invariant-loop-e
invariant-loop-e l = record {
  walk : OverEntries (definitions_part l.self.book.bytes.now) l.self.to l.e-iterator;
  from : l.self.from ≤ l.e-iterator.at;
  left : bodies_verdict (definitions_of l.self) (definitions_in (nodes_part l.self.book.bytes.now) (definitions_part l.self.book.bytes.now) l.e-iterator.at l.self.to)
      ≡ bodies_verdict (definitions_of l.self) (definitions_of l.self);
}
