use Prim.Native.Nat.{◌+◌}
use lib.ListN.{drop}
use Rattle.book.specs.Walks.{Over}
use Rattle.syntax.specs.Interfaces.{methods_in}
use Rattle.syntax.proofs.hashes.Gathering.{MethodsLeft, ServiceLeft}
use Rattle.syntax.proofs.hashes.method_names.Given as goal

abbrev pub invariant-loop-m : goal.invariant-loop-m
invariant-loop-m l =
    record {
      over : Over l.rows l.until l.m-iterator;
      left : ServiceLeft l.rows (methods_in l.rows l.services) (methods_in l.rows (drop (l.s-index + 1) l.services)) l.names.items l.m-iterator.at l.until;
    }

abbrev pub invariant-loop-s : goal.invariant-loop-s
invariant-loop-s l = MethodsLeft (methods_in l.rows l.services) (methods_in l.rows (drop l.s-index l.services)) l.names.items
