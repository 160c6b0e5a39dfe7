use lib.ListN.{take}
use Rattle.format.specs.Distinct.{Distinct}
use Rattle.duplicates.specs.Tree.{Tree}
use Rattle.duplicates.proofs.by_tree.Given as goal

abbrev pub invariant-loop-n : goal.invariant-loop-n
invariant-loop-n g l = Distinct (take l.n l.keys) × Tree l.keys l.links l.n
