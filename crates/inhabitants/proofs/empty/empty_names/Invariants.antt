use Rattle.inhabitants.proofs.empty.Names.{FlagsLeft}
use Rattle.inhabitants.proofs.empty.empty_names.Given as goal

abbrev pub invariant-loop-n : goal.invariant-loop-n
invariant-loop-n l = FlagsLeft l.scope l.filling l.flags l.n
