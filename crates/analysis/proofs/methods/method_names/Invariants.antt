use Rattle.analysis.proofs.methods.Names.{ServiceNames}
use Rattle.analysis.proofs.methods.method_names.Given as goal

abbrev pub invariant-loop-s : goal.invariant-loop-s
invariant-loop-s l = ServiceNames l.rows l.services l.names.items l.s-index
