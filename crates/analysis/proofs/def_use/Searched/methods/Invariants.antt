use Rattle.analysis.proofs.methods.Positions.{ServicesLeft}
use Rattle.analysis.proofs.def_use.Searched.methods.Given as goal

abbrev pub invariant-loop-s : goal.invariant-loop-s
invariant-loop-s l = ServicesLeft l.self.rows.now l.self.ends.now l.self.near.now l.s-items l.fn.offer.from l.fn.offer.until l.positions.items l.m l.s-index
