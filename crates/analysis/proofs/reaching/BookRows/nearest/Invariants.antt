use Rattle.analysis.proofs.reaching.Near.{NearLeft}
use Rattle.analysis.proofs.reaching.BookRows.nearest.Given as goal

abbrev pub invariant-loop-i : goal.invariant-loop-i
invariant-loop-i l = NearLeft l.self.rows.now l.flags l.self.nodes l.initial.near l.near l.last l.i
