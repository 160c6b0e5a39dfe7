use Rattle.analysis.proofs.reaching.Links.{LinksLeft}
use Rattle.analysis.proofs.reaching.BookRows.link.Given as goal

abbrev pub invariant-loop-j : goal.invariant-loop-j
invariant-loop-j l = LinksLeft l.self.rows.now l.self.nodes l.initial.next l.head l.next l.j
