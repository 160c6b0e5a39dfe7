use Rattle.passed.proofs.use_counts.Handing.{HandedSoFar}
use Rattle.passed.proofs.use_counts.hand_counts.Given as goal

abbrev pub invariant-loop-i : goal.invariant-loop-i
invariant-loop-i l = HandedSoFar l.listed l.counts l.fn.out l.out l.total l.i
