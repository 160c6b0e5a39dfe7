-- `merge::merged` meets its contract. Assumes nothing.
use Rattle.environment.proofs.merge.Tables.{merged-end}
use Rattle.environment.proofs.merge.merged.Goals as goal

pub returns : goal.returns
returns c = merged-end c.requires.0 c.requires.1 c.loop-n.invariant c.loop-n-test.false
