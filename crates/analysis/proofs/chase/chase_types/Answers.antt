-- `chase_types` meets its contract. Assumes nothing.
use Rattle.analysis.proofs.chase.Actor.{fresh-started, fresh-chased}
use Rattle.analysis.proofs.chase.chase_types.Goals as goal

pub chase-requires : goal.chase-requires
chase-requires c = (c.requires.0, c.requires.1, fresh-started c.requires.2 c.new.ensures)

pub returns : goal.returns
returns c = fresh-chased c.requires.2 _ _ _ _ c.new.ensures c.chase.ensures
