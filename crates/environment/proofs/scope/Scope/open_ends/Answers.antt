-- `Scope::open_ends` meets its contract. Assumes nothing.
use Rattle.environment.proofs.Ends.{begun-start}
use Rattle.environment.proofs.scope.Scope.open_ends.Goals as goal

pub loop-n-init : goal.loop-n-init
loop-n-init c = begun-start _ c.requires
