use Prim.Native.Nat.{◌-◌}
use Rattle.typing.proofs.Fits.{FitLeft}
use Rattle.typing.proofs.types.Walk.+services_fit.Given as goal

abbrev pub decreases-services_fit : goal.decreases-services_fit
decreases-services_fit l = l.until - l.from

abbrev pub invariant-loop-n : goal.invariant-loop-n
invariant-loop-n l = FitLeft l.self l.methods l.from l.until l.n-iterator
