use Prim.Native.Nat.{◌-◌, ◌≤◌}
use lib.ListN.{length}
use Rattle.inhabitants.proofs.waiting.Known.{KnownOf}
use Rattle.inhabitants.proofs.filling.Ended.{waits_of, FillsOf}
use Rattle.inhabitants.proofs.filling.fill.Given as goal

abbrev pub invariant-loop-n : goal.invariant-loop-n
invariant-loop-n l = KnownOf l.scope (waits_of l.scope) (FillsOf l.scope) l.n 0 l.filling

abbrev pub invariant-loop-told : goal.invariant-loop-told
invariant-loop-told l =
    record {
      known : KnownOf l.scope (waits_of l.scope) (FillsOf l.scope) 0 l.told l.filling;
      few : l.told ≤ length l.filling.ready.items;
    }

abbrev pub decreases-loop-told : goal.decreases-loop-told
decreases-loop-told l = 4096 - l.told
