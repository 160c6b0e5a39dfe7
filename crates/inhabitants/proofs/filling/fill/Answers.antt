-- `fill` meets its contract: what is known of the nodes entered, and of those that have told. Assumes nothing.
use mathlib.Core.Path.{◌≡◌}
use Prim.Native.Nat.{◌<◌}
use native.Mathlib.Omega.{arith}
use lib.ListN.{length}
use Rattle.inhabitants.proofs.waiting.Entered.{begun, enters, enters-room}
use Rattle.inhabitants.proofs.waiting.Turn.{turn-of, turned}
use Rattle.inhabitants.proofs.filling.Ended.{all-fill, settled-fills, ended}
use Rattle.inhabitants.proofs.filling.fill.Goals as goal

pub loop-n-init : goal.loop-n-init
loop-n-init c = begun c.requires

pub enter-requires : goal.enter-requires
enter-requires c = enters-room c.loop-n.invariant c.loop-n-test.true c.loop-n.auto.n

pub loop-n-preserved : goal.loop-n-preserved
loop-n-preserved c =
    let k = c.loop-n.invariant in
    enters k c.loop-n-test.true c.loop-n.auto.n (all-fill k) c.wait_of.ensures c.enter.ensures

pub loop-told-init : goal.loop-told-init
loop-told-init c =
    let e : c.loop-n.n ≡ 0 = omega (arith, c.loop-n-test.false) in
    record { known = rw e at c.loop-n.invariant; few = omega arith }

pub tell_all-requires : goal.tell_all-requires
tell_all-requires c =
    let t = turn-of c.loop-told.invariant.known (omega (arith, c.ready.ensures, c.loop-told-test.true)) c.ready_at.ensures in
    (omega (arith, t.1, c.args.scope.whole.few_nodes), t.0)

pub loop-told-preserved : goal.loop-told-preserved
loop-told-preserved c =
    let k = c.loop-told.invariant.known in
    let more : c.loop-told.told < length c.loop-told.filling.ready.items = omega (arith, c.ready.ensures, c.loop-told-test.true) in
    let t = turn-of k more c.ready_at.ensures in
    let u = turned k more c.ready_at.ensures (settled-fills k (omega arith) t.1 t.2) c.tell_all.ensures in
    record { known = u.0; few = u.1 }

pub returns : goal.returns
returns c = ended c.loop-told.invariant.known (omega (arith, c.ready.ensures, c.loop-told-test.false))
