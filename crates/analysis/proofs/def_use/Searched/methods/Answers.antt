-- `Searched::methods` meets its contract: the services that are left complete all. Assumes nothing.
use Prim.Native.Nat.{◌≤◌}
use native.Mathlib.Omega.{arith}
use Rattle.format.specs.Forest.{breadth}
use Rattle.syntax.specs.Interfaces.{methods_in}
use Rattle.analysis.specs.Entries.{Offered}
use Rattle.analysis.proofs.methods.Positions.{service-room, services-on, services-end}
use Rattle.analysis.proofs.def_use.Searched.methods.Goals as goal

pub add_methods-m-requires-clause-room : goal.add_methods-m-requires-clause-room
add_methods-m-requires-clause-room c =
    let a = c.args in
    let o : Offered a.self.now.rows.now a.self.now.ends.now a.self.now.near.now a.offer.now.from a.offer.now.until c.as_slice-s-items.result.now = rw c.as_slice-s-items.ensures.all c.requires.offered in
    let few : breadth (methods_in a.self.now.rows.now c.as_slice-s-items.result.now) ≤ 4096 = rw c.as_slice-s-items.ensures.all c.requires.few in
    omega (arith, service-room c.loop-s.invariant c.loop-s-test.true (o.offer.book.tree _ (o.offer.service c.loop-s.s-index c.loop-s-test.true)).whole)

pub loop-s-preserved : goal.loop-s-preserved
loop-s-preserved c =
    let a = c.args in
    let o : Offered a.self.now.rows.now a.self.now.ends.now a.self.now.near.now a.offer.now.from a.offer.now.until c.as_slice-s-items.result.now = rw c.as_slice-s-items.ensures.all c.requires.offered in
    let e = c.add_methods-m.ensures in
    services-on c.loop-s.invariant c.loop-s-test.true (o.offer.book.tree _ (o.offer.service c.loop-s.s-index c.loop-s-test.true)).whole e.position e.few e.adds

pub returns : goal.returns
returns c = services-end c.loop-s.invariant c.loop-s-test.false c.as_slice-s-items.ensures.all
