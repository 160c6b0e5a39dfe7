-- `UsedTypes::add` meets its contract. Assumes nothing.
use mathlib.Core.Path.{ap}
use Prim.Native.Nat.{ℕ, ◌*◌}
use native.Mathlib.Nat.{mul-zero}
use native.Mathlib.Omega.{arith}
use Rattle.analysis.proofs.BookNodes.{rooted}
use Rattle.analysis.proofs.use_counts.Used.{Placed, primitive-none, placed-here, placed-first, placed-new, placed-room, placed-stands, placed-used}
use Rattle.analysis.proofs.use_counts.UsedTypes.add.Goals.{Joined-t-2, then-t-2+in-Some, then-t-2+in-None, else-t-2}
use Rattle.analysis.proofs.use_counts.UsedTypes.add.Goals as goal

pub returns-then-t-clause-used : goal.returns-then-t-clause-used
returns-then-t-clause-used c =
    λ f w.
    let none = primitive-none (rooted c.args.book) c.requires.inside c.at-t.ensures c.if-t.true f w in
    omega (arith, ap (λ (a : ℕ). c.args.times * a) none, mul-zero c.args.times)

-- where the tests join
placed : (c : Joined-t-2) → Placed c.args.book.scope.rows.now c.args.book.scope.nodes c.args.n c.args.self.now c.if-t-2.self c.if-t-2.at
placed c =
    let b = rooted c.args.book in
    let is = c.at-t.ensures in
    elim c.if-t-2.branch [
      | then-t-2+in-Some w ↦ rw (w.self-is, w.at-is) (placed-first b c.requires.inside is c.requires.stands w.if-t-2.true (omega (arith, w.in-Some.ensures)))
      | then-t-2+in-None w ↦ rw (w.self-is, w.at-is) (placed-new b c.requires.inside is c.requires.stands w.if-t-2.true)
      | else-t-2 w ↦ rw (w.self-is, w.at-is) (placed-here b c.requires.inside is c.requires.stands c.if-t.false)
    ]

pub bounds-self-at : goal.bounds-self-at
bounds-self-at c = let p = placed (goal.at.bounds-self-at c).Joined-t-2 in omega (arith, p.inside, p.few)

pub overflow_add-self-2 : goal.overflow_add-self-2
overflow_add-self-2 c = omega (arith, placed-room (placed (goal.at.overflow_add-self-2 c).Joined-t-2) c.args.times c.requires.room)

pub bounds-self-at-2 : goal.bounds-self-at-2
bounds-self-at-2 c = let p = placed (goal.at.bounds-self-at-2 c).Joined-t-2 in omega (arith, p.inside, p.few)

pub returns-clause-stands : goal.returns-clause-stands
returns-clause-stands c = placed-stands (placed (goal.at.returns-clause-stands c).Joined-t-2) c.args.times

pub returns-clause-used : goal.returns-clause-used
returns-clause-used c = placed-used (placed (goal.at.returns-clause-used c).Joined-t-2) c.args.times
