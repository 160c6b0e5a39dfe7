-- `count_uses` meets its contract. Assumes nothing.
use mathlib.Core.Path.{refl, subst}
use mathlib.Core.List.{List}
use Prim.Native.Nat.{ℕ}
use native.Mathlib.Omega.{arith}
use Rattle.analysis.specs.Reaching.{no_rows}
use Rattle.analysis.specs.Tallies.{Offering}
use Rattle.analysis.proofs.BookNodes.{offer-ended}
use Rattle.analysis.proofs.use_counts.Used.{stands-none}
use Rattle.analysis.proofs.use_counts.Uses.{FunctionsLeft, services-start, services-on, arguments-room, functions-start, function-room, functions-on, types-start, type-countable, types-on, types-end}
use Rattle.analysis.proofs.use_counts.count_uses.Goals as goal

pub loop-s-init : goal.loop-s-init
unfolding no_rows
loop-s-init c = services-start refl

pub count_methods-requires : goal.count_methods-requires
count_methods-requires c =
    let a = c.args in
    let o : Offering a.book.scope.rows.now a.book.scope.roots.now a.ends.now a.book.scope.nodes a.offer.now.from a.offer.now.until c.as_slice-s-items.result.now = rw c.as_slice-s-items.ensures.all c.requires.0 in
    (offer-ended o.offer c.loop-s-test.true, λ i. omega (arith, c.loop-s.invariant.few i, o.offer.few))

pub loop-s-preserved : goal.loop-s-preserved
loop-s-preserved c =
    let a = c.args in
    let o : Offering a.book.scope.rows.now a.book.scope.roots.now a.ends.now a.book.scope.nodes a.offer.now.from a.offer.now.until c.as_slice-s-items.result.now = rw c.as_slice-s-items.ensures.all c.requires.0 in
    let e = c.count_methods.ensures in
    services-on c.loop-s.invariant c.loop-s-test.true (o.offer.book.tree _ (o.offer.service c.loop-s.s-index c.loop-s-test.true)).whole c.count_methods.array_long e.few e.kept e.counted o

pub add_all-requires-clause-stands : goal.add_all-requires-clause-stands
add_all-requires-clause-stands c = let e = c.new-types.ensures in stands-none c.args.book.scope.rows.now c.args.book.scope.nodes e.0 e.1

pub add_all-requires-clause-room : goal.add_all-requires-clause-room
add_all-requires-clause-room c = arguments-room c.requires.0 c.new-types.result c.new-types.ensures.0

pub loop-f-init : goal.loop-f-init
loop-f-init c =
    let a = c.args in
    subst (λ (s : List ℕ). FunctionsLeft a.book.scope.rows.now a.book.scope.roots.now a.ends.now a.book.scope.nodes a.offer.now.from a.offer.now.until s c.loop-s.methods c.add_all.new.self 0) c.as_slice-s-items.ensures.all
    (functions-start c.loop-s.invariant c.loop-s-test.false c.new-types.result c.new-types.ensures.0 c.add_all.ensures.stands c.add_all.ensures.used)

pub add_function-requires-clause-stands : goal.add_function-requires-clause-stands
add_function-requires-clause-stands c = c.loop-f.invariant.stands

pub add_function-requires-clause-room : goal.add_function-requires-clause-room
add_function-requires-clause-room c = rw c.from.ensures (function-room c.loop-f.invariant c.requires.0 c.loop-f-test.true)

pub loop-f-preserved : goal.loop-f-preserved
loop-f-preserved c = functions-on c.loop-f.invariant c.requires.0 c.loop-f-test.true c.add_function.ensures.stands (rw c.from.ensures at c.add_function.ensures.used)

pub loop-n-init : goal.loop-n-init
loop-n-init c = types-start c.loop-f.invariant (omega arith) c.requires.1

pub count_type-requires-clause-countable : goal.count_type-requires-clause-countable
count_type-requires-clause-countable c = type-countable c.loop-n.invariant c.requires.0 c.loop-n-test.true

pub loop-n-preserved : goal.loop-n-preserved
loop-n-preserved c = types-on c.loop-n.invariant c.requires.0 c.loop-n-test.true c.count_type.ensures

pub returns : goal.returns
returns c = types-end c.loop-n.invariant (omega arith)
