-- `UsedTypes::add_function` meets its contract. Assumes nothing.
use mathlib.Core.Path.{ap}
use Prim.Native.Nat.{ℕ, ◌*◌}
use native.Mathlib.Nat.{mul-zero}
use native.Mathlib.Omega.{arith}
use Rattle.format.specs.Encode.{Row}
use Rattle.analysis.specs.Tallies.{each_type}
use Rattle.analysis.proofs.BookNodes.{rooted, here-whole, kids-readable}
use Rattle.analysis.proofs.use_counts.Types.{node-func, node-other}
use Rattle.analysis.proofs.use_counts.UsedTypes.add_function.Goals as goal

pub add_all-requires-clause-trees : goal.add_all-requires-clause-trees
add_all-requires-clause-trees c =
    let r = kids-readable (rooted c.args.book) c.requires.inside (ap (λ (r : Row). r.size) c.at-t.ensures) in
    (r.whole, r.inside)

pub add_all-requires-clause-room : goal.add_all-requires-clause-room
add_all-requires-clause-room c =
    let same = node-func each_type (here-whole (rooted c.args.book) c.requires.inside) _ c.at-t.ensures c.if-t.true in
    omega (arith, c.requires.room, ap (λ (a : ℕ). c.args.times * a) same)

pub returns-then-t-clause-used : goal.returns-then-t-clause-used
returns-then-t-clause-used c =
    λ f w.
    let same = node-func f (here-whole (rooted c.args.book) c.requires.inside) _ c.at-t.ensures c.if-t.true in
    omega (arith, c.add_all.ensures.used f w, ap (λ (a : ℕ). c.args.times * a) same)

pub returns-else-t-clause-used : goal.returns-else-t-clause-used
returns-else-t-clause-used c =
    λ f w.
    let none = node-other f (here-whole (rooted c.args.book) c.requires.inside) _ c.at-t.ensures c.if-t.false in
    omega (arith, ap (λ (a : ℕ). c.args.times * a) none, mul-zero c.args.times)
