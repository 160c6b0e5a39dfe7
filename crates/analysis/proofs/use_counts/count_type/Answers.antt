-- `count_type` meets its contract. Assumes nothing.
use mathlib.Core.Path.{ap}
use native.Mathlib.Omega.{arith}
use Rattle.std.proofs.Common.{Ok, Err}
use Rattle.format.specs.Encode.{Row}
use Rattle.format.specs.Whole.{tree_at}
use Rattle.analysis.specs.Walking.{WalkedAs}
use Rattle.analysis.proofs.BookNodes.{rooted, here-readable}
use Rattle.analysis.proofs.use_counts.Types.{names-room, names-on, type-walked, never-stops, names-start, names-counted}
use Rattle.analysis.proofs.use_counts.count_type.Goals.{In-Ok}
use Rattle.analysis.proofs.use_counts.count_type.Goals as goal

pub chase_types-requires : goal.chase_types-requires
chase_types-requires c =
    let r = here-readable (rooted c.args.book) c.requires.inside (ap (λ (r : Row). r.size) c.at-t.ensures) in
    (r.whole, r.inside, c.requires.countable.counted)

pub unreachable-requires : goal.unreachable-requires
unreachable-requires c =
    never-stops (tree_at c.args.book.scope.rows.now c.args.n) c.requires.countable (omega arith) _
    (type-walked c.args.book.scope.rows.now c.args.book.scope.roots.now c.args.n (Err c.in_default.field-0) c.at-t.ensures c.in_default.ensures)

walked : (c : In-Ok) → WalkedAs c.args.book.scope.rows.now c.args.book.scope.roots.now (tree_at c.args.book.scope.rows.now c.args.n) (Ok c.in-Ok.walk)
walked c = type-walked c.args.book.scope.rows.now c.args.book.scope.roots.now c.args.n (Ok c.in-Ok.walk) c.at-t.ensures c.in-Ok.ensures

pub loop-name-init : goal.loop-name-init
loop-name-init c =
    names-start _ _ _ c.in-Ok.walk (walked (goal.at.loop-name-init c).In-Ok) c.as_slice-name-items.ensures.value c.requires.countable c.args.book.scope.bound.long c.told-counts

pub overflow_add-counts : goal.overflow_add-counts
overflow_add-counts c = omega (arith, names-room c.loop-name.invariant c.loop-name-test.true)

pub loop-name-preserved : goal.loop-name-preserved
loop-name-preserved c = names-on c.loop-name.invariant c.loop-name-test.true

pub returns : goal.returns
returns c =
    names-counted _ _ _ c.in-Ok.walk (walked (goal.at.returns c).In-Ok) c.as_slice-name-items.ensures.value c.loop-name.invariant c.loop-name-test.false
