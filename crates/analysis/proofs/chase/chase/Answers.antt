-- `chase` meets its contract: the rows that are left, and those that wait, lead where all of them do. Assumes nothing.
use mathlib.Core.Path.{refl}
use native.Mathlib.Omega.{arith}
use Rattle.std.proofs.Common.{◌≡◌, None, Some, Err, rules, tests, lit<}
use Rattle.refusals.specs.declared.Refusal.TheVariants.{Unbound}
use Rattle.analysis.proofs.BookNodes.{readable}
use Rattle.analysis.proofs.chase.Rows.{rows-start, named, rows-unbound, enter-room, rows-enter}
use Rattle.analysis.proofs.chase.Rows.{last-within, last-small, list-room, long, rows-back, none-waits, rows-end}
use Rattle.analysis.proofs.chase.chase.Goals as goal

pub loop-row-init : goal.loop-row-init
loop-row-init c = rows-start _ _ (readable c.args.book c.requires.0 c.requires.1) c.requires.2 c.new-waiting.ensures

pub returns-in_err-root : goal.returns-in_err-root
returns-in_err-root c =
    let n = named c.loop-row.invariant c.in-Some.ensures _ c.at-t.ensures in
    let none : c.root_of.result ≡ None = search (rules, tests) in
    let e : c.from_residual.result ≡ Err (Unbound c.at-t.result.value) = search (rules, tests) in
    rw e (rows-unbound n (rw none at c.root_of.ensures.none))

pub push-requires : goal.push-requires
push-requires c =
    let n = named c.loop-row.invariant c.in-Some.ensures _ c.at-t.ensures in
    let some : c.root_of.result ≡ Some c.in_ok-root.root = search (rules, tests) in
    let r = rw some at c.root_of.ensures.some in
    (lit< tt, omega (arith, enter-room n r.0 r.1))

pub loop-row-smaller-in-Some : goal.loop-row-smaller-in-Some
loop-row-smaller-in-Some c =
    let n = named c.loop-row.invariant c.in-Some.ensures _ c.at-t.ensures in
    let some : c.root_of.result ≡ Some c.in_ok-root.root = search (rules, tests) in
    let r = rw some at c.root_of.ensures.some in
    omega (arith, enter-room n r.0 r.1, c.push.ensures.len)

pub loop-row-preserved-in-Some : goal.loop-row-preserved-in-Some
loop-row-preserved-in-Some c =
    let n = named c.loop-row.invariant c.in-Some.ensures _ c.at-t.ensures in
    let some : c.root_of.result ≡ Some c.in_ok-root.root = search (rules, tests) in
    let r = rw some at c.root_of.ensures.some in
    rows-enter n r.0 r.1 _ c.at-u.ensures _ refl refl _ c.push.ensures.items

pub at-t-requires-in-Some-pop : goal.at-t-requires-in-Some-pop
at-t-requires-in-Some-pop c = last-within c.loop-row.invariant c.in_default.ensures _ _ c.in-Some-pop.ensures.items

pub overflow_cast-t-in-Some-pop : goal.overflow_cast-t-in-Some-pop
overflow_cast-t-in-Some-pop c =
    omega (arith, last-small c.loop-row.invariant c.in_default.ensures _ _ c.in-Some-pop.ensures.items _ c.at-t-in-Some-pop.ensures)

pub push-requires-in-Some-pop : goal.push-requires-in-Some-pop
push-requires-in-Some-pop c =
    (lit< tt, omega (arith, list-room c.loop-row.invariant c.in_default.ensures _ _ c.in-Some-pop.ensures.items))

pub loop-row-smaller : goal.loop-row-smaller
loop-row-smaller c =
    let l = c.loop-row.invariant in
    let some = c.in-Some-pop.ensures.items in
    omega (arith, list-room l c.in_default.ensures _ _ some, long l c.in_default.ensures _ _ some, c.push-in-Some-pop.ensures.len)

pub loop-row-preserved : goal.loop-row-preserved
loop-row-preserved c =
    rows-back c.loop-row.invariant c.in_default.ensures _ _ c.in-Some-pop.ensures.items _ c.at-t-in-Some-pop.ensures _ refl c.push-in-Some-pop.ensures.items

pub returns-in_default-pop : goal.returns-in_default-pop
returns-in_default-pop c =
    rows-end c.loop-row.invariant c.in_default.ensures (none-waits _ c.in_default-pop.ensures.variant)
