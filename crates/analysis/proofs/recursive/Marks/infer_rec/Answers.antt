-- `infer_rec` meets its contract: what is left of the list, from what is seen; and for each listed name what is noted, and then the rows
-- that are left. Assumes nothing.
use mathlib.Core.Path.{refl}
use Rattle.std.proofs.Common.{◌≡◌, None, Some, Err, get_or, rules, tests}
use Rattle.refusals.specs.declared.Refusal.TheVariants.{Unbound}
use Rattle.book.specs.Tables.{no_flags}
use Rattle.analysis.proofs.BookNodes.{rooted}
use Rattle.analysis.proofs.recursive.Rows.{go-end, go-other, go-again, go-anew}
use Rattle.analysis.proofs.recursive.Laws.{infer-start, infer-end, infer-stop, root-node, infer-again, infer-on}
use Rattle.analysis.proofs.recursive.Marks.infer_rec.Goals.{then-marks-met-ne1, else-marks-met-ne1}
use Rattle.analysis.proofs.recursive.Marks.infer_rec.Goals as goal

pub loop-name-init : goal.loop-name-init
unfolding no_flags
loop-name-init c = infer-start refl

pub returns-in_err-from : goal.returns-in_err-from
returns-in_err-from c =
    let none : c.root_of.result ≡ None = search (rules, tests) in
    let e : c.from_residual.result ≡ Err (Unbound (get_or c.args.list.now c.loop-name.name-index 0)) = search (rules, tests) in
    rw e (infer-stop c.loop-name.invariant c.loop-name-test.true _ refl _ refl (rw none at c.root_of.ensures.none))

pub loop-name-preserved-then-done-n-eq1 : goal.loop-name-preserved-then-done-n-eq1
loop-name-preserved-then-done-n-eq1 c =
    let some : c.root_of.result ≡ Some c.in_ok-from.from = search (rules, tests) in
    let r = rw some at c.root_of.ensures.some in
    infer-again c.loop-name.invariant c.loop-name-test.true _ refl _ r.0 (rooted c.args.book) r.1 c.if-done-n-eq1.true

pub loop-k-preserved-then-row : goal.loop-k-preserved-then-row
loop-k-preserved-then-row c = go-other c.loop-k.invariant c.loop-k-test.true _ c.at-row.ensures c.if-row.true

pub loop-k-preserved : goal.loop-k-preserved
loop-k-preserved c =
    let some : c.root_of.result ≡ Some c.in_ok-from.from = search (rules, tests) in
    let r = rw some at c.root_of.ensures.some in
    let node = root-node c.loop-name.invariant c.loop-name-test.true _ refl _ r.0 (rooted c.args.book) r.1 in
    elim c.if-marks-met-ne1.branch [
      | then-marks-met-ne1 w ↦ rw w.marks-is (go-anew c.loop-k.invariant c.loop-k-test.true _ c.at-row.ensures node c.if-row.false w.if-marks-met-ne1.true)
      | else-marks-met-ne1 w ↦ rw w.marks-is (go-again c.loop-k.invariant c.loop-k-test.true _ c.at-row.ensures node c.if-row.false w.if-marks-met-ne1.false)
    ]

pub loop-name-preserved : goal.loop-name-preserved
loop-name-preserved c =
    let some : c.root_of.result ≡ Some c.in_ok-from.from = search (rules, tests) in
    let r = rw some at c.root_of.ensures.some in
    let node = root-node c.loop-name.invariant c.loop-name-test.true _ refl _ r.0 (rooted c.args.book) r.1 in
    infer-on c.loop-name.invariant c.loop-name-test.true _ refl _ r.0 (rooted c.args.book) r.1 _ (go-end c.loop-k.invariant node c.loop-k-test.false)

pub returns : goal.returns
returns c = infer-end c.loop-name.invariant c.loop-name-test.false
