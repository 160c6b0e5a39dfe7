-- `print_passed` meets its contract: the lines of the methods that change, or the line of a refusal. Assumes nothing.
use mathlib.Core.Path.{refl, sym}
use lib.Seq.{length-take-le}
use Rattle.typing.proofs.prog.Book.{fits}
use Rattle.methods.proofs.Answered.{handed-given, handed-refused, positions-within}
use Rattle.methods.proofs.Room.{own-handed, lines-laid, stopped-laid}
use Rattle.methods.proofs.print_passed.Goals as goal

pub slice_bounds-positions-end : goal.slice_bounds-positions-end
slice_bounds-positions-end c =
    let h = own-handed c.args.book.now c.args.asked.now c.of-names.ensures c.asked_numbers.ensures c.as_slice.ensures.value c.methods.ensures in
    (handed-given _ (fits c.args.book.now.passes.passed) _ refl h c.in-Ok.is).1

pub slice_bounds-lines-end : goal.slice_bounds-lines-end
slice_bounds-lines-end c =
    let h = own-handed c.args.book.now c.args.asked.now c.of-names.ensures c.asked_numbers.ensures c.as_slice.ensures.value c.methods.ensures in
    sym (length-take-le _ _ (handed-given _ (fits c.args.book.now.passes.passed) _ refl h c.in-Ok.is).1)

pub lines-requires : goal.lines-requires
lines-requires c =
    let h = own-handed c.args.book.now c.args.asked.now c.of-names.ensures c.asked_numbers.ensures c.as_slice.ensures.value c.methods.ensures in
    let e = (handed-given _ (fits c.args.book.now.passes.passed) _ refl h c.in-Ok.is).0 in
    rw (c.as_slice-in-Ok.ensures.value, c.method_names.ensures) (positions-within _ _ e)

pub returns-in-Ok : goal.returns-in-Ok
returns-in-Ok c =
    let h = own-handed c.args.book.now c.args.asked.now c.of-names.ensures c.asked_numbers.ensures c.as_slice.ensures.value c.methods.ensures in
    let e = (handed-given _ (fits c.args.book.now.passes.passed) _ refl h c.in-Ok.is).0 in
    lines-laid c.requires c.args.asked.now e (rw (c.of-names.ensures, c.as_slice-in-Ok.ensures.value, c.method_names.ensures) at c.lines.ensures)

pub returns-in-Err : goal.returns-in-Err
returns-in-Err c =
    let h = own-handed c.args.book.now c.args.asked.now c.of-names.ensures c.asked_numbers.ensures c.as_slice.ensures.value c.methods.ensures in
    stopped-laid c.requires c.args.asked.now (handed-refused _ (fits c.args.book.now.passes.passed) _ refl h c.in-Err.is) c.refusal.ensures
