-- `print_passed` meets its contract: the two answers say which text is laid. Assumes nothing.
use mathlib.Core.Path.{refl, sym, ◌∙◌}
use native.Mathlib.Omega.{arith}
use lib.Seq.{length-take-le}
use Rattle.refusals.proofs.Handing.{handed-on}
use Rattle.print.proofs.Lays.{wider}
use Rattle.list.proofs.Answered.{given-within}
use Rattle.list.proofs.Listed.{prints-none, list-handed, list-refused, list-given, marks-handed, marks-refused}
use Rattle.list.proofs.Room.{given-few, marks-laid}
use Rattle.list.proofs.print_passed.Goals as goal

pub returns-in_err-count : goal.returns-in_err-count
returns-in_err-count c = rw (handed-on c.from_residual.result c.from_residual.ensures) (prints-none (list-refused _ (list-handed c.requires c.list.ensures) refl c.in_err-count.was))

pub slice_bounds-list_room-end : goal.slice_bounds-list_room-end
slice_bounds-list_room-end c = given-within (list-handed c.requires c.list.ensures) refl c.in_ok-count.was

pub slice_bounds-listed-end : goal.slice_bounds-listed-end
slice_bounds-listed-end c = sym (length-take-le _ _ (given-within (list-handed c.requires c.list.ensures) refl c.in_ok-count.was))

pub returns-in_err-count-2 : goal.returns-in_err-count-2
returns-in_err-count-2 c =
    rw (handed-on c.from_residual-in_err-count-2.result c.from_residual-in_err-count-2.ensures)
    (prints-none (marks-refused _ _ (marks-handed c.requires _ c.marks.ensures) refl c.in_err-count-2.was ∙ list-given _ (list-handed c.requires c.list.ensures) refl c.in_ok-count.was))

pub slice_bounds-marks_room-end : goal.slice_bounds-marks_room-end
slice_bounds-marks_room-end c = given-within (marks-handed c.requires _ c.marks.ensures) refl c.in_ok-count-2.was

pub slice_bounds-table-end : goal.slice_bounds-table-end
slice_bounds-table-end c = sym (length-take-le _ _ (given-within (marks-handed c.requires _ c.marks.ensures) refl c.in_ok-count-2.was))

pub returns : goal.returns
returns c =
    let listed = list-handed c.requires c.list.ensures in
    record {
      all = wider (omega arith) (list-given _ listed refl c.in_ok-count.was)
          (marks-laid _ _ (marks-handed c.requires _ c.marks.ensures) refl (given-few listed refl c.in_ok-count.was) c.in_ok-count-2.was c.table.ensures);
      refused = tt;
      left = tt;
    }
