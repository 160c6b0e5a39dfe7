-- `report` meets its contract: the list comes first, and what it refuses is refused. Assumes nothing.
use Rattle.refusals.proofs.Handing.{handed-on}
use Rattle.typing.proofs.prog.Book.{fits}
use Rattle.uses_report.proofs.Listed.{report-stops, reported}
use Rattle.uses_report.proofs.report.Goals as goal

pub returns-in_err-list : goal.returns-in_err-list
returns-in_err-list c =
    rw (handed-on c.from_residual.result c.from_residual.ensures)
    (report-stops _ (fits c.args.book.now.passes.passed) c.requires.0 c.list.ensures c.in_err-list.was)

pub returns : goal.returns
returns c = reported _ (fits c.args.book.now.passes.passed) c.requires.0 c.list.ensures c.requires.1 c.use_counts.ensures
