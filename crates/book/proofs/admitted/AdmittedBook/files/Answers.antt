-- `AdmittedBook::files` meets its contract. Assumes nothing.
use Rattle.format.specs.Layout.{part}
use Rattle.book.proofs.Named.{book-of}
use Rattle.book.proofs.Opened.{bounds, files-here}
use Rattle.book.proofs.admitted.AdmittedBook.files.Goals as goal

pub slice_bounds-result-count : goal.slice_bounds-result-count
slice_bounds-result-count c = (bounds (book-of _ _ c.args.self.laid)).four

pub slice_bounds-result-start : goal.slice_bounds-result-start
slice_bounds-result-start c = (bounds (book-of _ _ c.args.self.laid)).four

pub returns : goal.returns
unfolding part
returns c = files-here (book-of _ _ c.args.self.laid)
