-- `AdmittedBook::names` meets its contract. Assumes nothing.
use native.Mathlib.Omega.{arith}
use Rattle.format.specs.Layout.{part}
use Rattle.book.proofs.Named.{book-of}
use Rattle.book.proofs.Opened.{bounds, names-here}
use Rattle.book.proofs.admitted.AdmittedBook.names.Goals as goal

pub slice_bounds-result-count : goal.slice_bounds-result-count
slice_bounds-result-count c = (bounds (book-of _ _ c.args.self.laid)).one

pub slice_bounds-result-start : goal.slice_bounds-result-start
slice_bounds-result-start c = (bounds (book-of _ _ c.args.self.laid)).one

pub slice_bounds-result-end : goal.slice_bounds-result-end
slice_bounds-result-end c = let b = bounds (book-of _ _ c.args.self.laid) in omega (arith, b.two, b.three, b.four)

pub returns : goal.returns
unfolding part
returns c = names-here (book-of _ _ c.args.self.laid)
