-- `files::init_file` meets its contract. Assumes nothing.
use native.Mathlib.Omega.{arith}
use Rattle.book.proofs.Named.{book-of}
use Rattle.syntax.proofs.Book.{files-held, files-some}
use Rattle.syntax.proofs.files.init_file.Goals as goal

pub at-e-requires : goal.at-e-requires
at-e-requires c =
    let a = book-of _ _ c.args.book.laid in
    rw c.files.ensures (record { held = omega (arith, (files-held a).held, files-some a); few = (files-held a).few })

pub overflow_sub-last : goal.overflow_sub-last
overflow_sub-last c = files-some (book-of _ _ c.args.book.laid)
