-- `files::read_files` meets its contract. Assumes nothing.
use mathlib.Core.Path.{ap, ◌∙◌}
use native.Mathlib.Omega.{arith}
use Rattle.format.specs.Encode.{Entry}
use Rattle.std.proofs.lemmas.Result.{err_from_is_err_and}
use Rattle.book.proofs.Named.{book-of}
use Rattle.book.specs.Reading.{stored_root}
use Rattle.syntax.proofs.Book.{files-held, files-some}
use Rattle.syntax.proofs.files.Laws.{files-refused, files-as}
use Rattle.syntax.proofs.files.read_files.Goals as goal

pub at-main-requires : goal.at-main-requires
at-main-requires c =
    let a = book-of _ _ c.args.book.laid in
    rw c.files.ensures (record { held = omega (arith, (files-held a).held, files-some a); few = (files-held a).few })

pub returns-in_err-imports : goal.returns-in_err-imports
returns-in_err-imports c =
    let q = err_from_is_err_and c.from_residual.result c.from_residual.ensures.1 in
    rw (q.1, q.2) (files-refused c.in_err-imports.ensures)

pub returns : goal.returns
returns c =
    files-as (c.tree.ensures ∙ ap (λ (e : Entry). stored_root e.root) (rw c.files.ensures at c.at-main.ensures))
    c.in_ok-imports.ensures c.init_file-init.ensures
