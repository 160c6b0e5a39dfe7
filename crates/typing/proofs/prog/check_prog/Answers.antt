-- `check_prog` meets its contract. Assumes nothing.
use mathlib.Core.Path.{sym, ◌∙◌}
use Rattle.book.proofs.Named.{book-of}
use Rattle.environment.proofs.Book.{entries-held}
use Rattle.refusals.proofs.Handing.{handed-on}
use Rattle.typing.proofs.prog.Laws.{imports-refused, split-files, decs-refused, defined, left-blank, left-whole}
use Rattle.typing.proofs.prog.check_prog.Goals as goal

pub returns-in_err-files : goal.returns-in_err-files
returns-in_err-files c =
    rw (handed-on c.from_residual.result c.from_residual.ensures)
    (λ a. imports-refused a c.in_err-files.ensures c.requires)

pub main_definitions-main-requires : goal.main_definitions-main-requires
main_definitions-main-requires c = rw c.definitions.ensures (entries-held (book-of _ _ c.args.book.laid))

pub returns-in_err-check : goal.returns-in_err-check
returns-in_err-check c =
    let x = c.in_ok-files.ensures.files in
    rw (handed-on c.from_residual-in_err-check.result c.from_residual-in_err-check.ensures)
    (λ a.
    decs-refused a (split-files a x c.definitions.ensures c.main_definitions-main.ensures) x
    (rw (c.new.ensures.book, c.new.ensures.from, c.new.ensures.to) at c.in_err-check.ensures))

pub check_resolved-found-requires : goal.check_resolved-found-requires
check_resolved-found-requires c =
    let a = book-of _ _ c.args.book.laid in
    let x = c.in_ok-files.ensures.files in
    let s = split-files a x c.definitions.ensures c.main_definitions-main.ensures in
    (a, x, defined a s x (rw (c.new.ensures.book, c.new.ensures.from, c.new.ensures.to) at c.in_ok-check.ensures))

pub returns-then-is_err : goal.returns-then-is_err
returns-then-is_err c =
    let x = c.in_ok-files.ensures.files in
    λ a.
    let s = split-files a x c.definitions.ensures c.main_definitions-main.ensures in
    let o = defined a s x (rw (c.new.ensures.book, c.new.ensures.from, c.new.ensures.to) at c.in_ok-check.ensures) in
    left-blank a _ (sym c.is_err.ensures.value ∙ c.if-is_err.true) (c.check_resolved-found.ensures a x o) c.new-then-is_err.ensures

pub returns-else-is_err : goal.returns-else-is_err
returns-else-is_err c =
    let x = c.in_ok-files.ensures.files in
    λ a.
    let s = split-files a x c.definitions.ensures c.main_definitions-main.ensures in
    let o = defined a s x (rw (c.new.ensures.book, c.new.ensures.from, c.new.ensures.to) at c.in_ok-check.ensures) in
    left-whole a _ (sym c.is_err.ensures.value ∙ c.if-is_err.false) (c.check_resolved-found.ensures a x o)
