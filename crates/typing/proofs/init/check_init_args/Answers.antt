-- `check_init_args` meets its contract. Assumes nothing.
use mathlib.Core.Path.{sym, ◌∙◌}
use Rattle.book.proofs.Blank.{blank-length}
use Rattle.environment.proofs.BlankTable.{blank-filled}
use Rattle.refusals.proofs.Handing.{handed-on}
use Rattle.typing.proofs.init.Laws.{init-none, own-here, own-refused, own-table, main-table, init-differs, init-found, init-cleared}
use Rattle.typing.proofs.init.check_init_args.Goals as goal

-- Without an init file.
pub merged-requires : goal.merged-requires
merged-requires c = (rw c.new-own.ensures.roots blank-length, c.requires.0.book.passed.checked.table.long, rw c.requires.1 blank-length)

pub returns-then-init-book : goal.returns-then-init-book
returns-then-init-book c = λ y. let x = y.book in init-none x.admitted (sym c.init_file-init.ensures ∙ c.if-init-book.true) x.passed c.new-own.ensures.roots c.merged.ensures

-- With one: its own definitions, the merge and the arguments.
pub returns-in_err-check_own : goal.returns-in_err-check_own
returns-in_err-check_own c =
    rw (handed-on c.from_residual.result c.from_residual.ensures)
    (λ y. let x = y.book in own-refused x.admitted c.init_file-init.ensures c.if-init-book.false x.passed c.in_err-check_own.ensures c.requires.1)

pub merge-requires : goal.merge-requires
merge-requires c =
    let x = c.requires.0.book in
    let o = own-here x.admitted c.init_file-init.ensures c.if-init-book.false x.passed c.in_ok-check_own.ensures in
    record { first = own-table x.admitted o x.passed; second = main-table x.admitted o x.passed }

pub returns-in_err-merge : goal.returns-in_err-merge
returns-in_err-merge c =
    rw (handed-on c.from_residual-in_err-merge.result c.from_residual-in_err-merge.ensures)
    (λ y.
    let x = y.book in
    let o = own-here x.admitted c.init_file-init.ensures c.if-init-book.false x.passed c.in_ok-check_own.ensures in
    init-differs x.admitted o x.passed (c.in_err-merge.ensures x.admitted) c.requires.1)

pub merged-requires-2 : goal.merged-requires-2
merged-requires-2 c =
    let x = c.requires.0.book in
    let o = own-here x.admitted c.init_file-init.ensures c.if-init-book.false x.passed c.in_ok-check_own.ensures in
    ((own-table x.admitted o x.passed).long, (main-table x.admitted o x.passed).long, rw c.requires.1 blank-length)

pub check_seen-args-requires : goal.check_seen-args-requires
check_seen-args-requires c =
    let x = c.requires.0.book in
    let o = own-here x.admitted c.init_file-init.ensures c.if-init-book.false x.passed c.in_ok-check_own.ensures in
    (_, c.requires.0, o, record { passed = c.in_ok-merge.ensures x.admitted; table = c.merged-2.ensures })

pub returns-then-is_err : goal.returns-then-is_err
returns-then-is_err c =
    λ y.
    let x = y.book in
    let o = own-here x.admitted c.init_file-init.ensures c.if-init-book.false x.passed c.in_ok-check_own.ensures in
    init-cleared _ (c.check_seen-args.ensures _ y o (record { passed = c.in_ok-merge.ensures x.admitted; table = c.merged-2.ensures }))
    (sym c.is_err.ensures.value ∙ c.if-is_err.true) (blank-filled c.merged-2.ensures.long (c.fill.ensures.after (λ y e. e)))

pub returns-else-is_err : goal.returns-else-is_err
returns-else-is_err c =
    λ y.
    let x = y.book in
    let o = own-here x.admitted c.init_file-init.ensures c.if-init-book.false x.passed c.in_ok-check_own.ensures in
    init-found _ (c.check_seen-args.ensures _ y o (record { passed = c.in_ok-merge.ensures x.admitted; table = c.merged-2.ensures }))
    (sym c.is_err.ensures.value ∙ c.if-is_err.false)
