-- `draft_list_admitted` meets its contract. Assumes nothing.
use mathlib.Core.Path.{◌≡◌, sym, ap, ◌∙◌}
use Rattle.std.proofs.Common.{None, Some, Err, is_some, rules, tests}
use Rattle.refusals.specs.declared.Refusal.TheVariants.{NoActor}
use Rattle.book.proofs.Named.{book-of}
use Rattle.syntax.proofs.files.Laws.{root-none}
use Rattle.passed.proofs.Asking.{handed-refused}
use Rattle.passed.proofs.draft_list.Laws.{files-first, main-root, main-written, draft-lacks}
use Rattle.passed.proofs.draft_list.draft_list_admitted.Goals as goal

pub at-main-requires : goal.at-main-requires
at-main-requires c = files-first (book-of _ _ c.args.book.laid) c.files.ensures

pub returns-in_err-root : goal.returns-in_err-root
returns-in_err-root c =
    let none : c.tree.result ≡ None = search (rules, tests) in
    let lacks = root-none (ap is_some (sym c.tree.ensures ∙ none)) in
    let e : c.from_residual.result ≡ Err NoActor = search (rules, tests) in
    rw e (λ a. handed-refused _ (draft-lacks a (main-root a c.files.ensures c.at-main.ensures) lacks))

pub draft_list_written-requires : goal.draft_list_written-requires
draft_list_written-requires c =
    let some : c.tree.result ≡ Some c.in_ok-root.root = search (rules, tests) in
    let a = book-of _ _ c.args.book.laid in
    main-written a (main-root a c.files.ensures c.at-main.ensures) (sym c.tree.ensures ∙ some)
