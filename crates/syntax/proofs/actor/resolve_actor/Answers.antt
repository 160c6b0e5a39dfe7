-- `actor::resolve_actor` meets its contract. Assumes nothing.
use mathlib.Core.Path.{sym, ◌∙◌}
use Rattle.std.proofs.lemmas.Result.{err_from_is_err_and}
use Rattle.book.proofs.Named.{book-of}
use Rattle.environment.proofs.Book.{all-trees}
use Rattle.syntax.proofs.actor.Merging.{root-inside, resolved-written, resolved-refused, merged-as, hashes-refused, resolved-merged}
use Rattle.syntax.proofs.actor.resolve_actor.Goals as goal

pub written-requires : goal.written-requires
written-requires c =
    let p = c.requires in
    let a = book-of _ _ c.args.book.laid in
    rw c.nodes.ensures (_, _, all-trees a, p.ended, root-inside a p.found, (_, p.passed.2))

pub returns-then-is_empty : goal.returns-then-is_empty
returns-then-is_empty c =
    let p = c.requires in
    λ a ds y l.
    resolved-written a p.found (sym c.is_empty.ensures ∙ c.if-is_empty.true) ds
    ((rw c.nodes.ensures at c.written.ensures) _ _ ds (all-trees a) p.ended (root-inside a p.found) l)

pub returns-in_err-merged : goal.returns-in_err-merged
returns-in_err-merged c =
    let q = err_from_is_err_and c.from_residual.result c.from_residual.ensures.1 in
    λ a ds y l. rw (q.1, q.2) (resolved-refused a c.requires.found (sym c.is_empty.ensures ∙ c.if-is_empty.false) ds (c.in_err-merged.ensures a) y)

pub check_hashes-requires : goal.check_hashes-requires
check_hashes-requires c =
    let p = c.requires in
    let a = book-of _ _ c.args.book.laid in
    rw c.as_slice.ensures.all
    (merged-as a p.found (sym c.is_empty.ensures ∙ c.if-is_empty.false) p.passed.0 (c.in_ok-merged.ensures a) p.passed.1).nodes.service

pub returns-in_err-check_hashes : goal.returns-in_err-check_hashes
returns-in_err-check_hashes c =
    let q = err_from_is_err_and c.from_residual-in_err-check_hashes.result c.from_residual-in_err-check_hashes.ensures.1 in
    λ a ds y l.
    rw (q.1, q.2)
    (hashes-refused a c.requires.found (sym c.is_empty.ensures ∙ c.if-is_empty.false) ds (c.in_ok-merged.ensures a) y
    (rw c.as_slice.ensures.all at c.in_err-check_hashes.ensures a))

pub returns : goal.returns
returns c =
    λ a ds y l.
    resolved-merged a c.requires.found (sym c.is_empty.ensures ∙ c.if-is_empty.false) ds (c.in_ok-merged.ensures a) y
    (rw c.as_slice.ensures.all at c.in_ok-check_hashes.ensures a)
