-- `check_arguments` meets its contract. Assumes nothing.
use mathlib.Core.Path.{refl, ap}
use native.Mathlib.Omega.{arith}
use Rattle.format.specs.Encode.{Row}
use Rattle.format.proofs.Rows.{node-within}
use Rattle.book.specs.Tables.{zero_table}
use Rattle.book.proofs.Named.{book-of}
use Rattle.environment.proofs.Book.{all-trees}
use Rattle.refusals.proofs.Handing.{handed-on}
use Rattle.typing.proofs.init.Laws.{arguments-stop, arguments-end}
use Rattle.typing.proofs.init.check_arguments.Goals as goal

pub find_ends-requires-clause-ends : goal.find_ends-requires-clause-ends
unfolding zero_table
find_ends-requires-clause-ends c = refl

pub at-requires : goal.at-requires
at-requires c = rw c.of-scope.ensures.rows (node-within ((all-trees (book-of _ _ c.args.book.laid)).nodes.tree _ c.requires.inside).whole)

pub overflow_add-until : goal.overflow_add-until
overflow_add-until c =
    let a = all-trees (book-of _ _ c.args.book.laid) in
    let w = a.nodes.tree _ c.requires.inside in
    let s = rw c.of-scope.ensures.rows at (ap (λ (q : Row). q.size) c.at.ensures) in
    omega (arith, s, w.ends, a.nodes.few_nodes)

pub returns-in_err-check_types : goal.returns-in_err-check_types
returns-in_err-check_types c =
    let o = c.of-scope.ensures in
    rw (handed-on c.from_residual-in_err-check_types.result c.from_residual-in_err-check_types.ensures)
    (λ ds s. arguments-stop (book-of _ _ c.args.book.laid) (rw (o.rows, o.roots, o.names, o.nodes) at c.in_ok-find_ends.ensures) s refl c.new.ensures c.requires.inside
    (rw o.rows at c.at.ensures) c.in_err-check_types.ensures)

pub returns : goal.returns
returns c =
    let o = c.of-scope.ensures in
    λ ds s. arguments-end (book-of _ _ c.args.book.laid) (rw (o.rows, o.roots, o.names, o.nodes) at c.in_ok-find_ends.ensures) s refl c.new.ensures c.requires.inside
    (rw o.rows at c.at.ensures) c.in_ok-check_types.ensures
