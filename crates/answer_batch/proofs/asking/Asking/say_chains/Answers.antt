-- `Asking::say_chains` is safe: where no name is defined twice, the table has the roots, and a definition's body is among the nodes. Assumes nothing.
use mathlib.Core.Path.{refl}
use Rattle.book.specs.Tables.{blank_table}
use Rattle.book.proofs.Named.{book-of}
use Rattle.book.proofs.Walking.{entry-left, entry-is}
use Rattle.environment.proofs.Book.{entries-held}
use Rattle.answer_batch.proofs.Laws.{body-inside}
use Rattle.answer_batch.proofs.asking.Asking.say_chains.Goals as goal

pub enter-requires-clause-empty : goal.enter-requires-clause-empty
unfolding blank_table
enter-requires-clause-empty c = refl

pub new-e-items-requires : goal.new-e-items-requires
new-e-items-requires c = rw c.definitions.ensures (entries-held (book-of _ _ c.in_ok-book.book.laid))

pub alias_end-requires : goal.alias_end-requires
alias_end-requires c =
    let w = c.loop-e.invariant in
    let x = c.in-Some.ensures.steps in
    let a = rw c.in_ok-book.ensures.bytes at (book-of _ _ c.in_ok-book.book.laid) in
    rw c.of-scope.ensures.nodes (body-inside a (entry-left w x) (entry-is w x))
