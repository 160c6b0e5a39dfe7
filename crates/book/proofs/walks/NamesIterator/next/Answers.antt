-- The walk over names meets its contract: it gives the first of the names that are left. Assumes nothing.
use Rattle.std.proofs.Common.{arith, ap, length}
use Rattle.book.proofs.Walking.{names-first, names-empty}
use Rattle.book.proofs.walks.NamesIterator.next.Goals as goal

pub returns-in_err-size-clause-steps : goal.returns-in_err-size-clause-steps
returns-in_err-size-clause-steps c =
    let e = names-empty c.args.self.now.rest.now c.in_err-size.ensures.cases in
    rw c.from_residual.ensures (e, e)

pub returns-clause-steps : goal.returns-clause-steps
returns-clause-steps c = names-first c.in_ok-size.ensures.cases.0 c.min.ensures c.split_at.ensures.front c.split_at.ensures.back

pub returns-clause-goes : goal.returns-clause-goes
returns-clause-goes c =
    let n = names-first c.in_ok-size.ensures.cases.0 c.min.ensures c.split_at.ensures.front c.split_at.ensures.back in
    grind (arith, ap length n)
