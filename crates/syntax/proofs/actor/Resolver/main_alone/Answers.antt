-- `Resolver::main_alone` meets its contract. Assumes nothing.
use native.Mathlib.Omega.{arith}
use Rattle.std.proofs.lemmas.Result.{err_from_is_err_and}
use Rattle.book.proofs.Named.{book-of}
use Rattle.environment.proofs.Book.{all-trees}
use Rattle.syntax.proofs.class.Laws.{top-none, top-some}
use Rattle.syntax.proofs.actor.OneService.{main-none, main-refused, main-found}
use Rattle.syntax.proofs.actor.Resolver.main_alone.Goals as goal

pub top_of-requires : goal.top_of-requires
top_of-requires c = rw c.nodes.ensures (_, _, all-trees (book-of _ _ c.args.self.now.book.laid), c.requires)

pub returns-in_default : goal.returns-in_default
returns-in_default c =
    let all = all-trees (book-of _ _ c.args.self.now.book.laid) in
    let none = top-none c.args.root ((rw c.nodes.ensures at c.in_default.ensures) _ _ all c.requires) in
    rw (none, c.none.ensures) (main-none _ _ _ _ all)

pub chase_service-requires : goal.chase_service-requires
chase_service-requires c =
    let all = all-trees (book-of _ _ c.args.self.now.book.laid) in
    let x = top-some c.args.root c.in-Some.top ((rw c.nodes.ensures at c.in-Some.ensures) _ _ all c.requires) in
    omega (arith, x.2.below.inside, (all.nodes.tree x.0 (rw x.1 at c.requires)).ends)

pub returns-in_err-service : goal.returns-in_err-service
returns-in_err-service c =
    let all = all-trees (book-of _ _ c.args.self.now.book.laid) in
    let x = top-some c.args.root c.in-Some.top ((rw c.nodes.ensures at c.in-Some.ensures) _ _ all c.requires) in
    let q = err_from_is_err_and c.from_residual.result c.from_residual.ensures.1 in
    rw (q.1, q.2, x.1) (main-refused _ _ _ _ {root = x.0} all (rw x.1 at c.requires) x.2 (rw c.in_err-service.was at c.chase_service.ensures.found))

pub returns : goal.returns
returns c =
    let all = all-trees (book-of _ _ c.args.self.now.book.laid) in
    let x = top-some c.args.root c.in-Some.top ((rw c.nodes.ensures at c.in-Some.ensures) _ _ all c.requires) in
    rw x.1 (main-found _ _ _ _ {root = x.0} all (rw x.1 at c.requires) x.2 (rw c.in_ok-service.was at c.chase_service.ensures.found) c.from.ensures)
