-- `Resolver::merge` meets its contract. Assumes nothing.
use Rattle.std.proofs.lemmas.Result.{err_from_is_err_and}
use Rattle.book.proofs.Named.{book-of}
use Rattle.syntax.proofs.actor.Merging.{root-inside, main-refused, imports-refused, merge-as}
use Rattle.syntax.proofs.actor.Resolver.merge.Goals as goal

pub main_alone-requires : goal.main_alone-requires
main_alone-requires c = root-inside (book-of _ _ c.args.self.now.book.laid) c.requires

pub returns-in_err-main : goal.returns-in_err-main
returns-in_err-main c =
    let q = err_from_is_err_and c.from_residual.result c.from_residual.ensures.1 in
    λ a. rw (q.1, q.2) (main-refused a c.requires c.in_err-main.ensures)

pub returns-in_err-services : goal.returns-in_err-services
returns-in_err-services c =
    let q = err_from_is_err_and c.from_residual-in_err-services.result c.from_residual-in_err-services.ensures.1 in
    λ a. rw (q.1, q.2) (imports-refused a c.requires (c.in_err-services.ensures c.args.files.root c.in_ok-main.ensures.main.serves))

pub returns : goal.returns
returns c =
    let m = c.in_ok-main.ensures.main in
    λ a. merge-as a c.requires m (c.in_ok-services.ensures c.args.files.root m.serves)
