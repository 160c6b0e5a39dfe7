-- `Resolver::import_services` meets its contract: the imports that are left give the verdict and the methods. Assumes nothing.
use native.Mathlib.Omega.{arith}
use Rattle.std.proofs.lemmas.Result.{err_from_is_err_and}
use Rattle.book.proofs.Named.{book-of}
use Rattle.syntax.proofs.actor.Merging.{number-held, import-inside, import-refused, services-on, services-end}
use Rattle.syntax.proofs.actor.Resolver.import_services.Goals as goal

pub at-e-requires : goal.at-e-requires
at-e-requires c =
    let p = c.requires in
    let numbers = c.as_slice-f-items.ensures.all in
    let h = rw numbers at c.loop-f-test.true in
    rw (c.files-table.ensures, numbers) (number-held (book-of _ _ c.args.self.now.book.laid) p.0 h 0)

pub chase_service-requires : goal.chase_service-requires
chase_service-requires c =
    let p = c.requires in
    let numbers = c.as_slice-f-items.ensures.all in
    let h = rw numbers at c.loop-f-test.true in
    import-inside (book-of _ _ c.args.self.now.book.laid) p.0 h 0 (rw (c.files-table.ensures, numbers) at c.at-e.ensures)

pub returns-in_err-service : goal.returns-in_err-service
returns-in_err-service c =
    let p = err_from_is_err_and c.from_residual.result c.from_residual.ensures.1 in
    let numbers = c.as_slice-f-items.ensures.all in
    let h = rw numbers at c.loop-f-test.true in
    λ root m.
    let l = rw numbers at c.loop-f.invariant root m in
    rw (p.1, p.2) (import-refused l h 0 _ (rw (c.files-table.ensures, numbers) at c.at-e.ensures) (c.requires.0.rooted _ 0 h) (rw c.in_err-service.was at c.chase_service.ensures.found))

pub push-requires : goal.push-requires
push-requires c =
    let p = c.requires in
    let numbers = c.as_slice-f-items.ensures.all in
    let h = rw numbers at c.loop-f-test.true in
    omega (arith, (c.loop-f.invariant _ p.1.1).few, p.0.few, h)

pub loop-f-preserved : goal.loop-f-preserved
loop-f-preserved c =
    let numbers = c.as_slice-f-items.ensures.all in
    let h = rw numbers at c.loop-f-test.true in
    λ root m.
    rw (c.push.ensures, numbers)
    (services-on (rw numbers at c.loop-f.invariant root m) h 0 _ (rw (c.files-table.ensures, numbers) at c.at-e.ensures) (c.requires.0.rooted _ 0 h) (rw c.in_ok-service.was at c.chase_service.ensures.found))

pub returns : goal.returns
returns c =
    let numbers = c.as_slice-f-items.ensures.all in
    λ root m.
    let l = rw numbers at c.loop-f.invariant root m in
    services-end l c.requires.0.few (rw numbers at c.loop-f.auto.f-index-end) (rw numbers at c.loop-f-test.false)
