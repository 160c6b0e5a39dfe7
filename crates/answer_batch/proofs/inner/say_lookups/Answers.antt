-- `say_lookups` is safe: a definition that is not the init file's has a body among the nodes. Assumes nothing.
use Rattle.book.proofs.Walking.{entry-left, entry-is}
use Rattle.answer_batch.proofs.Laws.{main-held, body-ended}
use Rattle.answer_batch.proofs.inner.say_lookups.Goals as goal

pub new-e-items-requires : goal.new-e-items-requires
new-e-items-requires c = rw c.definitions.ensures (main-held c.args.passed.now.passes)

pub as_func-function-requires : goal.as_func-function-requires
as_func-function-requires c =
    let w = c.loop-e.invariant in
    let x = c.in-Some.ensures.steps in
    rw c.nodes-rows.ensures (body-ended c.args.passed.now.passes (entry-left w x) (entry-is w x))

pub as_service-service-requires : goal.as_service-service-requires
as_service-service-requires c =
    let w = c.loop-e.invariant in
    let x = c.in-Some.ensures.steps in
    rw c.nodes-rows.ensures (body-ended c.args.passed.now.passes (entry-left w x) (entry-is w x))
