-- `CheckedBook::actor` meets its contract. Assumes nothing.
use mathlib.Core.Path.{refl}
use Rattle.typing.proofs.prog.Book.{no-actor, some-actor}
use Rattle.passed.proofs.CheckedBook.actor.Goals as goal

pub returns-then-has_actor-clause-some : goal.returns-then-has_actor-clause-some
returns-then-has_actor-clause-some c = (refl, some-actor c.args.self.now.passes.passed c.has_actor.ensures c.if-has_actor.true)

pub returns-else-has_actor-clause-none : goal.returns-else-has_actor-clause-none
returns-else-has_actor-clause-none c = (refl, no-actor c.args.self.now.passes.passed c.has_actor.ensures c.if-has_actor.false)
