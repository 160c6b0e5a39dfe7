use Rattle.std.specs.Prelude.{IsSome}
use Rattle.typing.proofs.actor.Laws.{MergedLeft}
use Rattle.typing.proofs.types.Walk.check_merged.Given as goal

abbrev pub invariant-loop-service : goal.invariant-loop-service
invariant-loop-service l = IsSome l.self.ends → MergedLeft l.self l.service-items l.service-index
