-- What a walk that is over says of a question. Definitions; assumes nothing.
use Rattle.std.specs.Prelude.{List, ℕ, Result, Ok, Err}
use Rattle.refusals.specs.declared.Refusal.{Refusal}
use Rattle.refusals.specs.Outcome.{Outcome, refused, given}
use Rattle.analysis.specs.declared.chase.Walk.{Walk}

-- The outcome of a walk that is over: the name that stopped it, or what it has listed.
abbrev pub walk_outcome : Result Walk Refusal → Outcome (List ℕ)
walk_outcome (Ok w) = given w.listed.items
walk_outcome (Err why) = refused why
