-- `entries` meets its contract. Assumes nothing.
use Rattle.typing.proofs.decs.Laws.{entries-within}
use Rattle.typing.proofs.decs.Decs.entries.Goals as goal

pub new-requires : goal.new-requires
new-requires c = rw c.definitions.ensures (entries-within c.args.self)
