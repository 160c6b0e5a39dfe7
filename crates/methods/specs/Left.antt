-- What the walk over the asked names has left. Definitions; assumes nothing.
use Rattle.std.specs.Prelude.{List, ℕ}
use Rattle.methods.specs.declared.asked.Asked.{Asked}
use Rattle.methods.specs.Asked.{ended}

abbrev pub names_left : Asked → List (List ℕ)
names_left s = ended s.rest.now
