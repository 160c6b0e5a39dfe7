-- What the methods of a scope ask and say, by the definitions of Tables. Definitions; assumes nothing.
use Rattle.std.specs.Prelude.{List, ℕ, Option}
use Rattle.format.specs.Book.{Definition}
use Rattle.refusals.specs.Verdict.{Verdict}
use Rattle.environment.specs.declared.scope.Scope.{Scope}
use Rattle.environment.specs.Tables.{Binds, Tabled, Unbegun, Unfinished, FollowedAs, NotedAs, AliasEndsAs}

-- The table of roots is of these definitions.
abbrev pub IsBy : Scope → List Definition → Type 0
IsBy s ds = Binds s.rows.now s.roots.now ds

-- It is of so many.
abbrev pub Defines : Scope → ℕ → Type 0
Defines s definitions = (ds : List Definition) × Tabled s.rows.now s.roots.now definitions ds

-- A table of alias ends before any chain is followed, and one that is being made.
abbrev pub Opened : Scope → List ℕ → Type 0
Opened s ends' = Unbegun s.roots.now s.names ends'

abbrev pub Ending : Scope → List ℕ → Type 0
Ending s ends' = Unfinished s.rows.now s.roots.now s.names s.nodes ends'

-- What the table is to have for a name, and that it is written down.
abbrev pub Follows : Scope → ℕ → ℕ → Option ℕ → Type 0
Follows s definitions n e = FollowedAs s.rows.now s.roots.now s.nodes definitions n e

abbrev pub Notes : Scope → ℕ → List ℕ → List ℕ → Type 0
Notes s n before after = NotedAs s.rows.now s.roots.now s.names s.nodes n before after

-- The alias ends of all names, or 7.
abbrev pub EndsOf : Scope → ℕ → List ℕ → Verdict → Type 0
EndsOf s definitions ends' v = AliasEndsAs s.rows.now s.roots.now s.names s.nodes definitions ends' v
