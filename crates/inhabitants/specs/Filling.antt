-- Which nodes fill. Definitions; assumes nothing.
use Rattle.std.specs.Prelude.{◌≡◌, ◌↔◌, cond, List, ℕ, ◌+◌, ◌<◌, get_or, eqb}
use Rattle.format.specs.Book.{Definition}
use Rattle.format.specs.Layout.{row_at, node_of, siblings}
use Rattle.listing.specs.Empty.{Fills}
use Rattle.environment.specs.Tables.{Binds}
use Rattle.environment.specs.declared.scope.Scope.{Scope}
use Rattle.inhabitants.specs.declared.waiting.Wait.{Wait}
use Rattle.inhabitants.specs.declared.waiting.Wait.TheVariants.{Nothing, Ever, All, One, Definition as OfName}
use Rattle.inhabitants.specs.declared.waiting.Waiting.{Waiting}

-- What a node of this kind waits for, to fill.
unfoldable pub filling_wait : ℕ → Wait
filling_wait kind = cond (eqb kind 18) OfName (cond (eqb kind 21) All (cond (eqb kind 22) One (cond (eqb kind 16) Ever Nothing)))

-- The type at a node fills, under these definitions; and under any that the table of roots is of.
abbrev pub NodeFills : List ℕ → List Definition → ℕ → Type 0
NodeFills ns ds n = Fills ds (node_of (row_at ns n)).kind (siblings ns (n + 1) (n + (row_at ns n).size))

abbrev pub FillsAt : List ℕ → List ℕ → ℕ → Type 0
FillsAt ns roots n = (ds : List Definition) → Binds ns roots ds → NodeFills ns ds n

-- The nodes that wait for nothing in the end are just those that fill.
abbrev pub FillingOf : Scope → Waiting → Type 0
FillingOf s f = (n : ℕ) → n < s.nodes → (ds : List Definition) → Binds s.rows.now s.roots.now ds → (get_or f.left n 0 ≡ 0) ↔ NodeFills s.rows.now ds n
