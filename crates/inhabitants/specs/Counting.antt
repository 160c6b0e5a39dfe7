-- How many values the type at each node has. Definitions; assumes nothing.
use Rattle.std.specs.Prelude.{◌≡◌, cond, List, map, ℕ, ◌+◌, ◌<◌, get_or, set, eqb}
use Rattle.format.specs.Forest.{breadth}
use Rattle.format.specs.Book.{Definition}
use Rattle.format.specs.Layout.{row_at, node_of, siblings}
use Rattle.listing.specs.Values.{kind_values, each_values, name_values}
use Rattle.environment.specs.Tables.{Binds}
use Rattle.environment.specs.declared.scope.Scope.{Scope}
use Rattle.inhabitants.specs.Waiting.{places_in, within, kind_at}
use Rattle.inhabitants.specs.declared.waiting.Wait.{Wait}
use Rattle.inhabitants.specs.declared.waiting.Wait.TheVariants.{Nothing, All, Definition as OfName}

-- What a node of this kind waits for, to be counted, if it fills.
unfoldable pub counted_after : ℕ → Wait
counted_after kind = cond (eqb kind 18) OfName (cond (eqb kind 19) All (cond (eqb kind 21) All (cond (eqb kind 22) All Nothing)))

-- By the table that tells which nodes fill.
unfoldable pub counting_wait : (left ns : List ℕ) → ℕ → Wait
counting_wait left ns n = cond (eqb (get_or left n 0) 0) (counted_after (kind_at ns n)) Nothing

-- What a name's definition has, by a table of numbers; a name without one has none.
unfoldable pub root_number : (roots numbers : List ℕ) → ℕ → ℕ
root_number roots numbers m = let root = get_or roots m 65535 in cond (eqb root 65535) 0 (get_or numbers root 0)

-- The numbers of nodes, and of the types beside each other, of which the first is at this node.
abbrev pub numbers_of : List ℕ → List ℕ → List ℕ
numbers_of numbers l = map (λ c. get_or numbers c 0) l

abbrev pub numbers_in : (numbers ns : List ℕ) → ℕ → ℕ → List ℕ
numbers_in numbers ns at until = numbers_of numbers (places_in ns at until)

-- How many values the type at a node has, by those of its parts.
unfoldable pub number_at : (ns roots numbers : List ℕ) → ℕ → ℕ
number_at ns roots numbers n = kind_values (root_number roots numbers) (node_of (row_at ns n)).kind (numbers_of numbers (within ns n))

-- Node n is counted.
abbrev pub CountedAs : (left ns roots : List ℕ) → ℕ → (old new : List ℕ) → Type 0
CountedAs left ns roots n old new = new ≡ set old n (cond (eqb (get_or left n 0) 0) (number_at ns roots old n) 0)

-- An opt holds one type.
abbrev pub OneType : List ℕ → ℕ → Type 0
OneType ns nodes = (n : ℕ) → n < nodes → kind_at ns n ≡ 19 → breadth (siblings ns (n + 1) (n + (row_at ns n).size)) ≡ 1

-- How many values the type at a node has, under these definitions.
abbrev pub node_values : List ℕ → List Definition → ℕ → ℕ
node_values ns ds n = kind_values (name_values ds) (node_of (row_at ns n)).kind (each_values (name_values ds) (siblings ns (n + 1) (n + (row_at ns n).size)))

-- Each node's number is that.
abbrev pub CountedOf : Scope → List ℕ → Type 0
CountedOf s numbers = (n : ℕ) → n < s.nodes → (ds : List Definition) → Binds s.rows.now s.roots.now ds → get_or numbers n 0 ≡ node_values s.rows.now ds n
