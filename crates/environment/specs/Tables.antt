-- Tables by name number, and what they say of an environment. Definitions; assumes nothing.
use Rattle.std.specs.Prelude.{◌≡◌, Bool, false, cond, List, [], ◌∷◌, map, ℕ, ◌-◌, ◌*◌, ◌/◌, ◌%◌, ◌≤◌, ◌<◌, length, get_or, eqb, Option, Some, None, IfSome, IfNone, Result, Ok, Err, OnOk, OnErr}
use Rattle.std.specs.Result.{is_ok}
use Rattle.format.specs.Book.{Definition}
use Rattle.format.specs.Encode.{Entry}
use Rattle.format.specs.Layout.{run, entry_at, row_at}
use Rattle.format.specs.Whole.{Within, WholeIn, RowFits, tree_at, definition_at}
use Rattle.judgement.specs.Environment.{Found, missing, body, find_type}
use Rattle.judgement.specs.Aliases.{End, unbound, circle, ends, alias_end, alias_length, name_type}
use Rattle.judgement.specs.Check.{member, each_name, circle_verdict}
use Rattle.book.specs.Tables.{blank_table, zero_table}
use Rattle.refusals.specs.declared.Refusal as refusal
use Rattle.refusals.specs.Verdict.{Verdict, passes}
use Rattle.environment.specs.declared.End as code
use Rattle.environment.specs.declared.End.TheVariants.{Unbound, Circle, Ends}
use Rattle.environment.specs.declared.Link.{Link}
use Rattle.environment.specs.declared.Reached.{Reached}

-- ---- What is known of the nodes of an admitted book
pub record Nodes (ns : List ℕ) (names count : ℕ) : Type 0 where
  pub few_names : names ≤ 1024
  pub few_nodes : count ≤ 4096
  pub within : Within ns count
  pub tree : (n : ℕ) → n < count → WholeIn ns n count
  pub row : (n : ℕ) → n < count → RowFits names (row_at ns n)

-- Entries of definitions: their names are in the table of names, and their trees among the nodes.
pub record Entries (es : List ℕ) (names count from to : ℕ) : Type 0 where
  pub ordered : from ≤ to
  pub held : to * 8 ≤ length es
  pub few : length es ≤ 4096
  pub name : (d : ℕ) → from ≤ d → d < to → (entry_at es d).name < names
  pub root : (d : ℕ) → from ≤ d → d < to → (entry_at es d).root < count

-- The definitions that entries `from` up to `to` say.
abbrev pub definitions_in : List ℕ → List ℕ → ℕ → ℕ → List Definition
definitions_in ns es from to = map (definition_at ns) (run (entry_at es) from (to - from))

-- ---- A table of roots: 65,535 for a name without definition, else the root of its first one
unfoldable pub root_in : List Entry → ℕ → ℕ
root_in [] n = 65535
root_in (e ∷ es) n = cond (eqb e.name n) e.root (root_in es n)

pub record Roots (roots : List ℕ) (count : ℕ) : Type 0 where
  pub long : length roots ≡ 1024
  pub node : (n : ℕ) → (get_or roots n 65535 ≡ 65535 → ⊥) → get_or roots n 65535 < count

unfoldable pub found_at : List ℕ → ℕ → Found
found_at ns root = cond (eqb root 65535) missing (body (tree_at ns root))

-- The table has what the definitions say. Every table has what some definitions say: proofs/Definitions.antt.
abbrev pub Binds : List ℕ → List ℕ → List Definition → Type 0
Binds ns roots ds = (n : ℕ) → find_type ds n ≡ found_at ns (get_or roots n 65535)

-- The table is that of these definitions, of which there are so many.
abbrev pub Tabled : List ℕ → List ℕ → ℕ → List Definition → Type 0
Tabled ns roots definitions ds = Binds ns roots ds × (length ds ≡ definitions)

-- 2: the first name that an earlier entry has.
unfoldable pub repeated : List ℕ → List Entry → Verdict
repeated seen [] = passes
repeated seen (e ∷ es) = cond (member e.name seen) (Err (refusal.Refusal.Twice e.name)) (repeated (e.name ∷ seen) es)

-- ---- One link of an alias chain
-- The name that a node is.
unfoldable pub var_at : List ℕ → ℕ → Option ℕ
var_at ns node = cond (eqb (row_at ns node).kind 18) (Some (row_at ns node).value) None

-- From a name of this root to where its definition stands, and the name that this is.
unfoldable pub link_of : List ℕ → ℕ → Option Link
link_of ns root = cond (eqb root 65535) None (Some (record { root = root; next = var_at ns root }))

-- ---- The alias end, as the code answers it
unfoldable pub as_end : List ℕ → code.End → End
as_end ns (Unbound n) = unbound n
as_end ns Circle = circle
as_end ns (Ends n) = ends (tree_at ns n)

abbrev pub InRange : ℕ → code.End → Type 0
InRange count (Unbound n) = Unit {0}
InRange count Circle = Unit {0}
InRange count (Ends n) = n < count

-- The table of entries: 2 with the first name defined twice, and, where there is none, the root of each name; where there is one, nothing.
pub record DefinesAs (es : List ℕ) (count from to : ℕ) (roots : List ℕ) (v : Verdict) : Type 0 where
  pub is : v ≡ repeated [] (run (entry_at es) from (to - from))
  pub table : OnOk v (Roots roots count)
  pub root : OnOk v ((n : ℕ) → get_or roots n 65535 ≡ root_in (run (entry_at es) from (to - from)) n)
  pub left : OnErr v (roots ≡ blank_table)

-- The end of the chain from a name's definition; a name without definition is unbound.
unfoldable pub name_end : List Definition → ℕ → Found → End
name_end ds n missing = unbound n
name_end ds n (body t) = alias_end ds t

-- ---- A table of alias ends: for each name the number of names that its chain crosses, times 65,536, and 65,535 less the node where it ends, or 0
-- for none
abbrev pub end_of : ℕ → Option ℕ
end_of e = cond (eqb (e % 65536) 0) None (Some (65535 - e % 65536))

abbrev pub end_in : List ℕ → ℕ → Option ℕ
end_in ends' n = end_of (get_or ends' n 0)

abbrev pub crossed_in : List ℕ → ℕ → ℕ
crossed_in ends' n = get_or ends' n 0 / 65536

pub record EndNodes (ends' : List ℕ) (count : ℕ) : Type 0 where
  pub long : length ends' ≡ 1024
  pub node : (n e : ℕ) → end_in ends' n ≡ Some e → e < count

-- The node at which a chain ends.
abbrev pub EndAt : List ℕ → Option ℕ → End → Type 0
EndAt ns o (unbound n) = o ≡ None
EndAt ns o circle = ⊥
EndAt ns o (ends t) = (e : ℕ) × (o ≡ Some e) × (t ≡ tree_at ns e)

-- What such a table has for a name: where the chain of its definition ends, and the length of that of the type that is the name.
pub record ChainAt (ns : List ℕ) (ds : List Definition) (n e : ℕ) : Type 0 where
  pub end : EndAt ns (end_of e) (name_end ds n (find_type ds n))
  pub crossed : e / 65536 ≡ alias_length ds (name_type n)

abbrev pub Chains : List ℕ → List ℕ → ℕ → List Definition → Type 0
Chains ns ends' names ds = (n : ℕ) → n < names → ChainAt ns ds n (get_or ends' n 0)

-- The same of a name whose chain ends, whatever the definitions are that the table of roots was made of.
pub record EndKnown (ns roots : List ℕ) (count n e : ℕ) : Type 0 where
  pub node : (m : ℕ) → end_of e ≡ Some m → m < count
  pub is : (ds : List Definition) → Binds ns roots ds → ChainAt ns ds n e

-- What the table is to have for a name; nothing if its chain never ends.
pub record FollowedAs (ns roots : List ℕ) (count definitions n : ℕ) (e : Option ℕ) : Type 0 where
  pub never : IfNone e ((ds : List Definition) → Binds ns roots ds → length ds ≡ definitions → name_end ds n (find_type ds n) ≡ circle)
  pub known : IfSome e (EndKnown ns roots count n)

-- A table of alias ends that is being made: 1 for a name with a definition whose end is not known yet.
pub record Unfinished (ns roots : List ℕ) (names count : ℕ) (ends' : List ℕ) : Type 0 where
  pub long : length ends' ≡ 1024
  pub bound : (n : ℕ) → n < names → get_or ends' n 0 ≡ 1 → get_or roots n 65535 ≡ 65535 → ⊥
  pub known : (n : ℕ) → n < names → (get_or ends' n 0 ≡ 1 → ⊥) → EndKnown ns roots count n (get_or ends' n 0)
  pub beyond : (n : ℕ) → names ≤ n → get_or ends' n 0 ≡ 0

-- What the table has for a name of this root before any chain is followed: a name without definition is unbound.
unfoldable pub end_before : ℕ → ℕ
end_before root = cond (eqb root 65535) 0 1

-- The table before any chain is followed.
pub record Unbegun (roots : List ℕ) (names : ℕ) (ends' : List ℕ) : Type 0 where
  pub long : length ends' ≡ 1024
  pub before : (n : ℕ) → n < names → get_or ends' n 0 ≡ end_before (get_or roots n 65535)
  pub beyond : (n : ℕ) → names ≤ n → get_or ends' n 0 ≡ 0

-- The end of name n is known, and what was known is as it was.
pub record NotedAs (ns roots : List ℕ) (names count n : ℕ) (before after : List ℕ) : Type 0 where
  pub table : Unfinished ns roots names count after
  pub kept : (m : ℕ) → (get_or before m 0 ≡ 1 → ⊥) → get_or after m 0 ≡ get_or before m 0
  pub known : get_or after n 0 ≡ 1 → ⊥

-- 7 with the lowest name whose chain never ends, as the check refuses it; and, where there is none, all ends; where there is one, nothing.
pub record AliasEndsAs (ns roots : List ℕ) (names count definitions : ℕ) (ends' : List ℕ) (v : Verdict) : Type 0 where
  pub nodes : OnOk v (EndNodes ends' count)
  pub lowest : (ds : List Definition) → Binds ns roots ds → length ds ≡ definitions → v ≡ each_name (λ n. circle_verdict ds n (find_type ds n)) 0 names
  pub all : OnOk v ((ds : List Definition) → Binds ns roots ds → length ds ≡ definitions → Chains ns ends' names ds)
  pub beyond : OnOk v ((n : ℕ) → names ≤ n → get_or ends' n 0 ≡ 0)
  pub left : OnErr v (ends' ≡ zero_table)

-- A node of a book, with a table of alias ends.
pub record Ended (ns ends' : List ℕ) (node : ℕ) : Type 0 where
  pub names : ℕ
  pub count : ℕ
  pub nodes : Nodes ns names count
  pub table : EndNodes ends' count
  pub inside : node < count

-- The node at which the chain from a node ends, by a table of alias ends.
unfoldable pub end_node : List ℕ → List ℕ → ℕ → Option ℕ
end_node ns ends' node = cond (eqb (row_at ns node).kind 18) (end_in ends' (row_at ns node).value) (Some node)

-- There is a node, and it is of this kind.
abbrev pub is_kind : ℕ → List ℕ → Option ℕ → Bool
is_kind kind ns None = false
is_kind kind ns (Some e) = eqb (row_at ns e).kind kind

-- The chain from a node ends at a node of this kind.
unfoldable pub end_is : ℕ → List ℕ → List ℕ → ℕ → Bool
end_is kind ns ends' node = is_kind kind ns (end_node ns ends' node)

-- How many names it crosses.
unfoldable pub end_crossed : List ℕ → List ℕ → ℕ → ℕ
end_crossed ns ends' node = cond (eqb (row_at ns node).kind 18) (crossed_in ends' (row_at ns node).value) 0

-- The end of the chain from a node, by the table; the count is the chain's length, whatever definitions the table is of, and at most their
-- number.
pub record ReachedAs (ns ends' : List ℕ) (node : ℕ) (e : Option ℕ) (crossed : ℕ) : Type 0 where
  pub node-is : e ≡ end_node ns ends' node
  pub crossed-is : crossed ≡ end_crossed ns ends' node
  pub length-is : (s : Ended ns ends' node) (ds : List Definition) → Chains ns ends' s.names ds → crossed ≡ alias_length ds (tree_at ns node)
  pub few : (s : Ended ns ends' node) (ds : List Definition) → Chains ns ends' s.names ds → crossed ≤ length ds

-- What a lookup of a kind finds there: the end, be it of the kind or not.
abbrev pub reached_in : Result Reached Reached → Reached
reached_in (Ok x) = x
reached_in (Err x) = x

pub record LookupAs (kind : ℕ) (ns ends' : List ℕ) (node : ℕ) (r : Result Reached Reached) : Type 0 where
  pub found-is : is_ok r ≡ end_is kind ns ends' node
  pub reached : ReachedAs ns ends' node (reached_in r).node (reached_in r).crossed
