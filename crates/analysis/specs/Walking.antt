-- A walk over names as the code has it, and what its functions ask and say. Definitions; assumes nothing.
use Rattle.std.specs.Prelude.{◌≡◌, Bool, true, false, not, ◌&&◌, ℕ, suc, ◌+◌, ◌≤◌, ◌<◌, eqb, length, [], Option, Some, None, Result, Ok, Err}
use mathlib.Core.List.{List, Memᴰ}
use Rattle.arrayvec.specs.ArrayVec.{array_vec_len}
use Rattle.refusals.specs.declared.Refusal.{Refusal}
use Rattle.refusals.specs.declared.Refusal.TheVariants.{Unbound}
use Rattle.format.specs.Forest.{Forest}
use Rattle.format.specs.Node.{Node}
use Rattle.format.specs.Book.{Definition}
use Rattle.format.specs.Layout.{row_at, siblings}
use Rattle.format.specs.Distinct.{Distinct}
use Rattle.judgement.specs.WellFormed.{Defined}
use Rattle.environment.specs.Tables.{Nodes, Binds}
use Rattle.book.specs.Tables.{no_flags, is_set}
use Rattle.syntax.specs.declared.interface.Interface.{Interface}
use Rattle.syntax.specs.Interfaces.{IsMerged, InterfaceNodes}
use Rattle.syntax.specs.Classes.{tree_of, ArgumentsAs}
use Rattle.listing.specs.Chase.{Walk as State, going, unbound, chase, visit, chase_types}
use Rattle.analysis.specs.declared.chase.Walk.{Walk}
use Rattle.analysis.specs.Flags.{Agrees}

-- ---- The walk

-- What it has seen and listed: `entered` names are being gone through, so that there is room to list each of them.
pub record Goes (ds : List Definition) (entered : ℕ) (seen out : List ℕ) (w : Walk) : Type 0 where
  pub marks : Agrees w.seen seen
  pub long : length w.seen ≡ 1024
  pub listed : w.listed.items ≡ out
  pub once : Distinct seen
  pub defined : (n : ℕ) → Memᴰ n seen → Defined ds n
  pub slack : array_vec_len w.listed + entered ≤ length seen

-- What it comes to is in this state: a walk that has gone on, or the name without definition that stopped it.
abbrev pub Holds : List Definition → State → Result Walk Refusal → Type 0
Holds ds (going seen out) (Ok w) = Goes ds 0 seen out w
Holds ds (unbound n) (Err why) = why ≡ Unbound n
Holds ds (going seen out) (Err why) = ⊥
Holds ds (unbound n) (Ok w) = ⊥

-- It goes on, by some definitions that the table of roots is of, no more than 512.
pub record Started (ns roots : List ℕ) (w : Walk) : Type 0 where
  pub definitions : List Definition
  pub binds : Binds ns roots definitions
  pub few : length definitions ≤ 512
  pub seen : List ℕ
  pub out : List ℕ
  pub goes : Goes definitions 0 seen out w

-- How deep names are crossed at most.
abbrev pub fuel : List Definition → ℕ
fuel ds = suc (length ds)

-- From w the walk over the trees from node `from` up to node `until` comes to r.
abbrev pub ChasedAs : (ns roots : List ℕ) (from until : ℕ) (w : Walk) (r : Result Walk Refusal) → Type 0
ChasedAs ns roots from until w r =
    (ds : List Definition) (seen out : List ℕ) → Binds ns roots ds → length ds ≤ 512 → Goes ds 0 seen out w →
    Holds ds (chase (visit (fuel ds) ds) (siblings ns from until) (going seen out)) r

-- ---- The next name

-- Node n is a name without mark.
abbrev pub is_new : List ℕ → List ℕ → ℕ → Bool
is_new ns seen n = eqb (row_at ns n).kind 18 && not (is_set seen (row_at ns n).value)

-- Nodes of a book before node `until`, and a mark for each name.
pub record Scanned (ns seen : List ℕ) (until : ℕ) : Type 0 where
  pub names : ℕ
  pub count : ℕ
  pub nodes : Nodes ns names count
  pub inside : until ≤ count
  pub long : length seen ≡ 1024

-- No node from `from` on, before `until`, is a new name.
abbrev pub NoneNew : (ns seen : List ℕ) (from until : ℕ) → Type 0
NoneNew ns seen from until = (n : ℕ) → from ≤ n → n < until → is_new ns seen n ≡ false

pub record FirstNew (ns seen : List ℕ) (from until r : ℕ) : Type 0 where
  pub later : from ≤ r
  pub inside : r < until
  pub skipped : NoneNew ns seen from r
  pub new : is_new ns seen r ≡ true

-- The first new name from node `from` on, before `until`; None where there is none.
abbrev pub NextNew : (ns seen : List ℕ) (from until : ℕ) → Option ℕ → Type 0
NextNew ns seen from until (Some r) = FirstNew ns seen from until r
NextNew ns seen from until None = NoneNew ns seen from until

-- ---- The walk from a start

-- The table of roots is of some definitions, no more than 512.
pub record Counted (ns roots : List ℕ) : Type 0 where
  pub ds : List Definition
  pub binds : Binds ns roots ds
  pub few : length ds ≤ 512

-- A walk that has met nothing.
pub record NothingMet (w : Walk) : Type 0 where
  pub seen : w.seen ≡ no_flags
  pub listed : w.listed.items ≡ []

-- The walk from a start comes to r.
abbrev pub WalkedAs : (ns roots : List ℕ) (start : Forest Node) (r : Result Walk Refusal) → Type 0
WalkedAs ns roots start r = (ds : List Definition) → Binds ns roots ds → length ds ≤ 512 → Holds ds (chase_types ds start) r

-- An interface whose nodes are those of a book, with the arguments of main's actor where it is merged.
pub record InterfaceIn (ns : List ℕ) (count : ℕ) (i : Interface) : Type 0 where
  pub nodes : InterfaceNodes ns count i
  pub arguments : (m : IsMerged i.actor) → ArgumentsAs ns count (tree_of ns m.0) i.from i.until
