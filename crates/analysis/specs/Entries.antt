-- The entries of uses, as the code counts and writes them, and what its functions ask. Definitions; assumes nothing.
--     uses_by              the entries of the sites that pass a test
--     put_all, Puts        entries in a lent slice
--     HitsIn, Tested      a test of types, by the numbers that the code has for nodes
--     EndTested, Served, ..   what is known of a chain's end, of a service and of an interface
use Rattle.std.specs.Prelude.{◌≡◌, Option, Some, Bool, cond, List, [], ◌∷◌, map, ℕ, suc, ◌+◌, ◌*◌, ◌/◌, ◌≤◌, ◌<◌, ltb, length, get_or}
use Rattle.std.proofs.lemmas.List.Edits.{sets}
use Rattle.format.specs.Forest.{Forest, breadth}
use Rattle.format.specs.Node.{Node}
use Rattle.format.specs.Book.{Definition}
use Rattle.format.specs.Layout.{row_at, siblings}
use Rattle.format.specs.Whole.{Whole, tree_at}
use Rattle.judgement.specs.Aliases.{End}
use Rattle.environment.specs.Tables.{Nodes, EndNodes, EndAt, Chains, Ended}
use Rattle.refusals.specs.Handed.{Use, numbers}
use Rattle.listing.specs.Sites.{Site}
use Rattle.listing.specs.Uses.{kept, entry_of}
use Rattle.analysis.specs.declared.places.Places.{Places}
use Rattle.analysis.specs.declared.def_use.Side.{Side}
use Rattle.analysis.specs.declared.def_use.Side.TheVariants as side

-- ---- Which entries

-- A test of types.
abbrev pub Test : Type 0
Test = Forest Node → Bool

-- Those of the sites whose type passes the test, in their order.
unfoldable pub uses_by : Test → List Site → List Use
uses_by used ss = map entry_of (kept (λ (s : Site). used s.type) ss)

-- A function's arguments and results by number.
abbrev pub side_number : Side → ℕ
side_number side.Argument = 0
side_number side.Result = 1

-- ---- Entries in a lent slice

-- Entry k, where there are places for more than k entries; else nothing changes.
unfoldable pub put : (places k : ℕ) → Use → List ℕ → List ℕ
put places k e old = cond (ltb k places) (sets old (3 * k) (numbers e)) old

unfoldable pub put_all : (places k : ℕ) → List Use → List ℕ → List ℕ
put_all places k [] old = old
put_all places k (e ∷ es) old = put_all places (suc k) es (put places k e old)

-- Entries as the k-th and so on: there are `next` by then, and `new` is what they make of a slice that was `old`.
pub record Puts (places k : ℕ) (es : List Use) (old new : List ℕ) (next : ℕ) : Type 0 where
  pub counted : next ≡ k + length es
  pub written : new ≡ put_all places k es old

-- At most so many entries, in a slice that keeps its length.
pub record AtMost (most k : ℕ) (old new : List ℕ) (next : ℕ) : Type 0 where
  pub few : next ≤ k + most
  pub long : length new ≡ length old

-- The same of what the code holds: the slice, and how many entries there are.
abbrev pub Adds : List Use → Places → Places → Type 0
Adds es old new = Puts (length old.out.now / 3) old.count es old.out.now new.out.now new.count

abbrev pub AddsAtMost : ℕ → Places → Places → Type 0
AddsAtMost most old new = AtMost most old.count old.out.now new.out.now new.count

-- ---- Which trees use the name

-- The trees from node i up to node e do, by the number at i.
unfoldable pub hit : List ℕ → ℕ → ℕ → Bool
hit near i e = ltb (get_or near i 0) e

-- A test of types says so of the tree at each node from `from` up to `until`.
pub record HitsIn (used : Test) (ns near : List ℕ) (from until : ℕ) : Type 0 where
  pub agrees : (i : ℕ) → from ≤ i → i < until → used (tree_at ns i) ≡ hit near i (i + (row_at ns i).size)

-- The numbers are those of some test.
pub record Tested (ns near : List ℕ) (from until : ℕ) : Type 0 where
  pub used : Test
  pub hits : HitsIn used ns near from until

-- ---- Trees beside each other

-- Node `at` stands after the first `count` trees from node `from` up to node `until`; after all of them where they are fewer.
pub record SkipsTo (ns : List ℕ) (from until count at : ℕ) : Type 0 where
  pub before : Whole ns from at
  pub after : Whole ns at until
  pub least : breadth (siblings ns from at) ≤ count
  pub enough : at < until → breadth (siblings ns from at) ≡ count

-- ---- Methods

-- A chain ends at node e, or nowhere: what its end is, and a test of what stands there.
pub record EndTested (ns near : List ℕ) (e : Option ℕ) : Type 0 where
  pub reached : End
  pub is : EndAt ns e reached
  pub used : Test
  pub hits : (f : ℕ) → e ≡ Some f → HitsIn used ns near f (f + (row_at ns f).size)

-- What is known of a book: its table of alias ends is that of the definitions, and the test says what the numbers say.
pub record Known (ns ends' near : List ℕ) (names nodes : ℕ) (ds : List Definition) (used : Test) : Type 0 where
  pub chains : Chains ns ends' names ds
  pub hits : HitsIn used ns near 0 nodes

-- A service in a book of some definitions.
pub record Served (ns ends' near : List ℕ) (service : ℕ) : Type 0 where
  pub ended : Ended ns ends' service
  pub definitions : List Definition
  pub used : Test
  pub known : Known ns ends' near ended.names ended.count definitions used

-- An interface in a book: a class's arguments, which are the trees from node `from` up to node `until`, and services.
pub record OfferIn (ns ends' : List ℕ) (nodes from until : ℕ) (services : List ℕ) : Type 0 where
  pub names : ℕ
  pub book : Nodes ns names nodes
  pub table : EndNodes ends' nodes
  pub arguments : Whole ns from until
  pub inside : until ≤ nodes
  pub few : length services ≤ 16
  pub service : (k : ℕ) → k < length services → get_or services k 0 < nodes

-- The same in a book of some definitions, with a test.
pub record Offered (ns ends' near : List ℕ) (from until : ℕ) (services : List ℕ) : Type 0 where
  pub nodes : ℕ
  pub offer : OfferIn ns ends' nodes from until services
  pub definitions : List Definition
  pub used : Test
  pub known : Known ns ends' near offer.names nodes definitions used
