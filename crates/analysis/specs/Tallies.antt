-- How many uses each name has, as the code counts them, and what its functions ask. Definitions; assumes nothing.
--     Amount, times_listed, stops   a number for each type: how often the walk from it lists a name; 1 where that walk stops
--     tally, .., weighed            an amount of several types together
--     Stands, UsedIn, RoomFor       how often types are used
--     Countable, CountedIn          what is asked of who counts, and what the counts are then
--     Offering                      what is known of a book and its actor
use Rattle.std.specs.Prelude.{◌≡◌, cond, List, [], ◌∷◌, ℕ, suc, ◌+◌, ◌*◌, ◌≤◌, ◌<◌, ltb, eqb, length, get_or, count_by, replicate}
use Rattle.format.specs.Forest.{Forest, end, tree}
use Rattle.format.specs.Node.{kind_number, Node}
use Rattle.format.specs.Book.{Definition}
use Rattle.format.specs.Layout.{row_at, siblings}
use Rattle.format.specs.Whole.{tree_at}
use Rattle.judgement.specs.Environment.{is_func_kind}
use Rattle.judgement.specs.Aliases.{End, unbound, circle, ends, alias_end}
use Rattle.environment.specs.Tables.{Binds, Chains}
use Rattle.syntax.specs.Interfaces.{methods_in}
use Rattle.listing.specs.Chase.{Walk, going, chase_types}
use Rattle.listing.specs.Chase as walk
use Rattle.analysis.specs.Walking.{Counted}
use Rattle.analysis.specs.Entries.{OfferIn}
use Rattle.analysis.specs.declared.use_counts.UsedTypes.{UsedTypes}

-- ---- Amounts
abbrev pub Amount : Type 0
Amount = Forest Node → ℕ

unfoldable pub times_in : ℕ → Walk → ℕ
times_in n (going seen out) = count_by (eqb n) out
times_in n (walk.unbound m) = 0

-- How often the walk from a type lists the name.
unfoldable pub times_listed : List Definition → ℕ → Amount
times_listed ds n t = times_in n (chase_types ds t)

unfoldable pub stopped : Walk → ℕ
stopped (going seen out) = 0
stopped (walk.unbound m) = 1

-- Whether it stops at a name without definition.
unfoldable pub stops : List Definition → Amount
stops ds t = stopped (chase_types ds t)

-- No label changes the amount, and types of the kinds below 18, the primitive ones, have nothing of it: so it is of the two above, and of
-- `each_type`, which counts types themselves.
pub record ByWalk (f : Amount) : Type 0 where
  pub same : {n m : Node} (kids : Forest Node) → n.kind ≡ m.kind → f (tree n kids end) ≡ f (tree m kids end)
  pub none : {n : Node} (kids : Forest Node) → kind_number n.kind < 18 → f (tree n kids end) ≡ 0

unfoldable pub each_type : Amount
each_type end = 0
each_type (tree n kids next) = cond (ltb (kind_number n.kind) 18) 0 1

-- ---- Of several types together

-- Of trees that stand beside each other.
unfoldable pub tally : Amount → Forest Node → ℕ
tally f end = 0
tally f (tree n kids next) = f (tree n kids end) + tally f next

-- Of the arguments and results of the function at a chain's end; none where there is no function.
unfoldable pub end_tally : Amount → End → ℕ
end_tally f (unbound n) = 0
end_tally f circle = 0
end_tally f (ends end) = 0
end_tally f (ends (tree n kids next)) = cond (is_func_kind n.kind) (tally f kids) 0

-- Of those of a method, and of methods.
abbrev pub of_method : Amount → List Definition → Amount
of_method f ds t = end_tally f (alias_end ds t)

abbrev pub method_tally : Amount → List Definition → Forest Node → ℕ
method_tally f ds = tally (of_method f ds)

-- Of those of the function at a node.
abbrev pub node_tally : List ℕ → ℕ → Amount → ℕ
node_tally ns n f = end_tally f (ends (tree_at ns n))

-- Of the type at a node, alone.
abbrev pub type_at : List ℕ → ℕ → Amount → ℕ
type_at ns n f = f (tree_at ns n)

-- Of the nodes from node n on, each so many times, by what a node amounts to.
unfoldable pub weighed : (ℕ → Amount → ℕ) → ℕ → List ℕ → Amount → ℕ
weighed of n [] f = 0
weighed of n (times ∷ more) f = times * of n f + weighed of (suc n) more f

-- Of the trees from node `from` up to node `until`; and with the methods of services, which is all that an actor offers.
abbrev pub trees_tally : List ℕ → (from until : ℕ) → Amount → ℕ
trees_tally ns from until f = tally f (siblings ns from until)

abbrev pub offered_tally : List ℕ → List Definition → (from until : ℕ) → List ℕ → Amount → ℕ
offered_tally ns ds from until services f = trees_tally ns from until f + method_tally f ds (methods_in ns services)

-- ---- What is counted, a number for each name

unfoldable pub no_counts : List ℕ
no_counts = replicate 1024 0

-- From some types, so many times each, no walk stops, and the counts have room for what they list.
pub record Countable (ns roots counts : List ℕ) (times : ℕ) (together : Amount → ℕ) : Type 0 where
  pub counted : Counted ns roots
  pub goes_on : times * together (stops counted.ds) ≡ 0
  pub room : (n : ℕ) → n < 1024 → get_or counts n 0 + times * together (times_listed counted.ds n) < 4294967296

-- The counts have what they list in addition.
abbrev pub CountedIn : (ns roots old new : List ℕ) (times : ℕ) (together : Amount → ℕ) → Type 0
CountedIn ns roots old new times together =
    (ds : List Definition) → Binds ns roots ds → length ds ≤ 512 → (n : ℕ) → n < 1024 → get_or new n 0 ≡ get_or old n 0 + times * together (times_listed ds n)

-- ---- How often types are used, a number for each node

-- A table of types, with a node for each name: the first that was met of those that are this name, and 0 for none, else one more.
pub record Stands (ns : List ℕ) (nodes : ℕ) (types : UsedTypes) : Type 0 where
  pub long : length types.times ≡ 4096
  pub first : (v r : ℕ) → get_or types.of_name v 0 ≡ suc r → (r < nodes) × ((row_at ns r).kind ≡ 18) × ((row_at ns r).value ≡ v)
  pub beyond : (i : ℕ) → nodes ≤ i → get_or types.times i 0 ≡ 0

-- So many more are used, by whatever is counted of them.
abbrev pub UsedIn : (ns : List ℕ) (old new : UsedTypes) (times : ℕ) (together : Amount → ℕ) → Type 0
UsedIn ns old new times together =
    (f : Amount) → ByWalk f → weighed (type_at ns) 0 new.times f ≡ weighed (type_at ns) 0 old.times f + times * together f

-- There is room for these.
abbrev pub RoomFor : (ns : List ℕ) (old : UsedTypes) (times : ℕ) (together : Amount → ℕ) → Type 0
RoomFor ns old times together = weighed (type_at ns) 0 old.times each_type + times * together each_type < 4294967296

-- No number of a table is larger.
abbrev pub NoMore : List ℕ → ℕ → Type 0
NoMore table most = (i : ℕ) → get_or table i 0 ≤ most

-- An interface in a book of some definitions: no walk from what it offers stops, and no name has more uses, and no type is used more often, than a
-- number here holds.
pub record Offering (ns roots ends' : List ℕ) (nodes from until : ℕ) (services : List ℕ) : Type 0 where
  pub offer : OfferIn ns ends' nodes from until services
  pub counted : Counted ns roots
  pub chains : Chains ns ends' offer.names counted.ds
  pub goes_on : offered_tally ns counted.ds from until services (stops counted.ds) ≡ 0
  pub room : (n : ℕ) → n < 1024 → offered_tally ns counted.ds from until services (times_listed counted.ds n) < 4294967296
  pub types_room : offered_tally ns counted.ds from until services each_type < 4294967296
