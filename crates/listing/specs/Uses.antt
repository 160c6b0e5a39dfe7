-- The uses of one name: its row of `chase_def_use`, with an entry for each argument and result of the actor from which it is reachable. The
-- question, what the row is, and what is refused. Definitions; assumes nothing.
use Rattle.std.specs.Prelude.{◌≡◌, ◌↔◌, Bool, false, cond, ℕ, T}
use mathlib.Core.List.{List, [], ◌∷◌, ◌++◌, map, Memᴰ}
use Rattle.refusals.specs.declared.Refusal.{Refusal}
use Rattle.refusals.specs.declared.Refusal.TheVariants.{Short, NoActor}
use Rattle.refusals.specs.Verdict.{and_then}
use Rattle.refusals.specs.Outcome.{Outcome, given, after}
use Rattle.refusals.specs.Handed.{Use}
use Rattle.format.specs.Forest.{Forest}
use Rattle.format.specs.Node.{Node}
use Rattle.format.specs.Book.{Definition, Book}
use Rattle.judgement.specs.Environment.{main_definitions}
use Rattle.judgement.specs.Resolve.{resolve_actor}
use Rattle.judgement.specs.Check.{member, check}
use Rattle.judgement.specs.Rows.{CheckRow, check_rows}
use Rattle.listing.specs.Chase.{Walk, going, unbound, chase_types}
use Rattle.listing.specs.Sites.{Site, sites}
use Rattle.listing.specs.References.{Reachable}
use Rattle.listing.specs.Offers.{Interface, indexed, MethodSites}
use Rattle.listing.specs.Room.{needs_actor, NoActorRow, ShortRow}

-- A name is used at a site if the walk from there lists it.
unfoldable pub is_listed : ℕ → Walk → Bool
is_listed n (going seen out) = member n out
is_listed n (unbound m) = false

unfoldable pub uses_at : List Definition → ℕ → List Site → List Use
uses_at ds n [] = []
uses_at ds n (s ∷ ss) = cond (is_listed n (chase_types ds s.type)) (s.entry ∷ uses_at ds n ss) (uses_at ds n ss)

-- The row of a name.
unfoldable pub uses_of : List Definition → Forest Node → ℕ → List Use
uses_of ds actor n = uses_at ds n (sites ds actor)

unfoldable pub uses : Book → ℕ → Outcome (List Use)
uses b n = after (and_then (check b) (needs_actor (resolve_actor b))) (given (uses_of (main_definitions b) (resolve_actor b) n))

-- ---- What the row is

-- The elements that pass a test, in their order.
unfoldable pub kept : {A : Type 0} → (A → Bool) → List A → List A
kept test [] = []
kept test (a ∷ l) = cond (test a) (a ∷ kept test l) (kept test l)

abbrev pub entry_of : Site → Use
entry_of s = s.entry

-- The entries of the sites from which n is reachable, in their order: those that a test keeps which tells just that.
pub record RowOf (ds : List Definition) (all : List Site) (n : ℕ) (row : List Use) : Type 0 where
  pub used : Site → Bool
  pub says : (s : Site) → Memᴰ s all → T (used s) ↔ Reachable ds s.type n
  pub row-is : row ≡ map entry_of (kept used all)

-- The answer: such a row of the class's arguments and then of the methods'.
pub record UsesGiven (ds : List Definition) (arguments methods : Forest Node) (n : ℕ) (answer : Outcome (List Use)) : Type 0 where
  pub of_methods : List Site
  pub in_order : MethodSites ds 0 methods of_methods
  pub row : List Use
  pub is-given : answer ≡ given row
  pub row-of : RowOf ds (indexed 65535 0 0 arguments ++ of_methods) n row

-- The uses of a name by the class arguments and methods that the actor offers.
abbrev pub UsesOf : Book → ℕ → List Use → Type 0
UsesOf b n l =
    (arguments methods : Forest Node) × Interface (main_definitions b) (resolve_actor b) arguments methods × UsesGiven (main_definitions b) arguments methods n (given l)

-- ---- What is refused

-- Its rows: those of the check, then 17 and 16.
pub data UsesRow (b : Book) (n places : ℕ) : Refusal → Type 0 where
  checked : {r : Refusal} → CheckRow b r → UsesRow b n places r
  no_actor : NoActorRow b → UsesRow b n places NoActor
  short : {k : ℕ} → ShortRow places (uses b n) (UsesOf b n) k → UsesRow b n places (Short k)

abbrev pub uses_rows : List ℕ
uses_rows = 17 ∷ 16 ∷ check_rows
