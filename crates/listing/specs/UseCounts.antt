-- How many uses each listed definition has, in the order of the list, which is a page for support staff: request 8 of document 02. The question; what
-- it gives; the same total from the other side, which knows no walk; and what a caller has in hand. It refuses what `list` does. Definitions; assumes
-- nothing.
use Rattle.std.specs.Prelude.{◌≡◌, ◌↔◌, ℕ, ◌+◌, ◌≤◌, ◌<◌, length, sum, Ok, Err}
use mathlib.Core.List.{List, [], ◌∷◌, ◌++◌, map}
use Rattle.refusals.specs.declared.Refusal.TheVariants.{Short}
use Rattle.refusals.specs.Outcome.{Outcome, given, asked}
use Rattle.refusals.specs.Handed.{Use, UseCountsAnswer, UseCountsAs}
use Rattle.format.specs.Forest.{Forest}
use Rattle.format.specs.Node.{Node}
use Rattle.format.specs.Book.{Definition, Book}
use Rattle.format.specs.Admission.{on_bytes, Source}
use Rattle.judgement.specs.Environment.{main_definitions}
use Rattle.judgement.specs.Resolve.{resolve_actor}
use Rattle.judgement.specs.WellFormed.{Defined}
use Rattle.listing.specs.References.{Reachable}
use Rattle.listing.specs.Sites.{Site}
use Rattle.listing.specs.Offers.{Interface, indexed, MethodSites}
use Rattle.listing.specs.List.{list}
use Rattle.listing.specs.Room.{EachOnce}
use Rattle.listing.specs.Uses.{uses_of, uses}
use Rattle.listing.specs.Demand3.{InFront, AsItWas}

-- How many entries the row of a name has.
unfoldable pub use_count : List Definition → Forest Node → ℕ → ℕ
use_count ds actor n = length (uses_of ds actor n)

-- Of the names of a list.
unfoldable pub counts_of : Book → List ℕ → List ℕ
counts_of b l = map (use_count (main_definitions b) (resolve_actor b)) l

unfoldable pub use_counts : Book → Outcome (List ℕ)
use_counts b = asked (λ l. given (counts_of b l)) (list b)

-- ---- What is given: for each listed name how many entries the answer to `uses` has
pub record CountsGiven (b : Book) (counts : List ℕ) : Type 0 where
  pub names : List ℕ
  pub listed : list b ≡ given names
  pub row : ℕ → List Use
  pub rows : (n : ℕ) → uses b n ≡ given (row n)
  pub counts-are : counts ≡ map (λ n. length (row n)) names

-- ---- The other side: for every class argument, method argument and method result the number of definitions reachable from it, together

-- So many definitions are reachable from a type.
pub record ReachesMany (ds : List Definition) (type : Forest Node) (many : ℕ) : Type 0 where
  pub names : List ℕ
  pub each : EachOnce (λ n. Reachable ds type n × Defined ds n) names
  pub long : length names ≡ many

-- From these, together.
pub data Together (ds : List Definition) : List Site → ℕ → Type 0 where
  none : Together ds [] 0
  also : {s : Site} {l : List Site} {many rest : ℕ} → ReachesMany ds s.type many → Together ds l rest → Together ds (s ∷ l) (many + rest)

-- From all that an actor offers, by its class's arguments and its methods.
pub record FromOffered (ds : List Definition) (arguments methods : Forest Node) (total : ℕ) : Type 0 where
  pub of_methods : List Site
  pub in_order : MethodSites ds 0 methods of_methods
  pub together : Together ds (indexed 65535 0 0 arguments ++ of_methods) total

-- So much comes of all that a book's actor offers, and nothing else.
pub record TotalOf (b : Book) (total : ℕ) : Type 0 where
  pub offers : (arguments : Forest Node) × (methods : Forest Node) × Interface (main_definitions b) (resolve_actor b) arguments methods
  pub exactly : {arguments methods : Forest Node} → Interface (main_definitions b) (resolve_actor b) arguments methods → (n : ℕ) →
      FromOffered (main_definitions b) arguments methods n ↔ (n ≡ total)

-- ---- What a caller has in hand

-- Told are how many numbers there are, and their sum. They stand at the front of the lent list, and the places beyond keep their contents.
abbrev pub CountsDelivered : (counts old new : List ℕ) → UseCountsAnswer → Type 0
CountsDelivered counts = InFront (Ok (record { listed = length counts; total = sum counts })) counts

-- 16 is told, with the numbers needed, and the lent list keeps its contents.
abbrev pub CountsKept : (needed : ℕ) → (old new : List ℕ) → UseCountsAnswer → Type 0
CountsKept needed = AsItWas (Err (Short needed))

-- The bytes are admitted as a book b that passes and has an actor.
pub record CountsSent (bytes : Source) (b : Book) : Type 0 where
  pub counts : List ℕ
  pub is-given : CountsGiven b counts
  pub total : TotalOf b (sum counts)
  -- 512 places are always enough
  pub few : length counts ≤ 512
  pub enough : {old new : List ℕ} {r : UseCountsAnswer} → UseCountsAs (on_bytes use_counts bytes) old new r → length counts ≤ length old → CountsDelivered counts old new r
  pub short : {old new : List ℕ} {r : UseCountsAnswer} → UseCountsAs (on_bytes use_counts bytes) old new r → length old < length counts → CountsKept (length counts) old new r
