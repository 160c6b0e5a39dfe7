-- Which methods change with some definitions: the methods with a use of any asked name, request 10 of document 02. The question; what its positions
-- are, by the answers to `uses` and by references; unions of answers; what a caller has in hand; what is refused. A class's arguments are no
-- method's, and the name of a method's own function is by itself no use. Definitions; assumes nothing.
use Rattle.std.specs.Prelude.{◌≡◌, ◌↔◌, ◌⊎◌, Bool, false, ◌||◌, ℕ, suc, ◌≤◌, ◌<◌, eqb, length}
use mathlib.Core.List.{List, [], ◌∷◌, Memᴰ}
use Rattle.refusals.specs.declared.Refusal.{Refusal}
use Rattle.refusals.specs.declared.Refusal.TheVariants.{Short, NoActor}
use Rattle.refusals.specs.Verdict.{and_then}
use Rattle.refusals.specs.Outcome.{Outcome, given, after}
use Rattle.refusals.specs.Handed.{Use, HandedAs}
use Rattle.format.specs.Forest.{Forest, end, tree, breadth}
use Rattle.format.specs.Node.{Node}
use Rattle.format.specs.Book.{Definition, Book}
use Rattle.format.specs.Distinct.{Ascends}
use Rattle.format.specs.Labels.{method_names}
use Rattle.format.specs.Admission.{on_bytes, Source}
use Rattle.judgement.specs.Environment.{main_definitions}
use Rattle.judgement.specs.Aliases.{alias_end, methods_at}
use Rattle.judgement.specs.Actor.{below_class}
use Rattle.judgement.specs.Resolve.{resolve_actor}
use Rattle.judgement.specs.Check.{check}
use Rattle.judgement.specs.Rows.{CheckRow, check_rows}
use Rattle.listing.specs.References.{Reachable}
use Rattle.listing.specs.Offers.{Function, Interface, tree_number}
use Rattle.listing.specs.Room.{needs_actor, NoActorRow, ShortRow}
use Rattle.listing.specs.Uses.{uses_of, uses, kept}
use Rattle.listing.specs.Demand3.{Delivers}

-- Whether one of these entries is of the method at position p.
unfoldable pub has_method : ℕ → List Use → Bool
has_method p [] = false
has_method p (u ∷ us) = eqb p u.method || has_method p us

-- Whether one is in the row of an asked name.
unfoldable pub any_uses : List Definition → Forest Node → List ℕ → ℕ → Bool
any_uses ds actor [] p = false
any_uses ds actor (n ∷ asked) p = has_method p (uses_of ds actor n) || any_uses ds actor asked p

-- The positions of methods, from position p on. A book's are below 4,096, so that the class's number is none of them.
unfoldable pub positions : ℕ → Forest Node → List ℕ
positions p end = []
positions p (tree n kids next) = p ∷ positions (suc p) next

-- Those of an actor's methods that have a use of an asked name.
unfoldable pub methods_using : List Definition → Forest Node → List ℕ → List ℕ
methods_using ds actor asked = kept (any_uses ds actor asked) (positions 0 (methods_at (alias_end ds (below_class actor))))

unfoldable pub methods : Book → List ℕ → Outcome (List ℕ)
methods b asked = after (and_then (check b) (needs_actor (resolve_actor b))) (given (methods_using (main_definitions b) (resolve_actor b) asked))

-- The names of an actor's methods, by their positions.
abbrev pub offered_names : Book → List ℕ
offered_names b = method_names (methods_at (alias_end (main_definitions b) (below_class (resolve_actor b))))

-- ---- What is given

-- By the answers to `uses`: the numbers, ascending, of the methods of which some asked name has an entry; 65,535 is the class's.
pub record MethodsGiven (b : Book) (asked l : List ℕ) : Type 0 where
  pub row : ℕ → List Use
  pub rows : (n : ℕ) → uses b n ≡ given (row n)
  pub ascends : Ascends l
  pub exactly : (p : ℕ) → Memᴰ p l ↔ ((p ≡ 65535 → ⊥) × (n : ℕ) × Memᴰ n asked × (u : Use) × Memᴰ u (row n) × (u.method ≡ p))

-- By references: the method at position p leads to a function, and from its arguments and results, which `kids` are, an asked name is reachable.
pub record Changes (ds : List Definition) (methods : Forest Node) (asked : List ℕ) (p : ℕ) : Type 0 where
  pub exists : p < breadth methods
  pub arguments : ℕ
  pub kids : Forest Node
  pub function : Function ds (tree_number p methods) arguments kids
  pub name : ℕ
  pub is-asked : Memᴰ name asked
  pub reached : Reachable ds kids name

-- Those that change, ascending.
pub record Changing (ds : List Definition) (methods : Forest Node) (asked l : List ℕ) : Type 0 where
  pub ascends : Ascends l
  pub exactly : (p : ℕ) → Memᴰ p l ↔ Changes ds methods asked p

-- Of the methods that the actor offers.
abbrev pub MethodsOf : Book → List ℕ → List ℕ → Type 0
MethodsOf b asked l =
    (arguments methods : Forest Node) × Interface (main_definitions b) (resolve_actor b) arguments methods × Changing (main_definitions b) methods asked l

-- ---- Unions

-- All of two lists, ascending.
pub record UnionOf (k l both : List ℕ) : Type 0 where
  pub ascends : Ascends both
  pub exactly : (p : ℕ) → Memᴰ p both ↔ (Memᴰ p k ⊎ Memᴰ p l)

-- All of the single answers, ascending.
pub record UnionOfSingle (b : Book) (asked l : List ℕ) : Type 0 where
  pub single : ℕ → List ℕ
  pub singles : (n : ℕ) → methods b (n ∷ []) ≡ given (single n)
  pub ascends : Ascends l
  pub exactly : (p : ℕ) → Memᴰ p l ↔ ((n : ℕ) × Memᴰ n asked × Memᴰ p (single n))

-- ---- What a caller has in hand: the bytes are admitted as a book b that passes and has an actor
pub record MethodsSent (bytes : Source) (b : Book) (asked : List ℕ) : Type 0 where
  pub positions : List ℕ
  pub is-given : MethodsGiven b asked positions
  -- 4,096 places are always enough, and so are as many as there are methods
  pub few : length positions ≤ 4096
  pub fewer : {arguments methods : Forest Node} → Interface (main_definitions b) (resolve_actor b) arguments methods → length positions ≤ breadth methods
  pub sent : Delivers (HandedAs (on_bytes (λ c. methods c asked) bytes)) (length positions) positions

-- ---- What is refused

-- Its rows: those of the check, then 17 and 16.
pub data MethodsRow (b : Book) (asked : List ℕ) (places : ℕ) : Refusal → Type 0 where
  checked : {r : Refusal} → CheckRow b r → MethodsRow b asked places r
  no_actor : NoActorRow b → MethodsRow b asked places NoActor
  short : {k : ℕ} → ShortRow places (methods b asked) (MethodsOf b asked) k → MethodsRow b asked places (Short k)

abbrev pub methods_rows : List ℕ
methods_rows = 17 ∷ 16 ∷ check_rows
