-- The projection to asked methods: `project_methods` of analysis.rs, where the asked list shrinks as methods take their names from it. The
-- question, what its positions are, and what is refused. Definitions; assumes nothing.
use Rattle.std.specs.Prelude.{◌≡◌, ◌↔◌, Bool, true, false, cond, ℕ, suc, ◌+◌, ◌-◌, ◌≤◌, ◌<◌, min, eqb, length, get_or, take}
use mathlib.Core.List.{List, [], ◌∷◌, map, Memᴰ}
use Rattle.refusals.specs.declared.Refusal.{Refusal}
use Rattle.refusals.specs.declared.Refusal.TheVariants.{Absent, Short, NoActor}
use Rattle.refusals.specs.Verdict.{passes, and_then}
use Rattle.refusals.specs.Outcome.{Outcome, refused, given, after}
use Rattle.format.specs.Forest.{Forest, end, tree}
use Rattle.format.specs.Node.{Node, label_value}
use Rattle.format.specs.Book.{Book}
use Rattle.format.specs.Distinct.{Ascends}
use Rattle.format.specs.Labels.{method_names}
use Rattle.judgement.specs.Environment.{main_definitions}
use Rattle.judgement.specs.Aliases.{alias_end, methods_at}
use Rattle.judgement.specs.Actor.{below_class}
use Rattle.judgement.specs.Resolve.{resolve_actor}
use Rattle.judgement.specs.Check.{member, check}
use Rattle.judgement.specs.Rows.{CheckRow, check_rows}
use Rattle.listing.specs.Offers.{Interface}
use Rattle.listing.specs.Room.{needs_actor, NoActorRow, ShortRow}

-- The list without its first n.
unfoldable pub without : ℕ → List ℕ → List ℕ
without n [] = []
without n (m ∷ l) = cond (eqb m n) l (m ∷ without n l)

-- The positions taken, from position i on, and the names left over.
pub record Projection : Type 0 where
  pub taken : List ℕ
  pub left : List ℕ

unfoldable pub take' : Bool → ℕ → Projection → Projection
take' true i p = record { taken = i ∷ p.taken; left = p.left }
take' false i p = p

unfoldable pub project_from : ℕ → Forest Node → List ℕ → Projection
project_from i end asked = record { taken = []; left = asked }
project_from i (tree n kids next) asked =
    let name = label_value n.label in
    take' (member name asked) i (project_from (suc i) next (cond (member name asked) (without name asked) asked))

-- The lowest of the names left over.
unfoldable pub lowest : ℕ → List ℕ → ℕ
lowest n [] = n
lowest n (m ∷ l) = lowest (min n m) l

-- 15: the lowest name left over.
unfoldable pub left_over : List ℕ → List ℕ → Outcome (List ℕ)
left_over [] taken = given taken
left_over (n ∷ l) taken = refused (Absent (lowest n l))

unfoldable pub projected : Projection → Outcome (List ℕ)
projected p = left_over p.left p.taken

unfoldable pub project : Book → List ℕ → Outcome (List ℕ)
project b asked =
    after (and_then (check b) (needs_actor (resolve_actor b)))
    (projected (project_from 0 (methods_at (alias_end (main_definitions b) (below_class (resolve_actor b)))) asked))

-- ---- What is given

-- 1 where two names are the same, else 0.
unfoldable pub one : ℕ → ℕ → ℕ
one n m = cond (eqb n m) 1 0

unfoldable pub times : ℕ → List ℕ → ℕ
times n [] = 0
times n (m ∷ l) = one n m + times n l

-- Two lists with the same names, each as often.
abbrev pub SameNames : List ℕ → List ℕ → Type 0
SameNames xs ys = (k : ℕ) → times k xs ≡ times k ys

-- Every name is asked for at most as often as it is there.
abbrev pub Enough : List ℕ → List ℕ → Type 0
Enough names asked = (n : ℕ) → times n asked ≤ times n names

-- The lowest name that is asked for more often than it is there.
pub record LowestAbsent (names asked : List ℕ) (n : ℕ) : Type 0 where
  pub short : times n names < times n asked
  pub least : (m : ℕ) → times m names < times m asked → n ≤ m

abbrev pub name_at : List ℕ → ℕ → ℕ
name_at names j = get_or names j 0

-- What is given, where the methods have these names: the positions, ascending, of the methods before which fewer have the same name than
-- it is asked for; so of each name as many as are asked for and there.
pub record Positions (names asked taken : List ℕ) : Type 0 where
  pub ascends : Ascends taken
  pub says : (j : ℕ) → Memᴰ j taken ↔ ((j < length names) × (times (name_at names j) (take j names) < times (name_at names j) asked))
  pub counts : (k : ℕ) → times k (map (name_at names) taken) ≡ min (times k asked) (times k names)

-- The positions of the methods taken.
abbrev pub PositionsOf : Book → List ℕ → List ℕ → Type 0
PositionsOf b asked l =
    (arguments methods : Forest Node) × Interface (main_definitions b) (resolve_actor b) arguments methods × Positions (method_names methods) asked l

-- ---- The same by whatever removal of a name from the asked ones

-- A removal takes one n out, and leaves the others in some order.
abbrev pub Removes : (ℕ → List ℕ → List ℕ) → Type 0
Removes remove = (n : ℕ) (l : List ℕ) → 0 < times n l → (k : ℕ) → times k (remove n l) ≡ times k l - one k n

unfoldable pub shrink : (ℕ → List ℕ → List ℕ) → ℕ → List ℕ → List ℕ
shrink remove n l = cond (member n l) (remove n l) l

-- Methods in order, each taking its name from the asked ones if that is there. `names` are the methods' names.
unfoldable pub project_by : (ℕ → List ℕ → List ℕ) → ℕ → List ℕ → List ℕ → Projection
project_by remove i [] asked = record { taken = []; left = asked }
project_by remove i (n ∷ names) asked = take' (member n asked) i (project_by remove (suc i) names (shrink remove n asked))

-- `swap_remove` of the Rust at the first n: the last of the list takes its place.
unfoldable pub last_of : ℕ → List ℕ → ℕ
last_of m [] = m
last_of m (k ∷ l) = last_of k l

unfoldable pub but_last : ℕ → List ℕ → List ℕ
but_last m [] = []
but_last m (k ∷ l) = m ∷ but_last k l

unfoldable pub last_first : List ℕ → List ℕ
last_first [] = []
last_first (m ∷ l) = last_of m l ∷ but_last m l

unfoldable pub swap_remove : ℕ → List ℕ → List ℕ
swap_remove n [] = []
swap_remove n (m ∷ l) = cond (eqb m n) (last_first l) (m ∷ swap_remove n l)

-- ---- What is refused

-- 15: the book passes, and the name is the lowest that is asked for more often than methods of the actor have it.
abbrev pub AbsentRow : Book → List ℕ → ℕ → Type 0
AbsentRow b asked n =
    (check b ≡ passes) × (arguments methods : Forest Node) × Interface (main_definitions b) (resolve_actor b) arguments methods × LowestAbsent (method_names methods) asked n

-- Its rows: those of the check, then 17, 15 and 16.
pub data ProjectRow (b : Book) (asked : List ℕ) (places : ℕ) : Refusal → Type 0 where
  checked : {r : Refusal} → CheckRow b r → ProjectRow b asked places r
  no_actor : NoActorRow b → ProjectRow b asked places NoActor
  absent : {n : ℕ} → AbsentRow b asked n → ProjectRow b asked places (Absent n)
  short : {k : ℕ} → ShortRow places (project b asked) (PositionsOf b asked) k → ProjectRow b asked places (Short k)

abbrev pub project_rows : List ℕ
project_rows = 15 ∷ 17 ∷ 16 ∷ check_rows
