-- The asked names of a projection, and the positions that are written, as the code has them. Definitions; assumes nothing.
use Rattle.std.specs.Prelude.{◌≡◌, cond, Option, Some, None, MatchOption, List, filter, nat_le, [], ◌∷◌, ℕ, suc, ◌+◌, ◌≤◌, ◌<◌, ltb, length, get_or, set}
use Rattle.std.specs.List.{All, Contains}
use Rattle.format.specs.Forest.{Forest, end, beside}
use Rattle.format.specs.Node.{Node}
use Rattle.refusals.specs.declared.Refusal as refusal
use Rattle.judgement.specs.Check.{member}
use Rattle.environment.specs.Trees.{AllTrees}
use Rattle.syntax.specs.Interfaces.{IsService}
use Rattle.listing.specs.Project.{times, without, Projection, project_from}
use Rattle.refusals.specs.Outcome.{Outcome, refused, given}
use Rattle.analysis.specs.declared.places.Places.{Places}
use Rattle.analysis.specs.declared.project.Taking.{Taking}

-- ---- The names still asked for

-- The lowest number of a list from 1,024 on, which is no name of any book, where it has one.
abbrev pub FarthestAs : Option ℕ → List ℕ → Type 0
FarthestAs None l = (n : ℕ) → 1024 ≤ n → 0 < times n l → ⊥
FarthestAs (Some f) l = (1024 ≤ f) × (0 < times f l) × ((n : ℕ) → 1024 ≤ n → 0 < times n l → f ≤ n)

-- The same by the list of such numbers.
abbrev pub far_numbers : List ℕ → List ℕ
far_numbers l = filter (λ n. nat_le 1024 n) l

abbrev pub LowestFar : Option ℕ → List ℕ → Type 0
LowestFar r l = MatchOption r (length (far_numbers l) ≡ 0) (λ f. Contains (far_numbers l) f × All (λ n. f ≤ n) (far_numbers l))

-- How often each number below 1,024 is asked for, and the lowest other one.
pub record Asking (left : List ℕ) (far : Option ℕ) (l : List ℕ) : Type 0 where
  pub counted : (n : ℕ) → n < 1024 → get_or left n 0 ≡ times n l
  pub farthest : FarthestAs far l

-- The counts are those of some list of asked numbers.
pub record AskedBy (left : List ℕ) : Type 0 where
  pub far : Option ℕ
  pub list : List ℕ
  pub asking : Asking left far list

-- The lowest number still asked for, as an outcome: the positions taken, where nothing is.
abbrev pub outcome_of : Option ℕ → List ℕ → Outcome (List ℕ)
outcome_of None taken = given taken
outcome_of (Some r) taken = refused (refusal.Refusal.Absent r)

-- The first name that is still asked for, where there is one.
abbrev pub FirstLeft : List ℕ → Option ℕ → Type 0
FirstLeft left r =
    MatchOption r ((m : ℕ) → m < 1024 → get_or left m 0 ≡ 0)
    (λ n. (n < 1024) × (get_or left n 0 ≡ 0 → ⊥) × ((m : ℕ) → m < n → get_or left m 0 ≡ 0))

-- ---- The positions that are written

-- One number at place k, where there is that place; a list of numbers from place k on.
unfoldable pub place_at : ℕ → ℕ → ℕ → List ℕ → List ℕ
place_at places k x old = cond (ltb k places) (set old k x) old

unfoldable pub place_all : ℕ → ℕ → List ℕ → List ℕ → List ℕ
place_all places k [] old = old
place_all places k (x ∷ l) old = place_all places (suc k) l (place_at places k x old)

-- ---- Projection on its way: the next position, the positions taken so far, the names left and the places
pub record Underway : Type 0 where
  pub at : ℕ
  pub taken : ℕ
  pub left : List ℕ
  pub out : List ℕ

-- Where it comes to with these positions and names left over.
pub record Come : Type 0 where
  pub taken : ℕ
  pub out : List ℕ
  pub left : List ℕ

unfoldable pub comes_to : ℕ → Underway → Projection → Come
comes_to places w p = record { taken = w.taken + length p.taken; out = place_all places w.taken p.taken w.out; left = p.left }

-- As the code has it.
abbrev pub way : Taking → Places → Underway
way p t = record { at = p.at; taken = t.count; left = p.left.now; out = t.out.now }

-- From w with the methods f it comes to the same as from v with the methods e, whatever methods follow: l are the names left at v.
pub record Same (places : ℕ) (far : Option ℕ) (f : Forest Node) (w : Underway) (e : Forest Node) (v : Underway) (l : List ℕ) : Type 0 where
  pub names : List ℕ
  pub asking : Asking w.left far names
  pub same : (g : Forest Node) → comes_to places w (project_from w.at (beside f g) names) ≡ comes_to places v (project_from v.at (beside e g) l)

abbrev pub Projects : ℕ → Forest Node → Underway → Forest Node → Underway → Type 0
Projects places f w e v = (far : Option ℕ) (l : List ℕ) → Asking v.left far l → Same places far f w e v l

-- The room that a walk over so many nodes asks for: positions are below 65,536.
pub record Room (nodes : ℕ) (w : Underway) : Type 0 where
  pub few : w.at + nodes ≤ 65536
  pub fewer : w.taken ≤ w.at
  pub names : length w.left ≡ 1024
  pub asked : AskedBy w.left

-- From v to w over the method at the next position, with name n.
pub record MethodTaken (n : ℕ) (v w : Underway) : Type 0 where
  pub next : w.at ≡ v.at + 1
  pub more : w.taken ≤ v.taken + 1
  pub kept : length w.left ≡ length v.left
  pub held : length w.out ≡ length v.out
  pub asking : (far : Option ℕ) (l : List ℕ) → Asking v.left far l → Asking w.left far (cond (member n l) (without n l) l)
  pub counts : (far : Option ℕ) (l : List ℕ) → Asking v.left far l → w.taken ≡ cond (member n l) (v.taken + 1) v.taken
  pub placed : (far : Option ℕ) (l : List ℕ) → Asking v.left far l → w.out ≡ cond (member n l) (place_at (length v.out) v.taken v.at v.out) v.out

-- From v to w over the methods f, which have so many nodes.
pub record MethodsTaken (nodes : ℕ) (f : Forest Node) (v w : Underway) : Type 0 where
  pub near : w.at ≤ v.at + nodes
  pub fewer : w.taken ≤ w.at
  pub kept : length w.left ≡ length v.left
  pub held : length w.out ≡ length v.out
  pub goes : Projects (length v.out) end w f v

-- Services of a book.
pub record Services (ns services : List ℕ) : Type 0 where
  pub names : ℕ
  pub nodes : ℕ
  pub all : AllTrees ns names nodes
  pub few : length services ≤ 16
  pub service : (k : ℕ) → k < length services → IsService ns nodes (get_or services k 0)

-- All methods f are projected to the asked names l: what is left over, how many positions are taken, and those written that have a place.
pub record ProjectedAs (f : Forest Node) (far : Option ℕ) (l : List ℕ) (out left' out' : List ℕ) (taken : ℕ) : Type 0 where
  pub asking : Asking left' far (project_from 0 f l).left
  pub counts : taken ≡ length (project_from 0 f l).taken
  pub written : out' ≡ place_all (length out) 0 (project_from 0 f l).taken out

pub record AllProjected (f : Forest Node) (left out left' out' : List ℕ) (taken : ℕ) : Type 0 where
  pub few : taken ≤ 65536
  pub is : (far : Option ℕ) (l : List ℕ) → Asking left far l → ProjectedAs f far l out left' out' taken
