-- The init list: what is reachable from the init arguments, in the merged definitions. The question, what it answers in demand 3's words,
-- and what it refuses. Definitions;
-- assumes nothing.
use Rattle.std.specs.Prelude.{◌⊎◌, List, ◌∷◌, ℕ, ◌≤◌, length}
use Rattle.refusals.specs.declared.Refusal.{Refusal}
use Rattle.refusals.specs.declared.Refusal.TheVariants.{Short}
use Rattle.refusals.specs.Outcome.{Outcome, after}
use Rattle.format.specs.Book.{Book}
use Rattle.judgement.specs.Environment.{main_definitions, init_definitions, merge_definitions, kids_of}
use Rattle.judgement.specs.Check.{init_check}
use Rattle.judgement.specs.Actor.{init_tree}
use Rattle.judgement.specs.Rows.{CheckRow, InitRow, check_rows}
use Rattle.listing.specs.Chase.{chase_types, walked}
use Rattle.listing.specs.References.{Reachable}
use Rattle.listing.specs.Room.{ShortRow, EachOnce}
use Rattle.listing.specs.Demand3.{Gives, Lists}

unfoldable pub init_list : Book → Outcome (List ℕ)
init_list b =
    after (init_check b)
    (walked (chase_types (merge_definitions (init_definitions b) (main_definitions b)) (kids_of (init_tree b.files))))

-- What is answered of a book that passes the init check: never refused in places enough, and of what the init arguments reach.
pub record InitAnswers (b : Book) (answer : Outcome (List ℕ)) : Type 0 where
  pub listed : List ℕ
  pub list_given : Gives answer listed
  pub lists : Lists (merge_definitions (init_definitions b) (main_definitions b)) (kids_of (init_tree b.files)) listed
  -- a length that is always enough
  pub list_enough : length listed ≤ 512

-- Its rows: those of the init check, then 16.
pub data InitListRow (b : Book) (places : ℕ) : Refusal → Type 0 where
  checked : {r : Refusal} → CheckRow b r ⊎ InitRow b r → InitListRow b places r
  short : {k : ℕ} →
      ShortRow places (init_list b) (EachOnce (Reachable (merge_definitions (init_definitions b) (main_definitions b)) (kids_of (init_tree b.files)))) k →
      InitListRow b places (Short k)

abbrev pub init_list_rows : List ℕ
init_list_rows = 16 ∷ 11 ∷ check_rows
