-- The draft list: of the main file alone, unchecked. The question, what it refuses and in which order, and the rows of its refusals.
-- Definitions; assumes nothing.
use Rattle.std.specs.Prelude.{◌≡◌, List, [], ◌∷◌, map, ℕ, eqb}
use Rattle.refusals.specs.declared.Refusal.{Refusal}
use Rattle.refusals.specs.declared.Refusal.TheVariants.{Twice, Unbound, Short, NoActor}
use Rattle.refusals.specs.Verdict.{and_then}
use Rattle.refusals.specs.Outcome.{Outcome, after}
use Rattle.format.specs.Forest.{end}
use Rattle.format.specs.Book.{Definition, Book}
use Rattle.format.specs.References.{references}
use Rattle.format.specs.Distinct.{Distinct, FirstRepeat}
use Rattle.judgement.specs.Environment.{keep}
use Rattle.judgement.specs.Actor.{main_actor}
use Rattle.judgement.specs.Check.{once_verdict}
use Rattle.judgement.specs.WellFormed.{defined_name, Defined}
use Rattle.judgement.specs.Rows.{StandsTwice}
use Rattle.listing.specs.Chase.{chase_types, walked}
use Rattle.listing.specs.References.{Reachable, Misses}
use Rattle.listing.specs.Room.{needs_actor, ShortRow, EachOnce}

unfoldable pub draft_definitions : Book → List Definition
draft_definitions b = keep (λ d. eqb d.file 0) b.definitions

unfoldable pub draft_list : Book → Outcome (List ℕ)
draft_list b =
    after (and_then (needs_actor (main_actor b)) (once_verdict [] (draft_definitions b)))
    (walked (chase_types (draft_definitions b) (main_actor b)))

-- What is refused before 16, in document 01's order and with the name told: 17; then 2, of the first name that is defined again; then 3, of
-- the first name without definition that is met in the walk. Each says that those before it have nothing to refuse.
pub data DraftRefuses (b : Book) : Refusal → Type 0 where
  lacks_actor : main_actor b ≡ end → DraftRefuses b NoActor
  defines_again : {d : Definition} → (main_actor b ≡ end → ⊥) → FirstRepeat defined_name (draft_definitions b) d → DraftRefuses b (Twice d.name)
  misses_name : {n : ℕ} → (main_actor b ≡ end → ⊥) → Distinct (map defined_name (draft_definitions b)) →
      Misses (draft_definitions b) (references (main_actor b)) [] [] n → DraftRefuses b (Unbound n)

-- Its rows: 17 of main's actor as written, 2, 3 of a reachable name, and 16.
pub data DraftRow (b : Book) (places : ℕ) : Refusal → Type 0 where
  no_actor : main_actor b ≡ end → DraftRow b places NoActor
  twice : {n : ℕ} → StandsTwice n (map defined_name (draft_definitions b)) → DraftRow b places (Twice n)
  unbound : {n : ℕ} → Reachable (draft_definitions b) (main_actor b) n × (Defined (draft_definitions b) n → ⊥) → DraftRow b places (Unbound n)
  short : {k : ℕ} → ShortRow places (draft_list b) (EachOnce (Reachable (draft_definitions b) (main_actor b))) k → DraftRow b places (Short k)

abbrev pub draft_rows : List ℕ
draft_rows = 2 ∷ 3 ∷ 16 ∷ 17 ∷ []
