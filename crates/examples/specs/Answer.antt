-- What is asked of bytes and what is answered, by the definitions that the contracts cite. Definitions; assumes nothing.
-- A name in an answer is its bytes, not its number, so that an answer reads as document 01 has it.
use Rattle.std.specs.Prelude.{List, map, ℕ}
use Rattle.labels.specs.Number.{label_number}
use Rattle.format.specs.Book.{Book}
use Rattle.refusals.specs.declared.Refusal.{Refusal}
use Rattle.std.specs.Prelude.{Ok, Err}
use Rattle.refusals.specs.Verdict.{Verdict}
use Rattle.refusals.specs.Refusal as refusals
use Rattle.format.specs.Layout.{name_in}
use Rattle.judgement.specs.Check.{check_bytes, init_check_bytes}
use Rattle.refusals.specs.Outcome.{Outcome, given}
use Rattle.refusals.specs.Outcome as outcomes
use Rattle.listing.specs.Marks.{marks_over}
use Rattle.format.specs.Within.{full}
use Rattle.format.specs.Admission.{◌under◌, on_bytes}
use Rattle.listing.specs.List as lists
use Rattle.listing.specs.Project as projection
use Rattle.listing.specs.Empty as empties

-- The hash is asked of a name's bytes, all others of a book's. Marks are those of the book's own list; names are asked for by
-- number. Limits are document 01's figures.
pub data Question : Type 0 where
  hash check init_check list marks emptiness : Question
  project : List ℕ → Question

-- A refusal has document 01's number and the name that it says.
pub data Answer : Type 0 where
  number : ℕ → Answer
  passes : Answer
  refused : (number : ℕ) (name : List ℕ) → Answer
  names : List (List ℕ) → Answer
  methods : (positions : List ℕ) → Answer

unfoldable pub refused_as : List ℕ → Refusal → Answer
refused_as bs r = refused (refusals.number_of r) (name_in bs (refusals.name_of r))

unfoldable pub of_verdict : List ℕ → Verdict → Answer
of_verdict bs (Ok tt) = passes
of_verdict bs (Err r) = refused_as bs r

unfoldable pub of_outcome : List ℕ → (List ℕ → Answer) → Outcome (List ℕ) → Answer
of_outcome bs say (outcomes.refused r) = refused_as bs r
of_outcome bs say (given l) = say l

unfoldable pub spelt : List ℕ → List ℕ → Answer
spelt bs l = names (map (name_in bs) l)

-- The marks over what was listed.
unfoldable pub list_marks : Book → Outcome (List ℕ) → Outcome (List ℕ)
list_marks b (outcomes.refused r) = outcomes.refused r
list_marks b (given l) = marks_over b l

unfoldable pub answer : Question → List ℕ → Answer
answer hash bs = number (label_number bs)
answer check bs = of_verdict bs (check_bytes (bs under full))
answer init_check bs = of_verdict bs (init_check_bytes (bs under full))
answer list bs = of_outcome bs (spelt bs) (on_bytes lists.list (bs under full))
answer marks bs = of_outcome bs (spelt bs) (on_bytes (λ b. list_marks b (lists.list b)) (bs under full))
answer emptiness bs = of_outcome bs (spelt bs) (on_bytes empties.emptiness (bs under full))
answer (project asked) bs = of_outcome bs methods (on_bytes (λ b. projection.project b asked) (bs under full))
