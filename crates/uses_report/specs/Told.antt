-- How the program has a report at hand before it prints it. Definitions; assumes nothing.
use Rattle.std.specs.Prelude.{◌≡◌, List, ℕ, ◌≤◌, length, take, sum, Ok, Err, IfOk}
use Rattle.std.specs.List.{zip}
use Rattle.refusals.specs.Outcome.{Outcome, refused, given}
use Rattle.refusals.specs.Handed.{UseCountsAnswer}
use Rattle.uses_report.specs.Printed.{Entry}

-- Names in one list and numbers in another, so many of each; and their sum.
abbrev pub told : UseCountsAnswer → (names counts : List ℕ) → Outcome (List Entry)
told (Err r) names counts = refused r
told (Ok u) names counts = given (zip (take u.listed names) (take u.listed counts))

pub record ReportAs (o : Outcome (List Entry)) (names counts : List ℕ) (r : UseCountsAnswer) : Type 0 where
  pub is : o ≡ told r names counts
  pub sum-is : IfOk r (λ u. u.total ≡ sum (take u.listed counts))
  pub within : IfOk r (λ u. (u.listed ≤ length names) × (u.listed ≤ length counts))
