-- From the marks that the code holds to the question's answer: what callers cite. Assumes nothing.
use mathlib.Core.Path.{◌≡◌, sym, ap}
use Prim.Native.Nat.{ℕ, ◌≤◌}
use native.Mathlib.Omega.{arith}
use Rattle.std.proofs.Common.{length, Ok, Err}
use Rattle.refusals.specs.declared.Refusal.{Refusal}
use Rattle.book.specs.Tables.{flagged}
use Rattle.listing.specs.Recursive.{marking, unbound}
use Rattle.listing.specs.Recursive as listing
use Rattle.refusals.specs.Outcome.{refused, given}
use Rattle.listing.specs.Marks.{marked}
use Rattle.analysis.specs.declared.recursive.Marks.{Marks}
use Rattle.analysis.specs.Marking.{MarksHold}
use Rattle.analysis.proofs.hand.Flags.{flags-ascending}

-- Stopped at a listed name without definition: 3.
pub marked-stopped : (names : ℕ) (s : listing.Marks) (why : Refusal) → MarksHold s (Err why) → marked names s ≡ refused why
unfolding marked
marked-stopped names (marking seen set) why h = absurd h
marked-stopped names (unbound n) why h = ap refused (sym h)

-- Not stopped: the marked names, ascending.
pub marked-given : (names : ℕ) (s : listing.Marks) (r : Marks) → MarksHold s (Ok r) → names ≤ 1024 →
    marked names s ≡ given (flagged r.marked 0 names)
unfolding marked
marked-given names (marking seen set) r h few = ap given (sym (flags-ascending r.marked set h.marked-are 0 names (omega arith)))
marked-given names (unbound n) r h few = absurd h

-- The flags of the marked names are as long as the table.
pub marked-long : (s : listing.Marks) (r : Marks) → MarksHold s (Ok r) → length r.marked ≡ 1024
marked-long (marking seen set) r h = h.long
marked-long (unbound n) r h = absurd h
