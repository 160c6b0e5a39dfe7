-- Verdicts, and the order of refusals: the first of two that refuses. Definitions; assumes nothing.
use Rattle.std.specs.Prelude.{⊤, Bool, true, false, cond, Result, Ok, Err}
use Rattle.refusals.specs.declared.Refusal.{Refusal}

-- What a check finds: it goes on, or why the book is refused.
abbrev pub Verdict : Type 0
Verdict = Result ⊤ Refusal

abbrev pub passes : Verdict
passes = Ok tt

-- The verdict of what hands on a value where it refuses nothing.
abbrev pub verdict_of : {A : Type 0} → Result A Refusal → Verdict
verdict_of (Ok a) = passes
verdict_of (Err r) = Err r

-- A verdict that lets a check go on.
abbrev pub is_passed : Verdict → Bool
is_passed (Ok tt) = true
is_passed (Err r) = false

-- The first of two verdicts, unless it passes.
abbrev pub and_then : Verdict → Verdict → Verdict
and_then v w = cond (is_passed v) w v

-- A refusal, unless a test is passed.
abbrev pub unless : Bool → Refusal → Verdict
unless test r = cond test passes (Err r)
