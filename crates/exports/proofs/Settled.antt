-- Two books whose checks, or init checks, are read alike in a number have the same verdict: no check is refused with row 16. Assumes nothing.
use mathlib.Core.Path.{◌≡◌, refl, sym, subst}
use mathlib.Core.Bool.{false}
use mathlib.Core.List.Memᴰ
use mathlib.Core.List.{List, ◌∷◌, ◌++◌, Memᴰ}
use Prim.Native.Nat.{ℕ}
use lib.Dec.{T}
use Rattle.refusals.specs.declared.Refusal.{Refusal}
use Rattle.refusals.specs.Refusal.{number_of}
use Rattle.format.specs.Admission.{Source, admission_rows}
use Rattle.judgement.specs.Check.{member, check_bytes, init_check_bytes}
use Rattle.judgement.specs.Rows.{check_rows}
use Rattle.judgement.proofs.Lookup.{member-says}
use Rattle.judgement.proofs.Rows.{check-bytes-numbers, init-check-bytes-numbers}
use Rattle.codes.specs.Coded.{ReadVerdict}
use Rattle.codes.proofs.Read.{verdict-settled}

not-short : (rows : List ℕ) → member 16 rows ≡ false → (r : Refusal) → Memᴰ (number_of r) rows → number_of r ≡ 16 → ⊥
not-short rows h r m e = subst T h ((member-says 16 rows).1 (Memᴰ.cast (sym e) m))

pub check-settled : (bs cs : Source) (code : ℕ) → ReadVerdict (check_bytes bs) code → ReadVerdict (check_bytes cs) code → check_bytes bs ≡ check_bytes cs
unfolding member
check-settled bs cs code =
    verdict-settled (check_bytes bs) (check_bytes cs) code (λ r e. not-short (admission_rows ++ check_rows) refl r (check-bytes-numbers bs e))

pub init-check-settled : (bs cs : Source) (code : ℕ) → ReadVerdict (init_check_bytes bs) code → ReadVerdict (init_check_bytes cs) code → init_check_bytes bs ≡ init_check_bytes cs
unfolding member
init-check-settled bs cs code =
    verdict-settled (init_check_bytes bs) (init_check_bytes cs) code
    (λ r e. not-short (admission_rows ++ 11 ∷ check_rows) refl r (init-check-bytes-numbers bs e))
