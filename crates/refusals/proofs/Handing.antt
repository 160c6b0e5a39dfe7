-- What `?` hands on. Assumes nothing.
use mathlib.Core.Path.{◌≡◌, ap, ◌∙◌}
use Rattle.std.specs.Prelude.{Result, Err}
use Rattle.std.specs.Result.{IsErr, IsErrAnd}
use Rattle.std.proofs.lemmas.Result.{err_from_is_err_and}
use Rattle.refusals.specs.declared.Refusal.{Refusal}

-- A refusal is handed on as it is.
pub handed-on : {A : Type 0} (r : Result A Refusal) {e : Refusal} → IsErr r × IsErrAnd r (λ x. x ≡ e) → r ≡ Err e
handed-on r h = let handed = err_from_is_err_and r h.1 in handed.1 ∙ ap Err handed.2
