-- `Scope::step` meets its contract. Assumes nothing.
use mathlib.Core.Path.{sym, ◌∙◌}
use Rattle.environment.proofs.Links.{link-none, link-some}
use Rattle.environment.proofs.scope.Scope.step.Goals as goal

pub returns-in_err-root : goal.returns-in_err-root
returns-in_err-root c = rw c.from_residual.ensures (sym (link-none _ _ c.in_err-root.ensures.none))

pub returns : goal.returns
returns c =
    let r = c.in_ok-root.ensures.some in
    rw (c.var_at-next.ensures, r.0) (sym (link-some _ _ (λ e. r.1 (r.0 ∙ e))))
