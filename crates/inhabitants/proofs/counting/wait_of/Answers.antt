-- `wait_of` meets its contract. Assumes nothing.
use mathlib.Core.Path.{sym, ap, ◌∙◌}
use mathlib.Core.Logic.{inl, inr}
use Rattle.format.specs.Encode.{Row}
use Rattle.inhabitants.proofs.counting.Waits.{wait-none, wait-by, after-name, after-parts, after-none}
use Rattle.inhabitants.proofs.counting.wait_of.Goals as goal

pub returns-then-not-settled : goal.returns-then-not-settled
returns-then-not-settled c = sym (wait-none c.args.filling.now.left c.args.scope.rows.now c.args.n (sym c.if-not-settled.ensures))

pub returns-then-kind : goal.returns-then-kind
returns-then-kind c =
    let k = ap (λ (r : Row). r.kind) (sym c.at-kind.ensures) ∙ c.if-kind.true in
    sym (wait-by c.args.filling.now.left c.args.scope.rows.now c.args.n (sym c.if-not-settled.ensures) ∙ after-name k)

pub returns-then-kind-2 : goal.returns-then-kind-2
returns-then-kind-2 c =
    let k = ap (λ (r : Row). r.kind) (sym c.at-kind.ensures) in
    sym (wait-by c.args.filling.now.left c.args.scope.rows.now c.args.n (sym c.if-not-settled.ensures)
    ∙ after-parts (elim c.then-kind-2.either [ inl e ↦ inl (k ∙ e) | inr f ↦ elim f [ inl e ↦ inr (inl (k ∙ e.1)) | inr e ↦ inr (inr (k ∙ e.2)) ] ]))

pub returns : goal.returns
returns c =
    let k = ap (λ (r : Row). r.kind) c.at-kind.ensures in
    sym (wait-by c.args.filling.now.left c.args.scope.rows.now c.args.n (sym c.if-not-settled.ensures)
    ∙ after-none (λ e. c.if-kind.false (k ∙ e)) (λ p. elim p [ inl e ↦ c.if-kind-2.false (k ∙ e) | inr q ↦ elim q [ inl e ↦ c.if-kind-3.false (k ∙ e) | inr e ↦ c.if-kind-4.false (k ∙ e) ] ]))
