-- The proof of the cycle of calls {check_type, check_types}. Trees beside each other weigh two for each node and one more, a type two for each
-- node: so every call weighs less. Assumes nothing.
use mathlib.Core.Path.{refl, sym, ap, ◌∙◌}
use mathlib.Core.Bool.{or-true}
use native.Mathlib.Omega.{arith}
use lib.Dec.{eqb→eq}
use Rattle.format.specs.Encode.{Row}
use Rattle.refusals.proofs.Handing.{handed-on}
use Rattle.typing.proofs.Walk.{walk-end, walk-stop, walk-method, walk-on, next-label}
use Rattle.typing.proofs.Nodes.{kids-in, kind-few, at-prim, at-var, at-class, kids-stop, kids-modes, kids-end}
use Rattle.typing.proofs.types.Walk.+types.Goals as goal
use Rattle.typing.proofs.types.Walk.+types.Goals.{check_types-else-methods-via-then-methods+else-not-method_fits, check_types-else-methods-via-else-methods}

pub check_type-returns-then-t : goal.check_type-returns-then-t
check_type-returns-then-t t c = λ ds e. at-prim _ ds _ _ _ c.at-t.ensures c.if-t.true

pub check_type-returns-then-t-2 : goal.check_type-returns-then-t-2
check_type-returns-then-t-2 t c = λ ds e. c.check_var.ensures ∙ at-var _ ds _ _ _ c.at-t.ensures _ e.binds c.if-t-2.true

pub check_type-returns-then-t-3 : goal.check_type-returns-then-t-3
check_type-returns-then-t-3 t c = λ ds e. at-class _ ds _ _ _ c.at-t.ensures c.if-t-3.true

pub check_type-check_types-requires : goal.check_type-check_types-requires
check_type-check_types-requires t c =
    let s = ap (λ (q : Row). q.size) c.at-t.ensures in
    (omega (arith, s, (c.args.self.now.env.trees.nodes.tree _ c.requires).whole.one), rw s (kids-in c.requires _ (λ m. sym (ap (λ (q : Row). q.kind) c.at-t.ensures) ∙ eqb→eq _ _ (rw m tt))))

pub check_type-returns-in_err-kids : goal.check_type-returns-in_err-kids
check_type-returns-in_err-kids t c =
    rw (handed-on c.from_residual.result c.from_residual.ensures)
    (λ ds e. kids-stop _ ds _ _ _ c.at-t.ensures (kind-few c.args.self.now c.requires c.at-t.ensures) c.if-t.false c.if-t-2.false c.if-t-3.false (c.check_types.ensures ds e) c.in_err-kids.was)

pub check_type-returns-then-t-4 : goal.check_type-returns-then-t-4
check_type-returns-then-t-4 t c =
    λ ds e. kids-modes _ ds _ _ _ c.at-t.ensures (kind-few c.args.self.now c.requires c.at-t.ensures) c.if-t.false c.if-t-2.false c.if-t-3.false (c.check_types.ensures ds e) c.in_ok-kids.was
    c.if-t-4.true c.check_modes.ensures

pub check_type-returns : goal.check_type-returns
check_type-returns t c =
    λ ds e. kids-end _ ds _ _ _ c.at-t.ensures (kind-few c.args.self.now c.requires c.at-t.ensures) c.if-t.false c.if-t-2.false c.if-t-3.false (c.check_types.ensures ds e) c.in_ok-kids.was
    c.if-t-4.false

pub check_types-returns-in_err-check_type : goal.check_types-returns-in_err-check_type
check_types-returns-in_err-check_type t c = rw (handed-on c.from_residual.result c.from_residual.ensures) (walk-stop c.loop-n.invariant c.in-Some.ensures.steps _ c.in_err-check_type.ensures)

pub check_types-overflow_cast-result : goal.check_types-overflow_cast-result
check_types-overflow_cast-result t c = omega (arith, next-label c.loop-n.invariant c.in-Some.ensures.steps c.if-methods.true)

pub check_types-returns-then-not-method_fits : goal.check_types-returns-then-not-method_fits
check_types-returns-then-not-method_fits t c =
    walk-method c.loop-n.invariant c.in-Some.ensures.steps c.in_ok-check_type.ensures c.method_fits.ensures c.if-methods.true c.if-not-method_fits.true

pub check_types-loop-n-preserved : goal.check_types-loop-n-preserved
check_types-loop-n-preserved t c =
    elim c.else-methods.branch [
      | check_types-else-methods-via-then-methods+else-not-method_fits w ↦ walk-on c.loop-n.invariant c.in-Some.ensures.steps c.in_ok-check_type.ensures w.method_fits.ensures (rw w.if-not-method_fits.false (or-true _))
      | check_types-else-methods-via-else-methods w ↦ walk-on c.loop-n.invariant c.in-Some.ensures.steps c.in_ok-check_type.ensures refl (rw w.if-methods.false refl)
    ]

pub check_types-returns : goal.check_types-returns
check_types-returns t c = walk-end c.loop-n.invariant c.in-None.ensures.steps
