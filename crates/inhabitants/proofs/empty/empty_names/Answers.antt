-- `empty_names` meets its contract: a flag for each name. Assumes nothing.
use mathlib.Core.Path.{◌≡◌, refl, ap, ◌∙◌}
use mathlib.Core.Bool.{Bool, true, false, cond, not}
use native.Mathlib.Omega.{arith}
use lib.Dec.{eqb}
use lib.ListN.{get_or}
use mir.Val.{bool_byte}
use Rattle.inhabitants.proofs.empty.Names.{flags-start, flags-none, flags-some, flags-end}
use Rattle.inhabitants.proofs.empty.empty_names.Goals as goal
use Rattle.inhabitants.proofs.empty.empty_names.Goals.{in-Some, in_default}

other : (b : Bool) → bool_byte (not b) ≡ cond b 0 1
other true = refl
other false = refl

pub loop-n-init : goal.loop-n-init
loop-n-init c = flags-start c.args.scope c.fill.new.filling

pub loop-n-preserved : goal.loop-n-preserved
loop-n-preserved c =
    elim c.match-root_of.branch [
      | in-Some w ↦ rw w.flags-is (flags-some c.loop-n.invariant (omega (arith, c.loop-n-test.true, c.args.scope.whole.few_names)) w.in-Some.ensures.some.0 w.in-Some.ensures.some.1
          (ap (λ (b : Bool). bool_byte (not b)) w.settled.ensures ∙ other (eqb (get_or c.fill.new.filling.left w.in-Some.root 0) 0)))
      | in_default w ↦ rw w.flags-is (flags-none c.loop-n.invariant w.in_default.ensures.none)
    ]

pub returns : goal.returns
returns c = flags-end c.fill.ensures c.loop-n.invariant (omega (arith, c.loop-n-test.false))
