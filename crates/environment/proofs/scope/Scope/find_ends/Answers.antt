-- `Scope::find_ends` meets its contract. Assumes nothing.
use Rattle.environment.proofs.BlankTable.{zero-filled}
use Rattle.environment.proofs.Ends.{ends-start, ends-end, ends-circle, ends-on}
use Rattle.environment.proofs.scope.Scope.find_ends.Goals as goal

pub loop-n-init : goal.loop-n-init
loop-n-init c = ends-start _ _ _ _ _ _ c.open_ends.ensures

pub returns-in_default : goal.returns-in_default
returns-in_default c =
    let l = c.loop-n.invariant in
    ends-circle c.args.self.whole.few_names l c.loop-n-test.true c.in_default.ensures (zero-filled l.table.long (c.fill.ensures.after (λ y e. e)))

pub loop-n-preserved : goal.loop-n-preserved
loop-n-preserved c = ends-on c.args.self.whole.few_names c.loop-n.invariant c.loop-n-test.true c.in-Some.ensures.known _ c.note.ensures

pub returns : goal.returns
returns c = ends-end c.args.self.whole.few_names c.loop-n.invariant c.loop-n-test.false
