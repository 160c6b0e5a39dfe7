-- `Taking::take` meets its contract. Assumes nothing.
use mathlib.Core.Path.{◌∙◌}
use Rattle.analysis.specs.Projecting.{way}
use Rattle.analysis.proofs.project.Laws.{place-stored, method-left, method-taken}
use Rattle.analysis.proofs.project.Taking.take.Goals as goal
use Rattle.analysis.proofs.project.Taking.take.Goals.{then-self-n-ne0, else-self-n-ne0}

pub returns-clause-taken : goal.returns-clause-taken
returns-clause-taken c =
    let self = c.args.self.now in
    let taken = c.args.taken.now in
    let v = way self taken in
    let r = c.requires in
    elim c.if-self-n-ne0.branch [
      | then-self-n-ne0 w ↦ rw (w.self-is, w.taken-is, w.put.ensures.count) (method-taken v r.0 r.1 w.if-self-n-ne0.true (w.put.ensures.put ∙ place-stored taken.count self.at taken.out.now))
      | else-self-n-ne0 w ↦ rw (w.self-is, w.taken-is) (method-left v r.0 r.1 w.if-self-n-ne0.false)
    ]
