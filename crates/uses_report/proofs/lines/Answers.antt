-- `lines` meets its contract: the lines of the names so far are laid. Assumes nothing.
use mathlib.Core.Logic.{inl, inr}
use Rattle.std.proofs.Common.{rules}
use Rattle.uses_report.proofs.Listed.{lines-start, lines-on, lines-end}
use Rattle.uses_report.proofs.lines.Goals as goal

pub loop-name-init : goal.loop-name-init
loop-name-init c = lines-start _ search rules search rules

pub loop-name-preserved : goal.loop-name-preserved
loop-name-preserved c =
    let s = c.in-Some.ensures.steps in lines-on _ c.loop-name.invariant s.0 s.1 (rw c.name.ensures at c.line.ensures)

pub returns : goal.returns
returns c = lines-end _ c.loop-name.invariant (elim c.in-None.ensures.steps [ inl x ↦ inl x.1.0 | inr x ↦ inr x.1.0 ])
