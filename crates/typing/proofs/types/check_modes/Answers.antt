-- `check_modes` meets its contract: by the first two digits. Assumes nothing.
use Rattle.typing.proofs.Modes.{no-mode, many-modes, other-mode, oneway-results, oneway-none}
use Rattle.typing.proofs.types.check_modes.Goals as goal
use Rattle.typing.proofs.types.check_modes.Goals.{else-first-2-via-then-first-2+else-value-kids, else-first-2-via-else-first-2}

pub returns-then-first : goal.returns-then-first
returns-then-first c = no-mode _ _ c.if-first.true

pub returns-then-modes : goal.returns-then-modes
returns-then-modes c = many-modes _ _ c.if-first.false c.if-modes.true

pub returns-then-value-kids : goal.returns-then-value-kids
returns-then-value-kids c = oneway-results _ _ c.if-first-2.true c.if-modes.false c.if-value-kids.true

pub returns : goal.returns
returns c = elim c.else-first-2.branch [
  | else-first-2-via-then-first-2+else-value-kids w ↦ oneway-none _ _ w.if-first-2.true c.if-modes.false w.if-value-kids.false
  | else-first-2-via-else-first-2 w ↦ other-mode _ _ c.if-first.false c.if-modes.false w.if-first-2.false
]
