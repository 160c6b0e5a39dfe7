-- `hand_uses` meets its contract: what is counted into no places leaves the lent list as it was. Assumes nothing.
use Rattle.passed.proofs.uses.Laws.{hands-short, hands-given}
use Rattle.passed.proofs.uses.hand_uses.Goals as goal

pub returns-then-out-needed : goal.returns-then-out-needed
returns-then-out-needed c = record { handed = λ x. hands-short (c.put_uses-needed.ensures.puts x) c.if-out-needed.true }

pub returns : goal.returns
returns c = record { handed = λ x. hands-given (c.put_uses-needed.ensures.puts x) c.if-out-needed.false (c.put_uses.ensures.puts x) }
