-- `capped` meets its contract. Assumes nothing.
use mathlib.Core.Path.{sym}
use Rattle.listing.proofs.Capped.{capped-small, capped-many}
use Rattle.inhabitants.proofs.counting.capped.Goals as goal

pub returns-then-n-lt-MANY : goal.returns-then-n-lt-MANY
returns-then-n-lt-MANY c = sym (capped-small c.args.n c.if-n-lt-MANY.true)

pub returns-else-n-lt-MANY : goal.returns-else-n-lt-MANY
returns-else-n-lt-MANY c = sym (capped-many c.args.n c.if-n-lt-MANY.false)
