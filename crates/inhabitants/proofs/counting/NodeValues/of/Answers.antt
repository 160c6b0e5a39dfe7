-- `NodeValues::of` meets its contract. Assumes nothing.
use mathlib.Core.Path.{refl}
use lib.ListN.{get_or}
use native.Mathlib.Omega.{arith}
use Rattle.std.proofs.lemmas.Bool.{le-leb, lt-leb}
use Rattle.listing.specs.Values.{count_of}
use Rattle.inhabitants.proofs.counting.NodeValues.of.Goals as goal

pub returns-then-number-lt-MANY : goal.returns-then-number-lt-MANY
unfolding count_of
returns-then-number-lt-MANY c = rw (le-leb (get_or c.args.self.now.numbers c.args.n 0) 4294967295 (omega (arith, c.if-number-lt-MANY.true))) refl

pub returns-else-number-lt-MANY : goal.returns-else-number-lt-MANY
unfolding count_of
returns-else-number-lt-MANY c = rw (lt-leb (get_or c.args.self.now.numbers c.args.n 0) 4294967295 (omega (arith, c.if-number-lt-MANY.false))) refl
