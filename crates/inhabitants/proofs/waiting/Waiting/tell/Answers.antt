-- `Waiting::tell` meets its contract: a node that waits leaves room for one more. Assumes nothing.
use native.Mathlib.Omega.{arith}
use Rattle.std.proofs.Common.{rules}
use Rattle.inhabitants.proofs.waiting.Counts.{left-some}
use Rattle.inhabitants.proofs.waiting.Waiting.tell.Goals as goal

pub push-requires : goal.push-requires
push-requires c =
    let room = c.requires.room in
    let some = left-some c.args.self.now.left c.in-Some.n (search rules) c.if-self-n-eq0.false in
    (omega arith, omega (arith, room.few, some))
