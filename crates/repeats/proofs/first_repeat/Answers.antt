-- `first_repeat` meets its contract: where no node has two children, none has a label twice; else the search finds the first. Assumes nothing.
use native.Mathlib.Omega.{arith}
use Rattle.repeats.proofs.Tables.{hashed-none}
use Rattle.repeats.proofs.Searched.{standing, nodes-are, all-within, searched-start, searched-all}
use Rattle.repeats.proofs.first_repeat.Goals as goal

pub first_parent-requires : goal.first_parent-requires
first_parent-requires c = let b = c.args.book in rw (c.nodes.ensures, nodes-are b) (all-within (standing b))

pub returns-in_err-first : goal.returns-in_err-first
returns-in_err-first c =
    let b = c.args.book in
    let n = nodes-are b in
    let start = searched-start (standing b) (rw c.nodes.ensures at c.in_err-first.ensures) in
    rw c.from_residual.ensures (searched-all _ start (omega arith))

pub invariant_of-search : goal.invariant_of-search
invariant_of-search c = record { hashed = hashed-none _ }

pub returns : goal.returns
returns c = rw c.of.ensures at c.run.ensures
