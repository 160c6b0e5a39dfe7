-- `run` meets its contract: no repeat below a node before node i is lower than the lowest so far. Assumes nothing.
use Rattle.std.proofs.Common.{rules, arith, ◌≡◌, ◌≤◌, MatchOption, true, false, refl, sym, ◌∙◌}
use Rattle.repeats.proofs.Searched.{standing, nodes-are, row-within, searched-start, searched-on, searched-skip, searched-all, searched-at}
use Rattle.repeats.proofs.search.Search.run.Goals as goal
use Rattle.repeats.proofs.search.Search.run.Goals.{then-is_parent, else-is_parent}

pub loop-i-init : goal.loop-i-init
loop-i-init c = let b = c.args.self.now.names.index.book in (searched-start (standing b) c.requires, refl)

pub at-requires : goal.at-requires
at-requires c =
    let b = c.args.self.now.names.index.book in
    let n = nodes-are b in
    rw c.nodes-rows.ensures (row-within (standing b) c.loop-i.i-counter (omega arith))

pub repeat_below-requires-clause-inside : goal.repeat_below-requires-clause-inside
repeat_below-requires-clause-inside c =
    let n = nodes-are c.args.self.now.names.index.book in
    rw c.loop-i.invariant.1 (omega arith)

pub loop-i-preserved : goal.loop-i-preserved
loop-i-preserved c =
    let b = c.args.self.now.names.index.book in
    let i = c.loop-i.invariant in
    elim c.if-is_parent.branch [
      | then-is_parent w ↦
          let below = w.repeat_below.ensures in
          rw (w.self-is, w.lowest-is) (searched-on _ _ _ i.0 (rw i.1 at below.found) w.lower-lowest.ensures, below.same_book ∙ i.1)
      | else-is_parent w ↦
          rw (w.self-is, w.lowest-is)
          (searched-skip (standing b) i.0 (sym (rw (c.at.ensures, c.nodes-rows.ensures) at c.is_parent.ensures) ∙ w.if-is_parent.false), i.1)
    ]

pub returns-after-loop-i : goal.returns-after-loop-i
returns-after-loop-i c = let n = nodes-are c.args.self.now.names.index.book in searched-all _ c.loop-i.invariant.0 (omega arith)

pub returns-then-is_some_and : goal.returns-then-is_some_and
returns-then-is_some_and c =
    let told : MatchOption c.loop-i.lowest (c.is_some_and.result ≡ false) (λ r. c.is_some_and.result ≡ true → r ≤ c.loop-i.i-counter) = search rules in
    searched-at _ c.loop-i.invariant.0 (rw c.if-is_some_and.true at told)
