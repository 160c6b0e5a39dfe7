-- `class::top_of` meets its contract. Assumes nothing.
use Rattle.environment.proofs.Trees.{top}
use Rattle.syntax.proofs.class.Laws.{kids-some, top-other, top-class}
use Rattle.syntax.proofs.class.top_of.Goals as goal

pub returns-then-t : goal.returns-then-t
returns-then-t c = λ names nodes a h. rw c.in_ok-n.was (top-other a (rw c.in_ok-n.was at h) _ c.at-t.ensures c.if-t.true)

pub last_child-last-requires : goal.last_child-last-requires
last_child-last-requires c =
    let p = c.requires in
    rw (c.new.ensures.at, c.new.ensures.over.until) (kids-some (top p.2 (rw c.in_ok-n.was at p.3)) _ c.at-t.ensures c.if-t.false)

pub returns : goal.returns
returns c =
    let n = c.new.ensures in
    λ names nodes a h.
    rw c.in_ok-n.was
    (top-class a (rw c.in_ok-n.was at h) _ c.at-t.ensures c.if-t.false (rw (n.over.rows, n.at, n.over.until) at c.last_child-last.ensures))
