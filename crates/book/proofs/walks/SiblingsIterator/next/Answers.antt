-- The walk over sibling trees meets its contract: the tree at its place is whole, and those after it are. Assumes nothing.
use Rattle.std.proofs.Common.{arith, ◌≡◌, ℕ, ◌+◌, ◌<◌, ◌≤◌, List, ap}
use Rattle.format.specs.Encode.{Row}
use Rattle.format.specs.Layout.{row_at}
use Rattle.format.specs.Whole.{Whole}
use Rattle.format.proofs.Rows.{opens}
use Rattle.book.proofs.walks.SiblingsIterator.next.Goals as goal

module _ {ns : List ℕ} {at until : ℕ} (w : Whole ns at until) (n : at ≡ until → ⊥) (r : Row) (is : r ≡ row_at ns at) where
  -- a tree is left
  left : at < until
  left = omega (arith, w.ordered, n)

  size : r.size ≡ (row_at ns at).size
  size = ap (λ (q : Row). q.size) is

  fits : (1 ≤ r.size) × (at + r.size ≤ until) × (until < 65536)
  fits = (omega (arith, (opens w left).here.one, size), omega (arith, (opens w left).rest.ordered, size), omega (arith, w.within.held, w.within.few))

  rest : Whole ns (at + r.size) until
  rest = rw size (opens w left).rest

pub overflow_add-self : goal.overflow_add-self
overflow_add-self c = omega (arith, fits c.args.self.now.whole c.if-self.false _ c.at-node.ensures)

pub invariant_of-self : goal.invariant_of-self
invariant_of-self c = record { whole = rest c.args.self.now.whole c.if-self.false _ c.at-node.ensures }

pub returns-clause-goes : goal.returns-clause-goes
returns-clause-goes c = let f = fits c.args.self.now.whole c.if-self.false _ c.at-node.ensures in grind (arith, f)
