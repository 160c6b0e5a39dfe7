-- `CheckedBook::count_values` meets its contract. Assumes nothing.
use mathlib.Core.Path.{refl}
use Rattle.book.proofs.Opened.{nodes-count}
use Rattle.passed.proofs.values.Laws.{one-each, name-counted}
use Rattle.passed.proofs.CheckedBook.count_values.Goals as goal

pub of-requires : goal.of-requires
of-requires c = let b = c.args.self.now.passes in rw (nodes-count b.admitted) b.passed.checked.table

pub count-requires-clause-opts : goal.count-requires-clause-opts
count-requires-clause-opts c = let o = c.of.ensures in one-each c.args.self.now.passes.passed c.of.result o.rows (rw o.roots refl) o.nodes

pub returns : goal.returns
returns c = let o = c.of.ensures in name-counted c.args.self.now.passes.passed c.of.result o.rows (rw o.roots refl) o.nodes c.count.new.self.numbers c.count.ensures
