-- `CheckedBook::alias` meets its contract. Assumes nothing.
use mathlib.Core.Path.{refl}
use native.Mathlib.Omega.{arith}
use Rattle.book.proofs.Opened.{nodes-count}
use Rattle.environment.proofs.Links.{rooted, unrooted}
use Rattle.passed.proofs.alias.Laws.{alias-lacks, alias-crossing, alias-here, small}
use Rattle.passed.proofs.CheckedBook.alias.Goals as goal

pub returns-then-is_none : goal.returns-then-is_none
returns-then-is_none c = alias-lacks c.args.self.now.passes.passed _ (unrooted c.root_of.result c.root_of.ensures.none c.if-is_none.ensures)

pub names_crossed-names-requires : goal.names_crossed-names-requires
names_crossed-names-requires c =
    let x = c.args.self.now.passes.passed in
    (x.checked.ended.long, omega (arith, small x _ (rooted c.root_of.result c.root_of.ensures.some c.if-is_none.ensures), x.all.nodes.few_names))

pub of-scope-requires : goal.of-scope-requires
of-scope-requires c = let b = c.args.self.now.passes in rw (nodes-count b.admitted) b.passed.checked.table

pub last_crossed-last-requires : goal.last_crossed-last-requires
last_crossed-last-requires c =
    let o = c.of-scope.ensures in
    (_, alias-crossing c.args.self.now.passes.passed _ (rooted c.root_of.result c.root_of.ensures.some c.if-is_none.ensures) o.rows (rw o.roots refl) o.names c.names_crossed-names.ensures)

pub returns : goal.returns
returns c =
    let x = c.args.self.now.passes.passed in
    let o = c.of-scope.ensures in
    let some = rooted c.root_of.result c.root_of.ensures.some c.if-is_none.ensures in
    alias-here x _ some c.names_crossed-names.ensures
    (c.last_crossed-last.ensures _ (alias-crossing x _ some o.rows (rw o.roots refl) o.names c.names_crossed-names.ensures))
