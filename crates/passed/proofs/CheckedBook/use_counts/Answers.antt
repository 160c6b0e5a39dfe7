-- `CheckedBook::use_counts` meets its contract. Assumes nothing.
use mathlib.Core.Path.{refl, sym, ap, ◌∙◌}
use Rattle.book.proofs.Opened.{nodes-count}
use Rattle.refusals.specs.Outcome.{given}
use Rattle.refusals.proofs.Handing.{handed-on}
use Rattle.analysis.specs.Tallies.{no_counts}
use Rattle.listing.proofs.UseCounts.{use-counts-refused}
use Rattle.passed.proofs.Asking.{counts-refused}
use Rattle.passed.proofs.list.Laws.{interface-here, list-lacks, list-says}
use Rattle.passed.proofs.use_counts.Laws.{offering-here, counted-here, listed-small, hand-all, short}
use Rattle.passed.specs.Checked.{book_of}
use Rattle.passed.proofs.CheckedBook.use_counts.Goals as goal

pub returns-in_err-actor : goal.returns-in_err-actor
returns-in_err-actor c =
    let e = c.in_err-actor.ensures.none in
    let x = c.args.self.now.passes.passed in
    rw (handed-on c.from_residual.result c.from_residual.ensures, e.0) (counts-refused _ (use-counts-refused (book_of c.args.self.now) (list-lacks x e.1)))

pub of-scope-requires : goal.of-scope-requires
of-scope-requires c = let b = c.args.self.now.passes in rw (nodes-count b.admitted) b.passed.checked.table

pub chase_actor-requires : goal.chase_actor-requires
chase_actor-requires c =
    let o = c.of-scope.ensures in
    rw c.in_ok-actor.ensures.some.0 (interface-here c.args.self.now.passes.passed c.of-scope.result.scope o.rows (rw o.roots refl) o.nodes)

pub returns-in_err-w : goal.returns-in_err-w
returns-in_err-w c =
    let e = c.in_ok-actor.ensures.some in
    let o = c.of-scope.ensures in
    let x = c.args.self.now.passes.passed in
    rw (handed-on c.from_residual-in_err-w.result c.from_residual-in_err-w.ensures)
    (counts-refused _ (use-counts-refused (book_of c.args.self.now) (list-says x c.of-scope.result.scope o.rows (rw o.roots refl) _ (rw e.0 at c.in_err-w.ensures) e.1)))

pub returns-then-out-listed : goal.returns-then-out-listed
returns-then-out-listed c =
    let e = c.in_ok-actor.ensures.some in
    let o = c.of-scope.ensures in
    let x = c.args.self.now.passes.passed in
    let listed = list-says x c.of-scope.result.scope o.rows (rw o.roots refl) _ (rw e.0 at c.in_ok-w.ensures) e.1 in
    short x e.1 (listed ∙ ap given (sym c.as_slice-listed.ensures.value)) c.if-out-listed.true

pub count_uses-requires : goal.count_uses-requires
unfolding no_counts
count_uses-requires c =
    let e = c.in_ok-actor.ensures.some in
    let o = c.of-scope.ensures in
    (rw e.0 (offering-here c.args.self.now.passes.passed e.1 c.of-scope.result.scope o.rows (rw o.roots refl) o.nodes), refl)

pub hand_counts-requires-clause-names : goal.hand_counts-requires-clause-names
hand_counts-requires-clause-names c =
    let e = c.in_ok-actor.ensures.some in
    let o = c.of-scope.ensures in
    let x = c.args.self.now.passes.passed in
    let listed = list-says x c.of-scope.result.scope o.rows (rw o.roots refl) _ (rw e.0 at c.in_ok-w.ensures) e.1 in
    listed-small x e.1 (listed ∙ ap given (sym c.as_slice-listed.ensures.value))

pub returns : goal.returns
returns c =
    let e = c.in_ok-actor.ensures.some in
    let o = c.of-scope.ensures in
    let x = c.args.self.now.passes.passed in
    let listed = list-says x c.of-scope.result.scope o.rows (rw o.roots refl) _ (rw e.0 at c.in_ok-w.ensures) e.1 in
    let counts = counted-here x e.1 c.of-scope.result.scope o.rows (rw o.roots refl) o.nodes _ (rw e.0 at c.count_uses.ensures) in
    hand-all x e.1 (listed ∙ ap given (sym c.as_slice-listed.ensures.value)) _ counts c.if-out-listed.false c.hand_counts.ensures
