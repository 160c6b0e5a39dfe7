-- `draft_list_written` meets its contract. Assumes nothing.
use Rattle.book.specs.Tables.{blank_table}
use Rattle.book.proofs.Named.{book-of}
use Rattle.refusals.proofs.Handing.{handed-on}
use Rattle.passed.proofs.Asking.{handed-refused, handed-as}
use Rattle.passed.proofs.draft_list.Laws.{within, draft-twice, table-in, root-in, counted, draft-says}
use mathlib.Core.Path.{refl, ap}
use native.Mathlib.Omega.{arith}
use Rattle.format.specs.Encode.{Row}
use Rattle.analysis.proofs.BookNodes.{rooted, here-within, here-small, here-readable}
use Rattle.analysis.proofs.chase.Actor.{walked-same, written-is}
use Rattle.passed.proofs.draft_list.draft_list_written.Goals as goal

pub enter-requires : goal.enter-requires
unfolding blank_table
enter-requires c =
    record {
      ordered = omega arith;
      within = (within (book-of _ _ c.args.book.laid) c.requires c.own_definitions-own.ensures);
      empty = refl;
    }

pub returns-in_err-enter : goal.returns-in_err-enter
returns-in_err-enter c =
    rw (handed-on c.from_residual.result c.from_residual.ensures)
    (λ a. handed-refused _ (draft-twice a c.requires c.own_definitions-own.ensures c.enter.ensures c.in_err-enter.was))

pub of-scope-requires : goal.of-scope-requires
of-scope-requires c = table-in (book-of _ _ c.args.book.laid) c.requires c.own_definitions-own.ensures c.enter.ensures c.in_ok-enter.was

pub at-t-requires : goal.at-t-requires
at-t-requires c =
    let o = c.of-scope.ensures in
    here-within (rooted c.of-scope.result) (root-in (book-of _ _ c.args.book.laid) c.requires c.own_definitions-own.ensures c.enter.ensures c.in_ok-enter.was c.of-scope.result.scope o.rows (rw o.roots refl) o.nodes)

pub overflow_add-root : goal.overflow_add-root
overflow_add-root c =
    let o = c.of-scope.ensures in
    omega (arith, here-small (rooted c.of-scope.result) (root-in (book-of _ _ c.args.book.laid) c.requires c.own_definitions-own.ensures c.enter.ensures c.in_ok-enter.was c.of-scope.result.scope o.rows (rw o.roots refl) o.nodes) (ap (λ (q : Row). q.size) c.at-t.ensures))

pub chase_types-requires : goal.chase_types-requires
chase_types-requires c =
    let o = c.of-scope.ensures in
    let r = here-readable (rooted c.of-scope.result) (root-in (book-of _ _ c.args.book.laid) c.requires c.own_definitions-own.ensures c.enter.ensures c.in_ok-enter.was c.of-scope.result.scope o.rows (rw o.roots refl) o.nodes) (ap (λ (q : Row). q.size) c.at-t.ensures) in
    (r.whole, r.inside, counted (book-of _ _ c.args.book.laid) c.requires c.own_definitions-own.ensures c.enter.ensures c.in_ok-enter.was c.of-scope.result.scope o.rows (rw o.roots refl))

pub returns-in_err-w : goal.returns-in_err-w
returns-in_err-w c =
    let o = c.of-scope.ensures in
    let ready = counted (book-of _ _ c.args.book.laid) c.requires c.own_definitions-own.ensures c.enter.ensures c.in_ok-enter.was c.of-scope.result.scope o.rows (rw o.roots refl) in
    rw (handed-on c.from_residual-in_err-w.result c.from_residual-in_err-w.ensures)
    (λ a. handed-refused _ (draft-says a c.requires c.own_definitions-own.ensures c.enter.ensures c.in_ok-enter.was c.of-scope.result.scope o.rows (rw o.roots refl) _
    (walked-same ready _ (written-is _ _ _ c.at-t.ensures) c.in_err-w.ensures)))

pub returns : goal.returns
returns c =
    let o = c.of-scope.ensures in
    let ready = counted (book-of _ _ c.args.book.laid) c.requires c.own_definitions-own.ensures c.enter.ensures c.in_ok-enter.was c.of-scope.result.scope o.rows (rw o.roots refl) in
    λ a. handed-as
    (draft-says a c.requires c.own_definitions-own.ensures c.enter.ensures c.in_ok-enter.was c.of-scope.result.scope o.rows (rw o.roots refl) _
    (walked-same ready _ (written-is _ _ _ c.at-t.ensures) c.in_ok-w.ensures))
    (rw c.as_slice.ensures.value at c.hand.ensures)
