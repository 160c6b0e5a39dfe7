-- `CheckedBook::init_list` meets its contract. Assumes nothing.
use mathlib.Core.Path.{◌≡◌, refl, sym, ap, ◌∙◌}
use mathlib.Core.List.{List}
use Prim.Native.Nat.{ℕ, ◌≤◌}
use native.Mathlib.Omega.{arith}
use lib.ListN.{length}
use Rattle.refusals.specs.declared.Refusal.{Refusal}
use Rattle.std.specs.Prelude.{Result, Ok, Err}
use Rattle.refusals.specs.Outcome.{refused}
use Rattle.format.specs.Forest.{Forest}
use Rattle.format.specs.Node.{Node}
use Rattle.format.specs.Layout.{nodes_part, siblings}
use Rattle.format.specs.Whole.{Whole}
use Rattle.book.specs.declared.kinds.Contents.{Contents}
use Rattle.book.specs.Reading.{Admitted}
use Rattle.book.proofs.Opened.{nodes-count}
use Rattle.book.specs.Tables.{blank_table}
use Rattle.judgement.specs.Check.{init_check}
use Rattle.typing.specs.declared.prog.Passed.{Passed}
use Rattle.typing.specs.declared.init.InitArgs.{InitArgs}
use Rattle.environment.specs.Tables.{Roots}
use Rattle.environment.specs.declared.scope.Scope.{Scope}
use Rattle.typing.specs.Passing.{PassedAs}
use Rattle.typing.specs.Init.{both_definitions, InitPassedAs, InitFoundAs}
use Rattle.listing.specs.Chase.{chase_types, walked}
use Rattle.listing.specs.InitList.{init_list}
use Rattle.std.proofs.Common.{Result}
use Rattle.refusals.specs.declared.Refusal.{Refusal}
use Rattle.analysis.specs.declared.chase.Walk.{Walk}
use Rattle.analysis.specs.Walking.{Counted, WalkedAs}
use Rattle.passed.specs.Answers.{walk_outcome}
use Rattle.refusals.proofs.Outcomes.{after-passed, after-stops}
use Rattle.refusals.specs.Verdict.{verdict_of}
use Rattle.refusals.proofs.Handing.{handed-on}
use Rattle.passed.proofs.Walks.{Walks, walk-says}
use Rattle.passed.proofs.Walks as walks
use Rattle.passed.proofs.Asking.{handed-refused, handed-as}
use Rattle.passed.proofs.CheckedBook.init_list.Goals as goal

-- ---- The init list of a book that passed, as the code has it
module _ {bs : List ℕ} {c : Contents} {a : Admitted bs c} {roots ends' : List ℕ} {p : Passed} (x : PassedAs a roots ends' p) {both : List ℕ} where
  -- the init check is what is found, since the check has passed
  verdict-is : {r : Result InitArgs Refusal} → InitFoundAs a both r → verdict_of r ≡ init_check a.book
  unfolding init_check
  verdict-is y = y.seen.verdict ∙ sym (rw x.passed)

  init-refused : {why : Refusal} → InitFoundAs a both (Err why) → init_list a.book ≡ refused why
  unfolding init_list
  init-refused y = after-stops (init_check a.book) _ (sym (verdict-is y))

  module _ {r : InitArgs} (y : InitFoundAs a both (Ok r)) where
    q : InitPassedAs (nodes_part bs) a.book both r
    q = y.seen.passed

    few : length (both_definitions a.book) ≤ 512
    few = omega (arith, q.counted, q.few)

    table-in : Roots both c.nodes
    table-in = rw (nodes-count a) q.table

    module _ (s : Scope) (here : s.rows.now ≡ nodes_part bs) (table : s.roots.now ≡ both) where
      arguments : s.nodes ≡ c.nodes → Whole s.rows.now r.from r.until × (r.until ≤ s.nodes) × Counted s.rows.now s.roots.now
      arguments many = rw (here, table, many, nodes-count a) (q.whole, q.within, walks.counted (both_definitions a.book) q.binds few)

      module _ (w : Result Walk Refusal) (h : WalkedAs s.rows.now s.roots.now (siblings s.rows.now r.from r.until) w) where
        init-walks : Walks (nodes_part bs) both (both_definitions a.book) (siblings (nodes_part bs) r.from r.until) w
        init-walks = record { binds = q.binds; few = few; comes = rw (here, table) at h }

        init-says : init_list a.book ≡ walk_outcome w
        unfolding init_list
        init-says =
            walk-says init-walks
            (after-passed (init_check a.book) _ (sym (verdict-is y))
            ∙ ap (λ (t : Forest Node). walked (chase_types (both_definitions a.book) t)) (sym q.arguments))

pub check_init_args-requires : goal.check_init_args-requires
unfolding blank_table
check_init_args-requires c = refl

pub returns-in_err-args : goal.returns-in_err-args
returns-in_err-args c =
    rw (handed-on c.from_residual.result c.from_residual.ensures)
    (handed-refused _ (init-refused c.args.self.now.passes.passed c.in_err-args.ensures))

pub of-scope-requires : goal.of-scope-requires
of-scope-requires c = table-in c.args.self.now.passes.passed c.in_ok-args.ensures

pub chase_types-requires : goal.chase_types-requires
chase_types-requires c =
    let o = c.of-scope.ensures in
    arguments c.args.self.now.passes.passed c.in_ok-args.ensures c.of-scope.result.scope o.rows (rw o.roots refl) o.nodes

pub returns-in_err-w : goal.returns-in_err-w
returns-in_err-w c =
    let o = c.of-scope.ensures in
    rw (handed-on c.from_residual-in_err-w.result c.from_residual-in_err-w.ensures)
    (handed-refused _ (init-says c.args.self.now.passes.passed c.in_ok-args.ensures c.of-scope.result.scope o.rows (rw o.roots refl) _ c.in_err-w.ensures))

pub returns : goal.returns
returns c =
    let o = c.of-scope.ensures in
    handed-as (init-says c.args.self.now.passes.passed c.in_ok-args.ensures c.of-scope.result.scope o.rows (rw o.roots refl) _ c.in_ok-w.ensures)
    (rw c.as_slice.ensures.value at c.hand.ensures)
