-- `CheckedBook::marks` meets its contract. Assumes nothing.
use mathlib.Core.Path.{◌≡◌, refl, sym, ap, subst, ◌∙◌}
use mathlib.Core.List.{List, []}
use Prim.Native.Nat.{ℕ, ◌≤◌}
use native.Mathlib.Omega.{arith}
use Rattle.std.proofs.Common.{length, Result, Ok, Err}
use Rattle.refusals.specs.declared.Refusal.{Refusal}
use Rattle.refusals.specs.Outcome.{refused, given}
use Rattle.format.specs.Layout.{nodes_part}
use Rattle.book.specs.declared.kinds.Contents.{Contents}
use Rattle.book.specs.Reading.{Admitted}
use Rattle.book.proofs.Opened.{names-count, nodes-count}
use Rattle.book.specs.Tables.{flagged}
use Rattle.judgement.specs.Environment.{main_definitions}
use Rattle.judgement.specs.Check.{check}
use Rattle.environment.specs.declared.scope.Scope.{Scope}
use Rattle.typing.specs.declared.prog.Passed.{Passed}
use Rattle.typing.specs.Passing.{PassedAs}
use Rattle.typing.proofs.prog.Book.{tabled}
use Rattle.listing.specs.Recursive.{infer_rec}
use Rattle.listing.specs.Marks.{marked, marks_over}
use Rattle.analysis.specs.declared.recursive.Marks.{Marks}
use Rattle.analysis.specs.Marking.{MarksHold, Flagged, nothing_marked, Begun, InferredAs}
use Rattle.analysis.proofs.recursive.Rows.{nothing-held}
use Rattle.analysis.proofs.recursive.Answers.{marked-stopped, marked-long, marked-given}
use Rattle.refusals.proofs.Outcomes.{after-passed}
use Rattle.refusals.proofs.Handing.{handed-on}
use Rattle.passed.proofs.Asking.{handed-refused, handed-as}
use Rattle.passed.proofs.CheckedBook.marks.Goals as goal

-- ---- The marks of a book that passed, as the code has them
module _ {bs : List ℕ} {c : Contents} {a : Admitted bs c} {roots ends' : List ℕ} {p : Passed} (x : PassedAs a roots ends' p) where
  names-few : c.names ≤ 1024
  names-few = omega (arith, names-count a, x.all.nodes.few_names)

  module _ (s : Scope) (here : s.rows.now ≡ nodes_part bs) (table : s.roots.now ≡ roots) {fresh : Marks} (none : fresh ≡ nothing_marked) where
    begun : Begun s.rows.now s.roots.now fresh
    begun = record {
      definitions = main_definitions a.book;
      binds = rw (here, table) (tabled x).0;
      seen-by = [];
      marked-by = [];
      holds = subst (Flagged [] []) (sym none) nothing-held;
    }

  module _ (s : Scope) (here : s.rows.now ≡ nodes_part bs) (table : s.roots.now ≡ roots) {fresh : Marks} (none : fresh ≡ nothing_marked) (l : List ℕ) where
    h : (r : Result Marks Refusal) → InferredAs s.rows.now s.roots.now l fresh r → MarksHold (infer_rec (main_definitions a.book) l) r
    unfolding infer_rec begun
    h r k = k.holds (begun s here table none)

    marks-stop : (why : Refusal) → InferredAs s.rows.now s.roots.now l fresh (Err why) → marks_over a.book l ≡ refused why
    unfolding marks_over
    marks-stop why k = after-passed (check a.book) _ x.passed ∙ marked-stopped (length a.book.names) (infer_rec (main_definitions a.book) l) why (h (Err why) k)

    module _ (m : Marks) (k : InferredAs s.rows.now s.roots.now l fresh (Ok m)) where
      marks-ready : (length m.marked ≡ 1024) × (c.names ≤ 1024)
      marks-ready = (marked-long (infer_rec (main_definitions a.book) l) m (h (Ok m) k), names-few)

      marks-given : {j : List ℕ} → j ≡ flagged m.marked 0 c.names → marks_over a.book l ≡ given j
      unfolding marks_over
      marks-given e =
          after-passed (check a.book) _ x.passed
          ∙ ap (λ (n : ℕ). marked n (infer_rec (main_definitions a.book) l)) (sym (names-count a))
          ∙ marked-given c.names (infer_rec (main_definitions a.book) l) m (h (Ok m) k) names-few
          ∙ ap given (sym e)

pub of-scope-requires : goal.of-scope-requires
of-scope-requires c = let b = c.args.self.now.passes in rw (nodes-count b.admitted) b.passed.checked.table

pub infer_rec-requires : goal.infer_rec-requires
infer_rec-requires c = let o = c.of-scope.ensures in begun c.args.self.now.passes.passed c.of-scope.result.scope o.rows (rw o.roots refl) c.new.ensures

pub returns-in_err-marks : goal.returns-in_err-marks
returns-in_err-marks c =
    let o = c.of-scope.ensures in
    rw (handed-on c.from_residual.result c.from_residual.ensures)
    (handed-refused _ (marks-stop c.args.self.now.passes.passed c.of-scope.result.scope o.rows (rw o.roots refl) c.new.ensures _ _ c.in_err-marks.ensures))

pub names_of-marked-requires : goal.names_of-marked-requires
names_of-marked-requires c =
    let o = c.of-scope.ensures in
    marks-ready c.args.self.now.passes.passed c.of-scope.result.scope o.rows (rw o.roots refl) c.new.ensures _ _ c.in_ok-marks.ensures

pub returns : goal.returns
returns c =
    let o = c.of-scope.ensures in
    handed-as (marks-given c.args.self.now.passes.passed c.of-scope.result.scope o.rows (rw o.roots refl) c.new.ensures _ _ c.in_ok-marks.ensures c.names_of-marked.ensures)
    (rw c.as_slice.ensures.value at c.hand.ensures)
