-- `CheckedBook::emptiness` meets its contract. Assumes nothing.
use mathlib.Core.Path.{◌≡◌, refl, sym, ap, ◌∙◌}
use mathlib.Core.List.{List}
use Prim.Native.Nat.{ℕ, ◌≤◌}
use native.Mathlib.Omega.{arith}
use lib.ListN.{length}
use Rattle.refusals.specs.Outcome.{given}
use Rattle.format.specs.Layout.{nodes_part}
use Rattle.listing.specs.Recursive.{sorted}
use Rattle.book.specs.declared.kinds.Contents.{Contents}
use Rattle.book.specs.Reading.{Admitted}
use Rattle.book.proofs.Opened.{names-count, nodes-count}
use Rattle.book.specs.Tables.{flagged}
use Rattle.judgement.specs.Environment.{main_definitions}
use Rattle.judgement.specs.Check.{check}
use Rattle.typing.specs.declared.prog.Passed.{Passed}
use Rattle.typing.specs.Passing.{PassedAs}
use Rattle.inhabitants.specs.Empty.{EmptiedAs}
use Rattle.environment.specs.declared.scope.Scope.{Scope}
use Rattle.typing.proofs.prog.Book.{tabled}
use Rattle.listing.specs.Empty.{unfilled, empty_names, emptiness}
use Rattle.refusals.proofs.Outcomes.{after-passed}
use Rattle.passed.proofs.Asking.{handed-as}
use Rattle.passed.proofs.CheckedBook.emptiness.Goals as goal

-- ---- The empty names of a book that passed, as the code has them
module _ {bs : List ℕ} {c : Contents} {a : Admitted bs c} {roots ends' : List ℕ} {p : Passed} (x : PassedAs a roots ends' p) where
  module _ (s : Scope) (here : s.rows.now ≡ nodes_part bs) (table : s.roots.now ≡ roots) (many : s.names ≡ c.names)
      {flags : List ℕ} (k : EmptiedAs s.rows.now s.roots.now s.names flags) where
    h : EmptiedAs (nodes_part bs) roots c.names flags
    h = rw (here, table, many) at k

    empty-flags : (length flags ≡ 1024) × (c.names ≤ 1024)
    empty-flags = (k.long, omega (arith, names-count a, x.all.nodes.few_names))

    empty-given : {k : List ℕ} → k ≡ flagged flags 0 c.names → emptiness a.book ≡ given k
    unfolding emptiness empty_names
    empty-given e =
        after-passed (check a.book) _ x.passed
        ∙ ap (λ (n : ℕ). given (sorted (unfilled (main_definitions a.book)) 0 n)) (sym (names-count a))
        ∙ ap given (sym (h.is (main_definitions a.book) (tabled x).0) ∙ sym e)

pub of-requires : goal.of-requires
of-requires c = let b = c.args.self.now.passes in rw (nodes-count b.admitted) b.passed.checked.table

pub names_of-empty-requires : goal.names_of-empty-requires
names_of-empty-requires c = let o = c.of.ensures in empty-flags c.args.self.now.passes.passed c.of.result o.rows (rw o.roots refl) o.names c.empty_names-flags.ensures

pub returns : goal.returns
returns c =
    let o = c.of.ensures in
    handed-as (empty-given c.args.self.now.passes.passed c.of.result o.rows (rw o.roots refl) o.names c.empty_names-flags.ensures c.names_of-empty.ensures)
    (rw c.as_slice.ensures.value at c.hand.ensures)
