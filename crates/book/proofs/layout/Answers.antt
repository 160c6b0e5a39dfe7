-- `layout` meets its contract: its tests are the rules, on the parts that the table of contents states. Assumes nothing.
use mathlib.Core.Path.{◌≡◌, sym, subst, ◌∙◌}
use mathlib.Core.Bool.{Bool, true}
use mathlib.Core.List.{List}
use Prim.Native.Nat.{ℕ}
use native.Mathlib.Omega.{arith}
use lib.Dec.{T}
use Rattle.std.specs.Prelude.{Option, None, Some}
use Rattle.format.specs.Layout.{part, run, entry_at, row_trees}
use Rattle.format.specs.Rules.{good_entries, good_files}
use Rattle.format.proofs.Logic.{of-true}
use Rattle.book.specs.declared.kinds.Contents.{Contents}
use Rattle.book.specs.declared.walks.Siblings.{Siblings}
use Rattle.book.specs.Steps.{DefinitionsAs}
use Rattle.book.specs.Walks.{Over}
use Rattle.book.proofs.Walking.{there, over-over}
use Rattle.book.proofs.Parts.{reading-broken, reading-whole, nodes_in, definitions_in, files_in, names-good, nodes-good, entries-good, all-good}
use Rattle.book.proofs.layout.Goals as goal

-- what is found of the definitions is known of the rows that the trees are over
found : (bs : List ℕ) (c : Contents) {trees : Siblings} (o : Over (nodes_in bs c) c.nodes trees) (after : Option ℕ) →
    DefinitionsAs c.names c.files (definitions_in bs c) c.definitions trees.rows.now trees.until after →
    DefinitionsAs c.names c.files (definitions_in bs c) c.definitions (nodes_in bs c) c.nodes after
found bs c o after = there o (λ ns e. DefinitionsAs c.names c.files (definitions_in bs c) c.definitions ns e after)

-- and the files judge all entries
judged : (bs : List ℕ) (c : Contents) {trees left : Siblings} (o : Over (nodes_in bs c) c.nodes trees) →
    DefinitionsAs c.names c.files (definitions_in bs c) c.definitions trees.rows.now trees.until (Some left.at) → Over trees.rows.now trees.until left →
    {b : Bool} → b ≡ good_files c.names true left.at (run (entry_at (files_in bs c)) 0 c.files) (row_trees left.rows.now left.at left.until) →
    good_entries c.names c.files 0 0 (run (entry_at (definitions_in bs c)) 0 c.definitions) (run (entry_at (files_in bs c)) 0 c.files) (row_trees (nodes_in bs c) 0 c.nodes) ≡ b
judged bs c {left = left} o d l {b} f =
    let fs = run (entry_at (files_in bs c)) 0 c.files in
    (found bs c o (Some left.at) d).1 fs ∙ sym (there (over-over o l) (λ ns e. b ≡ good_files c.names true left.at fs (row_trees ns left.at e)) f)

pub returns-in_err-c : goal.returns-in_err-c
returns-in_err-c c = c.from_residual.ensures ∙ reading-broken _ (λ r. c.in_err-c.ensures r.contents)

pub returns-then-not-names_fine : goal.returns-then-not-names_fine
unfolding part
returns-then-not-names_fine c = reading-broken _ (λ r. c.names_fine.ensures.fails (c.if-not-names_fine.true) (names-good c.in_ok-c.ensures.1 r))

pub returns-in_err-trees : goal.returns-in_err-trees
unfolding part
returns-in_err-trees c = c.from_residual-in_err-trees.ensures ∙ reading-broken _ (λ r. c.in_err-trees.ensures (nodes-good c.in_ok-c.ensures.1 r))

pub returns-in_err-left : goal.returns-in_err-left
unfolding part
returns-in_err-left c =
    let k = c.in_ok-c.c in
    c.from_residual-in_err-left.ensures
    ∙ reading-broken _ (λ r.
    found c.args.book.now k c.new-trees.ensures.over None c.in_err-left.ensures.finds (run (entry_at (files_in c.args.book.now k)) 0 k.files) (entries-good c.in_ok-c.ensures.1 r))

pub returns-then-not-all_files : goal.returns-then-not-all_files
unfolding part
returns-then-not-all_files c =
    let j = judged c.args.book.now c.in_ok-c.c c.new-trees.ensures.over c.in_ok-left.ensures.finds c.in_ok-left.ensures.goes c.all_files.ensures in
    reading-broken _ (λ r. subst T (j ∙ c.if-not-all_files.true) (entries-good c.in_ok-c.ensures.1 r))

pub returns : goal.returns
unfolding part
returns c =
    let t = c.in_ok-c.ensures in
    let j = judged c.args.book.now c.in_ok-c.c c.new-trees.ensures.over c.in_ok-left.ensures.finds c.in_ok-left.ensures.goes c.all_files.ensures in
    reading-whole (λ i. omega (arith, c.type_inv.book i))
    (all-good t.1 t.0 (c.names_fine.ensures.holds (c.if-not-names_fine.false)) c.in_ok-trees.ensures.0 (of-true _ (j ∙ c.if-not-all_files.false))) t.1
