-- The values of a name's definition, on a book that passed. Assumes nothing.
--     one-each                       an opt holds one type
--     name-counted                   the number at the root of a definition is that of its name
--     values-lacks, values-here      the question
use mathlib.Core.Path.{◌≡◌, sym, ap, ◌∙◌}
use mathlib.Core.List.{List}
use Prim.Native.Nat.{ℕ}
use lib.ListN.{get_or}
use Rattle.refusals.specs.declared.Refusal.TheVariants.{Unbound}
use Rattle.std.specs.Prelude.{Ok, Err}
use Rattle.refusals.specs.Handed.{count_answer}
use Rattle.refusals.proofs.Outcomes.{after-passed}
use Rattle.format.specs.Forest.{end}
use Rattle.format.specs.Book.{Definition}
use Rattle.format.specs.Layout.{nodes_part}
use Rattle.format.specs.Whole.{tree_at}
use Rattle.format.proofs.Stored.{tree-opens}
use Rattle.book.specs.declared.kinds.Contents.{Contents}
use Rattle.book.specs.Reading.{Admitted}
use Rattle.judgement.specs.Environment.{main_definitions, body, find_type}
use Rattle.judgement.specs.Check.{check}
use Rattle.judgement.proofs.Lookup.{find-missing}
use Rattle.environment.specs.Tables.{Binds}
use Rattle.environment.specs.declared.scope.Scope.{Scope}
use Rattle.environment.proofs.Book.{all-trees}
use Rattle.environment.proofs.Links.{found-none, found-some}
use Rattle.environment.proofs.Trees.{one-type}
use Rattle.typing.specs.declared.prog.Passed.{Passed}
use Rattle.typing.specs.Passing.{PassedAs}
use Rattle.inhabitants.specs.Counting.{OneType, CountedOf}
use Rattle.listing.specs.Values.{name_values, count_of, count_found, values}
use Rattle.listing.proofs.Sizes.{size-unique, name-size}
use Rattle.listing.proofs.Values.{type-values-size, name-values-size, values-unbound}

module _ {bs : List ℕ} {c : Contents} {a : Admitted bs c} {roots ends' : List ℕ} {p : Passed} (x : PassedAs a roots ends' p) where
  abbrev ds : List Definition
  ds = main_definitions a.book

  module _ (s : Scope) (here : s.rows.now ≡ nodes_part bs) (table : s.roots.now ≡ roots) (nodes : s.nodes ≡ c.nodes) where
    pub one-each : OneType s.rows.now s.nodes
    one-each = rw (here, nodes) (one-type (all-trees a))

    pub name-counted : (numbers : List ℕ) → CountedOf s numbers → (n : ℕ) → (get_or roots n 65535 ≡ 65535 → ⊥) →
        get_or numbers (get_or roots n 65535) 0 ≡ name_values ds n
    name-counted numbers k n some =
        let some-here : get_or s.roots.now n 65535 ≡ 65535 → ⊥ = rw table some in
        let root = get_or s.roots.now n 65535 in
        let inside = s.bound.node n some-here in
        let binds : Binds s.rows.now s.roots.now ds = rw (here, table) x.checked.env.binds in
        let found : find_type ds n ≡ body (tree_at s.rows.now root) = binds n ∙ found-some s.rows.now root some-here in
        let opened = tree-opens (s.whole.tree root inside).whole in
        ap (λ (l : List ℕ). get_or numbers (get_or l n 65535) 0) (sym table)
        ∙ k root inside ds binds
        ∙ size-unique (name-size {none = end} (found ∙ ap body opened) (type-values-size ds _ _)) (name-values-size ds n)

  module _ (n : ℕ) where
    pub values-lacks : get_or roots n 65535 ≡ 65535 → Err (Unbound n) ≡ count_answer (values a.book n)
    unfolding count_answer
    values-lacks z =
        let m = find-missing ds n (x.checked.env.binds n ∙ found-none (nodes_part bs) (get_or roots n 65535) z) in
        sym (ap count_answer ((values-unbound a.book n x.passed).1 m))

    pub values-here : (get_or roots n 65535 ≡ 65535 → ⊥) → Ok (count_of (name_values ds n)) ≡ count_answer (values a.book n)
    unfolding count_answer values count_found
    values-here some =
        let found = x.checked.env.binds n ∙ found-some (nodes_part bs) (get_or roots n 65535) some in
        sym (ap count_answer (after-passed (check a.book) _ x.passed ∙ ap (count_found ds n) found))
