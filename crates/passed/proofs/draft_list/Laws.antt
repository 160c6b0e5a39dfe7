-- The definitions and the actor of a draft, as the code finds them. Assumes nothing.
use mathlib.Core.Path.{◌≡◌, sym, ap, subst, ◌∙◌}
use mathlib.Core.Bool.{Bool, true, false, cond}
use mathlib.Core.List.{List, []}
use Prim.Native.Nat.{ℕ, ◌-◌, ◌≤◌, ◌<◌}
use native.Mathlib.Nat.{sub-zero}
use native.Mathlib.Omega.{arith}
use borrow.Author.Tests.{ne_eqb}
use lib.Dec.{eqb}
use lib.ListN.{length}
use Rattle.refusals.specs.declared.Refusal.TheVariants.{NoActor}
use Rattle.std.specs.Prelude.{Err}
use Rattle.refusals.specs.Verdict.{Verdict, passes}
use Rattle.refusals.specs.Outcome.{refused, after}
use Rattle.format.specs.Forest.{count, no_trees}
use Rattle.format.specs.Book.{Definition, Book, trees}
use Rattle.format.specs.Layout.{entry_at, nodes_part, definitions_part, files_part}
use Rattle.format.specs.Whole.{definition_at, tree_at, actor_at}
use Rattle.format.proofs.Admitted.{trees-whole}
use Rattle.format.proofs.Stored.{tree-opens, actor-none, actor-some}
use Rattle.book.specs.declared.kinds.Contents.{Contents}
use Rattle.book.specs.Reading.{EntryWithin, Admitted, stored_root}
use Rattle.book.proofs.Opened.{nodes-count, definitions-count}
use Rattle.judgement.specs.Environment.{keep}
use Rattle.judgement.specs.Actor.{main_actor}
use Rattle.judgement.specs.Check.{once_verdict}
use Rattle.judgement.proofs.Lookup.{keep-first}
use Rattle.environment.specs.Tables.{Binds, Entries, Roots, DefinesAs, definitions_in}
use Rattle.environment.proofs.Definitions.{defined-length, defined-binds, defined-once}
use Rattle.environment.specs.declared.scope.Scope.{Scope}
use Rattle.environment.specs.Trees.{AllTrees}
use Rattle.environment.proofs.Book.{few-definitions, entries-known, nodes-known, trees-fit}
use Rattle.syntax.proofs.Book.{all-made, definitions-parts, owners-rise, main-actor-is, file-root, some-files, files-within}
use Rattle.listing.specs.Chase.{chase_types, walked}
use Rattle.listing.specs.Room.{needs_actor}
use Rattle.listing.specs.DraftList.{draft_definitions, draft_list}
use Rattle.std.proofs.Common.{Result, None, Some, is_some, rules, tests}
use Rattle.syntax.proofs.files.Laws.{root-some}
use Rattle.refusals.specs.declared.Refusal.{Refusal}
use Rattle.analysis.specs.declared.chase.Walk.{Walk}
use Rattle.analysis.specs.Walking.{Counted, WalkedAs}
use Rattle.passed.specs.Answers.{walk_outcome}
use Rattle.passed.specs.Drafts.{OwnAs, MainWritten}
use Rattle.passed.proofs.Walks.{Walks, walk-says}
use Rattle.passed.proofs.Walks as walks
use Rattle.format.specs.Encode.{Entry}

root-is : {n root : ℕ} → stored_root n ≡ Some root → root ≡ n
unfolding stored_root
root-is {n} {root} = look (eqb n 65535)
  where
    look : (b : Bool) → cond b None (Some n) ≡ Some root → root ≡ n
    look true h = search (rules, tests)
    look false h = search (rules, tests)

module _ {bs : List ℕ} {c : Contents} (a : Admitted bs c) where
  abbrev b : Book
  b = a.book

  abbrev rows : List ℕ
  rows = nodes_part bs

  abbrev entries : List ℕ
  entries = definitions_part bs

  book-trees : AllTrees rows (length b.names) (count (trees b))
  book-trees = record { nodes = nodes-known bs a.laid; whole = trees-whole bs a.laid; fits = trees-fit bs a.laid }

  -- ---- Main's actor as written
  pub files-first : {fs : List ℕ} → fs ≡ files_part bs → EntryWithin fs 1
  files-first e =
      let f = files-within bs a.laid in
      rw e (record { held = omega (arith, f.held, some-files bs a.laid); few = f.few })

  pub main-root : {fs : List ℕ} → fs ≡ files_part bs → {e : Entry} → e ≡ entry_at fs 0 → e.root ≡ (entry_at (files_part bs) 0).root
  main-root here q = ap (λ (e : Entry). e.root) q ∙ ap (λ (fs : List ℕ). (entry_at fs 0).root) here

  pub main-written : {n root : ℕ} → n ≡ (entry_at (files_part bs) 0).root → stored_root n ≡ Some root → MainWritten bs root
  main-written e h =
      let i = root-is h in
      record { is = i ∙ e; some = λ q. root-some (ap is_some h) (sym i ∙ q) }

  main-is : {root : ℕ} → root ≡ (entry_at (files_part bs) 0).root → main_actor b ≡ actor_at rows root
  main-is e = main-actor-is bs a.laid ∙ ap (actor_at rows) (sym e)

  pub draft-lacks : {root : ℕ} → root ≡ (entry_at (files_part bs) 0).root → root ≡ 65535 → draft_list b ≡ refused NoActor
  unfolding draft_list after needs_actor no_trees
  draft-lacks {root} e h = rw (main-is e, actor-none rows root h)

  module _ {root : ℕ} (m : MainWritten bs root) where
    root-inside : root < count (trees b)
    root-inside = rw m.is (file-root bs a.laid 0 (some-files bs a.laid) (λ h. m.some (m.is ∙ h)))

    draft-goes : (v : Verdict) → v ≡ once_verdict [] (draft_definitions b) → draft_list b ≡ after v (walked (chase_types (draft_definitions b) (tree_at rows root)))
    unfolding draft_list after needs_actor no_trees
    draft-goes v e =
        rw (main-is m.is, actor-some rows root m.some, tree-opens (book-trees.nodes.tree root root-inside).whole, e)

    -- ---- Main's own definitions
    module _ {k : ℕ} (own : OwnAs entries c.definitions k) where
      s : OwnAs entries (length b.definitions) k
      s = rw (← definitions-count a) own

      later : (d : ℕ) → k ≤ d → d < length b.definitions → (entry_at entries d).owner ≡ 0 → ⊥
      later d l h e = s.next (omega arith) (omega (arith, owners-rise bs a.laid k d l h))

      draft-definitions-are : draft_definitions b ≡ definitions_in rows entries 0 k
      unfolding draft_definitions
      draft-definitions-are =
          let first = definitions_in rows entries 0 k in
          let others = definitions_in rows entries k (length b.definitions) in
          ap (keep (λ (d : Definition). eqb d.file 0)) (definitions-parts bs a.laid k s.within)
          ∙ keep-first (λ (d : Definition). eqb d.file 0) first others
          (all-made (λ (d : Definition). eqb d.file 0 ≡ true) (definition_at rows) (entry_at entries) 0 (k - 0) (λ i l m. rw (s.own i (omega arith))))
          (all-made (λ (d : Definition). eqb d.file 0 ≡ false) (definition_at rows) (entry_at entries) k (length b.definitions - k)
          (λ i l m. ne_eqb (entry_at entries i).owner 0 (later i l (omega (arith, s.within)))))

      draft-entries : Entries entries (length b.names) (count (trees b)) 0 k
      draft-entries = entries-known bs a.laid 0 k (omega arith) s.within

      -- what `enter` asks
      pub within : k ≤ c.definitions
      within = own.within

      module _ {roots : List ℕ} {v : Verdict} (found : DefinesAs entries c.nodes 0 k roots v) where
        d : DefinesAs entries (count (trees b)) 0 k roots v
        d = rw (← nodes-count a) found

        once-is : v ≡ once_verdict [] (draft_definitions b)
        once-is = defined-once rows draft-entries d ∙ sym (ap (once_verdict []) draft-definitions-are)

        pub draft-twice : {why : Refusal} → v ≡ Err why → draft_list b ≡ refused why
        unfolding after
        draft-twice e = draft-goes (Err _) (sym e ∙ once-is)

        module _ (h : v ≡ passes) where
          passed : DefinesAs entries (count (trees b)) 0 k roots passes
          passed = subst (DefinesAs entries (count (trees b)) 0 k roots) h d

          bound : Binds rows roots (draft_definitions b)
          bound = rw draft-definitions-are (defined-binds rows draft-entries passed book-trees.nodes.few_nodes)

          few : length (draft_definitions b) ≤ 512
          few = omega (arith, ap length draft-definitions-are ∙ defined-length rows draft-entries ∙ sub-zero k, s.within, few-definitions bs a.laid)

          pub table-in : Roots roots c.nodes
          table-in = rw (nodes-count a) passed.table

          module _ (scope : Scope) (nodes-here : scope.rows.now ≡ rows) (table : scope.roots.now ≡ roots) where
            -- what the walk over the tree as written asks, and what it says
            pub root-in : scope.nodes ≡ c.nodes → root < scope.nodes
            root-in many = rw (many, nodes-count a) root-inside

            pub counted : Counted scope.rows.now scope.roots.now
            counted = rw (nodes-here, table) (walks.counted (draft_definitions b) bound few)

            module _ (w : Result Walk Refusal) (x : WalkedAs scope.rows.now scope.roots.now (tree_at scope.rows.now root) w) where
              draft-walks : Walks rows roots (draft_definitions b) (tree_at rows root) w
              draft-walks = record { binds = bound; few = few; comes = rw (nodes-here, table) at x }

              pub draft-says : draft_list b ≡ walk_outcome w
              unfolding after
              draft-says = walk-says draft-walks (draft-goes passes (sym h ∙ once-is))
