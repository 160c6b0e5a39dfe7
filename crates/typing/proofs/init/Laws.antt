-- The check of init arguments: what each step asks, and the verdict after each. Assumes nothing.
use mathlib.Core.Path.{◌≡◌, refl, sym, ap, ap₂, subst, ◌∙◌}
use mathlib.Core.Bool.{Bool, true, false, cond, false≢true}
use mathlib.Core.List.{List, [], ◌∷◌, map}
use Prim.Native.Nat.{ℕ, suc, ◌+◌, ◌-◌, ◌≤◌, ◌<◌}
use native.Mathlib.Nat.{sub-zero}
use native.Mathlib.Omega.{arith}
use native.Mathlib.Decide.{dec_lt, ℕ_discrete}
use borrow.Author.Tests.{eq-eqb, ne_eqb, lt-ltb}
use lib.Dec.{eqb}
use lib.ListN.{length, get_or, length-append}
use Rattle.format.specs.Forest.{Forest, count}
use Rattle.format.specs.Node.{Node}
use Rattle.format.specs.Book.{Definition, Book, trees}
use Rattle.format.specs.Encode.{Row, Entry}
use Rattle.format.specs.Layout.{run, row_at, entry_at, nodes_part, definitions_part, files_part, siblings, read}
use Rattle.format.specs.Whole.{tree_at, definition_at}
use Rattle.format.proofs.Lists.{all-of}
use Rattle.format.proofs.Rows.{nothing, siblings-none, kids-whole}
use Rattle.format.proofs.Stored.{actor-some}
use Rattle.format.proofs.Admitted.{definition-stored}
use Rattle.format.proofs.Theorems.{found}
use Rattle.book.specs.declared.kinds.Contents.{Contents}
use denote.Bor.{Bor}
use Rattle.std.specs.Prelude.{Option, Some, None, IfSome, IfNone, filter, Result, Ok, Err, IfOk}
use Rattle.std.specs.Option.{is_none}
use Rattle.std.specs.Result.{is_err}
use Rattle.refusals.specs.declared.Refusal.{Refusal}
use Rattle.book.specs.Reading.{EntryWithin, Admitted}
use Rattle.refusals.specs.Verdict.{Verdict, passes, verdict_of}
use Rattle.judgement.specs.Environment.{keep, find_type, is_missing, main_definitions, init_definitions, merge_definitions, kids_of}
use Rattle.judgement.specs.Check.{decs_verdict, merge_verdict, init_verdict, check_forest, each_name, circle_verdict}
use Rattle.judgement.specs.Actor.{init_tree, NoInit}
use Rattle.judgement.proofs.Books.{init-definitions-fit}
use Rattle.judgement.proofs.MergeChains.{merged-no-circle}
use Rattle.judgement.proofs.Lookup.{keep-last}
use Rattle.judgement.proofs.Theorems.{no-init-tree, init-verdict}
use Rattle.book.specs.Tables.{blank_table, HashesAgree, HashesOf}
use Rattle.environment.specs.Tables.{Entries, Roots, Binds, AliasEndsAs, found_at, definitions_in}
use Rattle.environment.specs.Merging.{Mergeable, MergedAs}
use Rattle.environment.proofs.FuncEnds.{ends-func}
use Rattle.book.proofs.Blank.{blank-at}
use Rattle.environment.proofs.Definitions.{defined-length}
use Rattle.environment.proofs.merge.Tables.{merged-roots, merged-binds}
use Rattle.environment.proofs.Links.{found-none, found-some}
use Rattle.typing.specs.Types.{Reads, WalkEnv}
use Rattle.typing.proofs.Walk.{Said, many-stops, many-pass}
use Rattle.syntax.specs.Files.{init_at, SplitAs}
use Rattle.typing.specs.Decs.{DecsAs}
use Rattle.typing.specs.declared.init.InitArgs.{InitArgs}
use Rattle.typing.specs.declared.tables.Tables.{Tables}
use Rattle.typing.specs.declared.types.Walk.{Walk}
use Rattle.typing.specs.Init.{lacked, both_definitions, InitFile, NoInitFile, own_definitions, OwnDecsAs, OwnPassed, MergeAs, Merged, Seen, ArgumentsFound, InitPassedAs, InitSeenAs, InitFoundAs}
use Rattle.typing.specs.declared.prog.Passed.{Passed as Handed}
use Rattle.typing.specs.Passing.{PassedAs}
use Rattle.environment.proofs.Trees.{blank-nodes}
use Rattle.syntax.proofs.Stored.{tree-kids}
use Rattle.environment.proofs.Book.{few-all, book-trees, all-trees, rows-exact, entries-of, entries-known}
use Rattle.syntax.proofs.Book.{files-held, names-book, init_of, init-within, no-init, init-definitions-none, init-tree-is, init-root, main-definitions-are, init-definitions-are, file-root}
use Rattle.book.proofs.Opened.{names-count, nodes-count, definitions-count, files-count}
use Rattle.typing.proofs.prog.Laws.{definitions-passed}

-- ---- The definitions of main that init lacks, counted
abbrev pub is-lacked : List ℕ → Entry → Bool
is-lacked init e = eqb (get_or init e.name 65535) 65535

pub lacked-counted : (init es ns : List ℕ) (main : ℕ) → length (filter (is-lacked init) (run (entry_at es) 0 main)) ≡ length (lacked init (definitions_in ns es 0 main))
unfolding lacked keep
lacked-counted init es ns main = rw (sub-zero main) (go (run (entry_at es) 0 main))
  where
    go : (xs : List Entry) → length (filter (is-lacked init) xs) ≡ length (lacked init (map (definition_at ns) xs))
    go [] = refl
    go (x ∷ xs) = one (is-lacked init x) _ _ _ (go xs)
      where
        one : (b : Bool) (xs : List Entry) (d : Definition) (ds : List Definition) → length xs ≡ length ds → length (cond b (x ∷ xs) xs) ≡ length (cond b (d ∷ ds) ds)
        one true xs d ds e = ap suc e
        one false xs d ds e = e

-- what `root_of` says of it
pub root-lacked : (o : Option ℕ) (root : ℕ) → IfNone o (root ≡ 65535) → IfSome o (λ r. (r ≡ root) × (r ≡ 65535 → ⊥)) → is_none o ≡ eqb root 65535
root-lacked None root e s = sym (eq-eqb root 65535 e)
root-lacked (Some r) root e s = sym (ne_eqb root 65535 (λ z. s.1 (s.0 ∙ z)))

-- what a table lacks is what its definitions lack
missing-is : (ns : List ℕ) (root : ℕ) → is_missing (found_at ns root) ≡ eqb root 65535
unfolding is_missing
missing-is ns root = go (ℕ_discrete root 65535)
  where
    go : Dec (root ≡ 65535) → is_missing (found_at ns root) ≡ eqb root 65535
    go (yes e) = rw (found-none ns root e, eq-eqb root 65535 e)
    go (no e) = rw (found-some ns root e, ne_eqb root 65535 e)

lacked-is : (ns init : List ℕ) (ids : List Definition) → Binds ns init ids → (ds : List Definition) → keep (λ d. is_missing (find_type ids d.name)) ds ≡ lacked init ds
unfolding lacked keep
lacked-is ns init ids x [] = refl
lacked-is ns init ids x (d ∷ ds) = rw (x d.name, missing-is ns (get_or init d.name 65535)) (ap (λ (l : List Definition). cond (eqb (get_or init d.name 65535) 65535) (d ∷ l) l) (lacked-is ns init ids x ds))

-- no more are kept than there are
keep-short : (test : Definition → Bool) (ds : List Definition) → length (keep test ds) ≤ length ds
unfolding keep
keep-short test [] = omega arith
keep-short test (d ∷ ds) = go (test d) (keep-short test ds)
  where
    go : (b : Bool) → length (keep test ds) ≤ length ds → length (cond b (d ∷ keep test ds) (keep test ds)) ≤ suc (length ds)
    go true h = omega (arith, h)
    go false h = omega (arith, h)

-- a merge with nothing
merge-none : (ds : List Definition) → merge_definitions [] ds ≡ ds
unfolding merge_definitions find_type is_missing
merge-none ds = keep-last _ [] ds tt (all-of _ (λ d. refl) ds)

-- ---- The steps
module _ {bs : List ℕ} {c : Contents} (a : Admitted bs c) where
  abbrev rows : List ℕ
  rows = nodes_part bs

  pub own-as : {main : ℕ} {own : Tables} (v : Verdict) → DecsAs (definitions_part bs) rows c.names c.nodes main c.definitions v own → OwnDecsAs bs c main own.roots v
  own-as (Ok tt) d = record { verdict = d.entered.verdict; table = d.entered.checked.table; binds = d.entered.checked.env.binds; left = tt }
  own-as (Err r) d = record { verdict = d.entered.verdict; table = tt; binds = tt; left = d.left.roots }

  hashed : {hs : List ℕ} → HashesOf hs (read bs).names → HashesOf hs a.book.names
  hashed {hs} o = record { long = o.long; agree = subst (HashesAgree hs) (names-book a) o.agree }

  pub mergeable : {own roots hs : List ℕ} → Roots own c.nodes → Roots roots c.nodes →
      HashesOf hs (read bs).names → Mergeable rows hs own roots c.names
  mergeable y z o =
      record { count = c.nodes; nodes = (all-trees a).nodes; hashed = record { spelt = a.book.names; are = hashed o }; counted = sym (names-count a); first = y; second = z }

  pub merge-as : {own roots hs : List ℕ} {v : Verdict} → HashesOf hs (read bs).names →
      ((ns : List (List ℕ)) (ids ds : List Definition) → HashesAgree hs ns → length ns ≡ c.names → Binds rows own ids → Binds rows roots ds → v ≡ merge_verdict ns ids ds) →
      MergeAs a own roots v
  merge-as o said = record { verdict = λ ids ds. said a.book.names ids ds (hashed o).agree (sym (names-count a)) }

  -- the arguments, which are the children of node `root`
  module _ {both : List ℕ} {count' : ℕ} {ends' : List ℕ} (x : AliasEndsAs rows both c.names c.nodes count' ends' passes) {ds : List Definition} (s : Seen bs c both count' ds)
      {o : Bor (List ℕ)} (same : o.now ≡ ends') {w : Walk} (r : Reads bs c both (Some o) w) {root : ℕ} (h : root < c.nodes) {row : Row} (e : row ≡ row_at rows root) where
    env-here : WalkEnv w ds
    env-here =
        rw (r.rows-are, r.roots-are, r.ends-are, same)
        (record { binds = s.binds; func = λ e i u. ends-func (all-trees a).nodes x ds s.binds s.counted i (omega (arith, u.held, rows-exact a)) })

    kids-are : siblings rows (root + 1) (root + row.size) ≡ kids_of (tree_at rows root)
    kids-are = ap (λ (q : Row). siblings rows (root + 1) (root + q.size)) e ∙ sym (tree-kids ((all-trees a).nodes.tree root h).whole)

    pub arguments-stop : {q : Refusal} → Said w false (root + 1) (root + row.size) (Err q) → ArgumentsFound bs count' root ds (Err q)
    arguments-stop said =
        record { verdict = (rw (r.rows-are, r.ends-are) at (sym (many-stops _ _ (sym (said ds env-here))))) ∙ ap (check_forest false false ds) kids-are; passed = tt }

    pub arguments-end : {k : ℕ} → Said w false (root + 1) (root + row.size) (Ok k) → ArgumentsFound bs count' root ds (Ok (record { count = count'; from = root + 1; until = root + row.size }))
    arguments-end said =
        record {
          verdict = (rw (r.rows-are, r.ends-are) at (sym (many-pass _ _ (sym (said ds env-here))).0)) ∙ ap (check_forest false false ds) kids-are;
          passed = rw e refl;
        }

-- ---- The init file
module _ {bs : List ℕ} {c : Contents} (a : Admitted bs c) where
  abbrev b : Book
  b = a.book

  abbrev ids : List Definition
  ids = init_definitions b

  abbrev ds : List Definition
  ds = main_definitions b

  init-same : init_of bs b ≡ init_at (files_part bs) c.files
  init-same = sym (ap (init_at (files_part bs)) (files-count a))

  -- ---- A refusal, wherever it comes from
  stop : {x : Refusal} → Err x ≡ init_verdict b → {both : List ℕ} → both ≡ blank_table → InitFoundAs a both (Err x)
  stop is z = record { seen = record { verdict = is; passed = tt }; left = z }

  -- ---- Without an init file
  module _ (h : NoInitFile a) where
    last : init_of bs b ≡ length b.files
    last = init-same ∙ h ∙ files-count a

    none-here : NoInit b.files
    none-here = no-init bs a.laid last

    all-main : SplitAs (definitions_part bs) (length b.definitions) (init_of bs b) (length b.definitions)
    all-main =
        record {
          within = omega arith;
          before = λ d l e. let o = (definition-stored bs a.laid d l).owner in omega (arith, o, e, last);
          next = λ l. absurd (omega arith);
        }

    own-none : ids ≡ []
    own-none = init-definitions-none bs a.laid last

    both-main : both_definitions b ≡ ds
    both-main = ap (λ (l : List Definition). merge_definitions l ds) own-none ∙ merge-none ds

    main-length : length ds ≡ c.definitions
    main-length =
        ap length (main-definitions-are bs a.laid all-main)
        ∙ defined-length (nodes_part bs) (entries-known bs a.laid 0 (length b.definitions) (omega arith) (omega arith))
        ∙ sub-zero (length b.definitions) ∙ sym (definitions-count a)

    pub init-none : {roots ends' own both : List ℕ} {p : Handed} → PassedAs a roots ends' p → own ≡ blank_table → MergedAs own roots both →
        InitFoundAs a both (Ok (record { count = c.definitions; from = 0; until = 0 }))
    unfolding kids_of find_type
    init-none {own = own} m z g =
        record {
          seen = record {
            verdict = sym (init-verdict b none-here);
            passed =
                record {
                  all = book-trees a;
                  table = merged-roots g (blank-nodes (count (trees b)) own z) m.checked.table;
                  binds =
                      merged-binds g (nodes_part bs) ids ds
                      (λ n. ap (λ (l : List Definition). find_type l n) own-none ∙ sym (found-none (nodes_part bs) _ (ap (λ (l : List ℕ). get_or l n 65535) z ∙ blank-at n)))
                      m.checked.env.binds;
                  counted = ap length both-main ∙ main-length;
                  few = few-all a;
                  arguments = siblings-none (nodes_part bs) 0 0 (omega arith) ∙ sym (ap kids_of (no-init-tree b.files none-here));
                  whole = nothing (nodes_part bs) 0 0 refl (record { held = omega arith; few = (all-trees a).nodes.within.few });
                  within = omega arith;
                };
          };
          left = tt;
        }

  module _ {init : ℕ} (file : InitFile a init) where
    file-is : init_of bs b ≡ init
    file-is = init-same ∙ sym file.is

    init-inside : init < c.files
    init-inside =
        let w = (init-within bs a.laid).0 in
        lt-of (omega (arith, w, file-is, files-count a)) file.some
      where
        lt-of : {i j : ℕ} → i ≤ j → (i ≡ j → ⊥) → i < j
        lt-of {i} {j} l n = go (dec_lt i j)
          where
            go : Dec (i < j) → i < j
            go (yes y) = y
            go (no y) = absurd (n (omega (arith, l)))

    pub init-held : EntryWithin (files_part bs) (init + 1)
    init-held = record { held = omega (arith, (files-held a).held, init-inside); few = (files-held a).few }

    split-file : {roots ends' : List ℕ} {p : Handed} → PassedAs a roots ends' p → SplitAs (definitions_part bs) c.definitions init p.main
    split-file {p = p} x = subst (λ (i : ℕ). SplitAs (definitions_part bs) c.definitions i p.main) (sym file.is) x.split

    inside : init_of bs b < length b.files
    inside = omega (arith, init-inside, file-is, files-count a)

    -- the root of its arguments
    module _ {e : Entry} (at : e ≡ entry_at (files_part bs) init) where
      root-is : e.root ≡ (entry_at (files_part bs) (init_of bs b)).root
      root-is = ap (λ (x : Entry). x.root) at ∙ ap (λ (j : ℕ). (entry_at (files_part bs) j).root) (sym file-is)

      pub root-inside : e.root < c.nodes
      root-inside = omega (arith, root-is, nodes-count a, file-root bs a.laid (init_of bs b) inside (init-root bs a.laid inside))

      tree-is : init_tree b.files ≡ tree_at (nodes_part bs) e.root
      tree-is =
          init-tree-is bs a.laid
          ∙ rw (lt-ltb (init_of bs b) (length b.files) inside) (actor-some (nodes_part bs) _ (init-root bs a.laid inside))
          ∙ ap (tree_at (nodes_part bs)) (sym root-is)

    module _ {k : ℕ} (s : SplitAs (definitions_part bs) c.definitions init k) where
      split-here : SplitAs (definitions_part bs) (length b.definitions) (init_of bs b) k
      split-here = rw (← definitions-count a, file-is) s

      own-are : ids ≡ own_definitions bs c k
      own-are = init-definitions-are bs a.laid split-here ∙ ap (definitions_in (nodes_part bs) (definitions_part bs) k) (sym (definitions-count a))

      main-are : ds ≡ definitions_in (nodes_part bs) (definitions_part bs) 0 k
      main-are = main-definitions-are bs a.laid split-here

      pub main-entries : Entries (definitions_part bs) c.names c.nodes 0 k
      main-entries = entries-of a (omega arith) s.within

      pub few-own : c.definitions - k ≤ 512
      few-own = omega (arith, few-all a)

      module _ {v : Verdict} {own : List ℕ} (d : OwnDecsAs bs c k own v) where
        own-is : v ≡ decs_verdict (length b.names) ids
        own-is = rw (own-are, ← names-count a) d.verdict

      init-own : {x : Refusal} {own : List ℕ} → OwnDecsAs bs c k own (Err x) → {both : List ℕ} → both ≡ blank_table → InitFoundAs a both (Err x)
      unfolding init_verdict
      init-own d z = stop (sym (rw (← own-is d) refl)) z

      own-went : {own : List ℕ} → OwnDecsAs bs c k own passes → OwnPassed a own init k
      own-went d = record { file = file; split = s; own-as = d }

-- ---- Its own definitions, as the code tells the init file
module _ {bs : List ℕ} {c : Contents} (a : Admitted bs c) {init : ℕ} (is : init ≡ init_at (files_part bs) c.files) (some : init ≡ c.files → ⊥) {roots ends' : List ℕ} {p : Handed}
    (m : PassedAs a roots ends' p) where
  file : InitFile a init
  file = record { is = is; some = some }

  pub own-here : {own : List ℕ} → OwnDecsAs bs c p.main own passes → OwnPassed a own init p.main
  own-here d = own-went a file (split-file a file m) d

  pub own-refused : {x : Refusal} {own : List ℕ} → OwnDecsAs bs c p.main own (Err x) → {both : List ℕ} → both ≡ blank_table → InitFoundAs a both (Err x)
  own-refused d z = init-own a file (split-file a file m) d z

-- ---- Where its own definitions passed
module _ {bs : List ℕ} {c : Contents} (a : Admitted bs c) {own : List ℕ} {init k : ℕ} (o : OwnPassed a own init k) {roots ends' : List ℕ} {p : Handed} (m : PassedAs a roots ends' p) where
  abbrev both-ds : List Definition
  both-ds = both_definitions a.book

  pub own-table : Roots own c.nodes
  own-table = o.own-as.table

  pub main-table : Roots roots c.nodes
  main-table = rw (nodes-count a) m.checked.table

  own-binds : Binds (nodes_part bs) own (ids a)
  own-binds = subst (λ (l : List Definition). Binds (nodes_part bs) own l) (sym (own-are a o.file o.split)) o.own-as.binds

  own-passed : decs_verdict (length a.book.names) (ids a) ≡ passes
  own-passed = sym (own-is a o.file o.split o.own-as)

  merge-is : {w : Verdict} → MergeAs a own roots w → w ≡ merge_verdict a.book.names (ids a) (ds a)
  merge-is g = g.verdict (ids a) (ds a) own-binds m.checked.env.binds

  pub init-differs : {x : Refusal} → MergeAs a own roots (Err x) → {both : List ℕ} → both ≡ blank_table → InitFoundAs a both (Err x)
  unfolding init_verdict
  init-differs g z = stop a (sym (rw (own-passed, ← merge-is g) refl)) z

  module _ {both : List ℕ} (g : Merged a own roots both) where
    module _ {n : ℕ} (l : (ns : List ℕ) → n ≡ (c.definitions - k) + length (lacked own (definitions_in ns (definitions_part bs) 0 k))) where
      pub both-table : Roots both c.nodes
      both-table = merged-roots g.table own-table main-table

      both-binds : Binds (nodes_part bs) both both-ds
      both-binds = merged-binds g.table (nodes_part bs) (ids a) (ds a) own-binds m.checked.env.binds

      count-is : length both-ds ≡ n
      unfolding merge_definitions
      count-is =
          length-append (ids a) _
          ∙ ap₂ ◌+◌ (ap length (own-are a o.file o.split) ∙ defined-length (nodes_part bs) (entries-of a o.split.within (omega arith)))
          (ap length (lacked-is (nodes_part bs) own (ids a) own-binds (ds a) ∙ ap (lacked own) (main-are a o.file o.split)))
          ∙ sym (l (nodes_part bs))

      count-few : n ≤ 512
      unfolding lacked
      count-few =
          let x = keep-short (λ d. eqb (get_or own d.name 65535) 65535) (definitions_in (nodes_part bs) (definitions_part bs) 0 k) in
          let y = defined-length (nodes_part bs) (main-entries a o.file o.split) in
          omega (arith, l (nodes_part bs), x, y, o.split.within, few-all a)

      pub init-seen : Seen bs c both n both-ds
      init-seen =
          record {
            binds = both-binds;
            counted = count-is;
            few = count-few;
            ended =
                ap (each_name (λ n. circle_verdict both-ds n (find_type both-ds n)) 0) (names-count a)
                ∙ merged-no-circle (length a.book.names) (ids a) (ds a) (init-definitions-fit a.book ((found bs a.book).0 a.laid).0).exists own-passed
                (definitions-passed a.book m.passed);
          }

      module _ {e : Entry} (at : e ≡ entry_at (files_part bs) init) (r : Result InitArgs Refusal) (x : ArgumentsFound bs n e.root both-ds r) where
        verdict-here : verdict_of r ≡ init_verdict a.book
        unfolding init_verdict
        verdict-here =
            x.verdict ∙ ap (λ (t : Forest Node). check_forest false false both-ds (kids_of t)) (sym (tree-is a o.file at))
            ∙ sym (rw (own-passed, ← merge-is g.passed) refl)

        pub arguments-seen : InitSeenAs a both r
        arguments-seen = record { verdict = verdict-here; passed = go r x.passed }
          where
            go : (r : Result InitArgs Refusal) → IfOk r (λ args. args ≡ record { count = n; from = e.root + 1; until = e.root + (row_at (nodes_part bs) e.root).size }) →
                IfOk r (InitPassedAs (nodes_part bs) a.book both)
            go (Err y) q = tt
            go (Ok args) q =
                let here = (all-trees a).nodes.tree e.root (root-inside a o.file at) in
                rw q
                (record {
                  all = book-trees a;
                  table = rw (← nodes-count a) both-table;
                  binds = both-binds;
                  counted = count-is;
                  few = count-few;
                  arguments = sym (tree-kids here.whole) ∙ ap kids_of (sym (tree-is a o.file at));
                  whole = kids-whole here.whole;
                  within = omega (arith, here.ends, nodes-count a);
                })

-- ---- What is left in the table
module _ {bs : List ℕ} {c : Contents} {a : Admitted bs c} where
  pub init-found : {both : List ℕ} (r : Result InitArgs Refusal) → InitSeenAs a both r → is_err r ≡ false → InitFoundAs a both r
  init-found (Ok x) s f = record { seen = s; left = tt }
  init-found (Err x) s f = absurd (false≢true (sym f))

  pub init-cleared : {both after : List ℕ} (r : Result InitArgs Refusal) → InitSeenAs a both r → is_err r ≡ true → after ≡ blank_table → InitFoundAs a after r
  init-cleared (Ok x) s f z = absurd (false≢true f)
  init-cleared (Err x) s f z = record { seen = record { verdict = s.verdict; passed = tt }; left = z }
