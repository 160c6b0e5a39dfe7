-- The bytes of a book that fits: its table of contents, its four bodies, and what is read from them. Assumes nothing.
--     FitsParts, fit-parts, parts-fit    what it is to fit, by its parts
--     Placed, placed                     what the table of contents says
--     names-part, nodes-part, ..         the bodies
--     trees-rows, definitions-run, ..    the trees and the entries that are read from them
--     read-back, rules-met               the book is read back, and its bytes meet the rules
use mathlib.Core.Path.{◌≡◌, refl, sym, ap, ap₂, ◌∙◌}
use mathlib.Core.List.{List, [], ◌∷◌, ◌++◌, append_assoc, append-nil}
use Prim.Native.Nat.{ℕ, ◌+◌, ◌*◌, ◌/◌, ◌≤◌}
use native.Mathlib.Nat.{zero-add, sub-zero}
use native.Mathlib.Omega.{arith}
use lib.Dec.{T}
use lib.ListN.{length, length-append}
use Rattle.format.specs.declared.Place.TheVariants.{Root}
use Rattle.format.specs.Forest.{Forest, count, preorder, map_forest, after_trees}
use Rattle.format.specs.Node.{Node}
use Rattle.format.specs.Book.{File, Book, bodies, actors, trees}
use Rattle.format.specs.Encode.{Row, sized, name_bytes, definition_entries, file_entries, names_bytes, nodes_bytes, definitions_bytes, files_bytes, contents_bytes, encode}
use Rattle.refusals.specs.Lists.{flat}
use Rattle.format.specs.Fits.{max_names, max_nodes, max_definitions, max_files, max_bytes, every, is_name, ascending, definition_fits, files_rise, file_fits, roles_fit, fits, forest_fits, Fits}
use Rattle.format.specs.Layout.{le32, row_at, entry_at, run, node_of, names_of, names_part, nodes_part, definitions_part, files_part, row_trees, siblings, entries, definitions_of, files_of, part, read}
use Rattle.format.specs.Rules.{Contents, Names, Rules, good_entries}
use Rattle.format.proofs.Logic.{says}
use Rattle.format.proofs.Trees.{length-preorder, count-beside, count-sized, sized-sized}
use Rattle.format.proofs.Bytes.{toc-length, toc-read, part-of, rows-length, rows-read, entries-length, entries-read}
use Rattle.format.proofs.Names.{names-all}
use Rattle.format.proofs.Rows.{stored}
use Rattle.format.proofs.Nodes.{forest-read}
use Rattle.format.proofs.Entries.{length-definitions, length-files, entries-good, definitions-back, files-back, after-bodies, trees-fit, definitions-small, files-small}

-- ---- What it is to fit, in parts
pub record FitsParts (b : Book) : Type 0 where
  pub short : length (encode b) ≤ max_bytes
  pub few_names : length b.names ≤ max_names
  pub few_nodes : count (trees b) ≤ max_nodes
  pub few_definitions : length b.definitions ≤ max_definitions
  pub few_files : length b.files ≤ max_files
  pub names : T (every is_name b.names)
  pub rising : T (ascending b.names)
  pub definitions : T (every (definition_fits (length b.names) (length b.files)) b.definitions)
  pub grouped : T (files_rise 0 b.definitions)
  pub files : T (every (file_fits (length b.names)) b.files)
  pub roles : T (roles_fit b.files)

pub parts-fit : {b : Book} → FitsParts b → Fits b
unfolding fits
parts-fit p =
    simp says ((((((((((p.short, p.few_names), p.few_nodes), p.few_definitions), p.few_files), p.names), p.rising), p.definitions), p.grouped), p.files), p.roles)

pub fit-parts : {b : Book} → Fits b → FitsParts b
unfolding fits
fit-parts h =
    let p = simp says at h in
    record {
      short = p.0.0.0.0.0.0.0.0.0.0;
      few_names = p.0.0.0.0.0.0.0.0.0.1;
      few_nodes = p.0.0.0.0.0.0.0.0.1;
      few_definitions = p.0.0.0.0.0.0.0.1;
      few_files = p.0.0.0.0.0.0.1;
      names = p.0.0.0.0.0.1;
      rising = p.0.0.0.0.1;
      definitions = p.0.0.0.1;
      grouped = p.0.0.1;
      files = p.0.1;
      roles = p.1;
    }

-- ---- The table of contents

-- Where the bodies of a book are in bytes, and how many things each has: what the table of contents says.
pub record Placed (bs : List ℕ) (b : Book) : Type 0 where
  pub names_at : 32 ≡ le32 bs 0
  pub names : length b.names ≡ le32 bs 4
  pub nodes_at : 32 + length (names_bytes b) ≡ le32 bs 8
  pub nodes : count (trees b) ≡ le32 bs 12
  pub definitions_at : le32 bs 8 + length (nodes_bytes b) ≡ le32 bs 16
  pub definitions : length b.definitions ≡ le32 bs 20
  pub files_at : le32 bs 16 + length (definitions_bytes b) ≡ le32 bs 24
  pub files : length b.files ≡ le32 bs 28
  pub ends : le32 bs 24 + length (files_bytes b) ≡ length bs

grown : (xs ys : List ℕ) {n : ℕ} → length xs ≡ n → length (xs ++ ys) ≡ n + length ys
grown xs ys e = length-append xs ys ∙ ap (λ (k : ℕ). k + length ys) e

module _ (b : Book) where
  contents-length : length (contents_bytes b) ≡ 32
  unfolding contents_bytes
  contents-length = toc-length _ _ _ _ _ _ _ _

  -- the bytes up to the end of each body
  names-end : length (contents_bytes b ++ names_bytes b) ≡ 32 + length (names_bytes b)
  names-end = grown (contents_bytes b) (names_bytes b) contents-length

  nodes-end : length (contents_bytes b ++ names_bytes b ++ nodes_bytes b) ≡ 32 + length (names_bytes b) + length (nodes_bytes b)
  nodes-end = grown (contents_bytes b ++ names_bytes b) (nodes_bytes b) names-end

  definitions-end :
      length (contents_bytes b ++ names_bytes b ++ nodes_bytes b ++ definitions_bytes b) ≡ 32 + length (names_bytes b) + length (nodes_bytes b) + length (definitions_bytes b)
  definitions-end = grown (contents_bytes b ++ names_bytes b ++ nodes_bytes b) (definitions_bytes b) nodes-end

  encode-length : length (encode b) ≡ 32 + length (names_bytes b) + length (nodes_bytes b) + length (definitions_bytes b) + length (files_bytes b)
  unfolding encode
  encode-length = grown (contents_bytes b ++ names_bytes b ++ nodes_bytes b ++ definitions_bytes b) (files_bytes b) definitions-end

  pub nodes-length : length (nodes_bytes b) ≡ count (trees b) * 12
  unfolding nodes_bytes
  nodes-length =
      rows-length (preorder (sized (trees b))) ∙ ap (λ (n : ℕ). n * 12) (length-preorder (sized (trees b)) ∙ count-sized (trees b))

  pub definitions-length : length (definitions_bytes b) ≡ length b.definitions * 8
  unfolding definitions_bytes
  definitions-length = entries-length (definition_entries 0 b.definitions) ∙ ap (λ (n : ℕ). n * 8) (length-definitions 0 b.definitions)

  pub files-length : length (files_bytes b) ≡ length b.files * 8
  unfolding files_bytes
  files-length =
      let next : ℕ = count (bodies b.definitions) in
      entries-length (file_entries next b.files) ∙ ap (λ (n : ℕ). n * 8) (length-files next b.files)

  -- the bytes, grouped to the right from the second, the third, .. part on
  by-nodes : encode b ≡ contents_bytes b ++ names_bytes b ++ nodes_bytes b ++ (definitions_bytes b ++ files_bytes b)
  unfolding encode
  by-nodes = append_assoc (contents_bytes b ++ names_bytes b ++ nodes_bytes b) (definitions_bytes b) (files_bytes b)

  by-names : encode b ≡ contents_bytes b ++ names_bytes b ++ (nodes_bytes b ++ (definitions_bytes b ++ files_bytes b))
  by-names = by-nodes ∙ append_assoc (contents_bytes b ++ names_bytes b) (nodes_bytes b) (definitions_bytes b ++ files_bytes b)

  by-contents : encode b ≡ contents_bytes b ++ (names_bytes b ++ (nodes_bytes b ++ (definitions_bytes b ++ files_bytes b)))
  by-contents = by-names ∙ append_assoc (contents_bytes b) (names_bytes b) (nodes_bytes b ++ (definitions_bytes b ++ files_bytes b))

-- A book that fits has its bodies where its contents say.
pub placed : {b : Book} → FitsParts b → Placed (encode b) b
unfolding contents_bytes
placed {b} p =
    let l = encode-length b in
    let s = p.short in
    let toc =
    toc-read 32 (length b.names) (32 + length (names_bytes b)) (count (trees b)) (32 + length (names_bytes b) + length (nodes_bytes b)) (length b.definitions)
    (32 + length (names_bytes b) + length (nodes_bytes b) + length (definitions_bytes b)) (length b.files) (names_bytes b ++ (nodes_bytes b ++ (definitions_bytes b ++ files_bytes b)))
    (omega arith) (omega (arith, p.few_names)) (omega arith) (omega (arith, p.few_nodes)) (omega arith) (omega (arith, p.few_definitions)) (omega arith) (omega (arith, p.few_files)) in
    rw (by-contents b)
    (record {
      names_at = sym toc.names_at;
      names = sym toc.names;
      nodes_at = sym toc.nodes_at;
      nodes = sym toc.nodes;
      definitions_at = omega (arith, toc.nodes_at, toc.definitions_at);
      definitions = sym toc.definitions;
      files_at = omega (arith, toc.definitions_at, toc.files_at);
      files = sym toc.files;
      ends = omega (arith, toc.files_at, ap length (by-contents b));
    })

some-files : (fs : List File) → T (roles_fit fs) → 1 ≤ length fs
unfolding roles_fit
some-files [] h = absurd h
some-files (f ∷ fs) h = omega arith

-- ---- The four bodies, and what is read from them

body : {bs : List ℕ} {a e : ℕ} (xs ys zs : List ℕ) → bs ≡ xs ++ ys ++ zs → length xs ≡ a → a + length ys ≡ e → part a e bs ≡ ys
body {bs} {a} {e} xs ys zs h l k = ap (part a e) h ∙ part-of xs ys zs a e l k

module _ {b : Book} (p : FitsParts b) where
  pub names-part : names_part (encode b) ≡ names_bytes b
  unfolding names_part
  names-part = body (contents_bytes b) (names_bytes b) _ (by-names b) (contents-length b) (placed p).nodes_at

  pub nodes-part : nodes_part (encode b) ≡ nodes_bytes b
  unfolding nodes_part
  nodes-part = body (contents_bytes b ++ names_bytes b) (nodes_bytes b) _ (by-nodes b) (names-end b ∙ (placed p).nodes_at) (placed p).definitions_at

  pub definitions-part : definitions_part (encode b) ≡ definitions_bytes b
  unfolding definitions_part encode
  definitions-part =
      let w = placed p in
      body (contents_bytes b ++ names_bytes b ++ nodes_bytes b) (definitions_bytes b) (files_bytes b) refl
      (omega (arith, nodes-end b, w.nodes_at, w.definitions_at)) w.files_at

  pub files-part : files_part (encode b) ≡ files_bytes b
  unfolding files_part encode
  files-part =
      let w = placed p in
      body (contents_bytes b ++ names_bytes b ++ nodes_bytes b ++ definitions_bytes b) (files_bytes b) [] (sym (append-nil (encode b)))
      (omega (arith, definitions-end b, w.nodes_at, w.definitions_at, w.files_at)) w.ends

  -- the trees together: they are few, and fit
  few : count (bodies b.definitions) + count (actors b.files) ≤ max_nodes
  unfolding trees
  few = rw (← count-beside (bodies b.definitions) (actors b.files)) p.few_nodes

  pub all-fit : T (forest_fits (length b.names) Root (trees b))
  unfolding trees
  all-fit = trees-fit (length b.names) (length b.files) b.definitions b.files p.definitions p.files

  pub rows-run : run (row_at (nodes_bytes b)) 0 (count (trees b)) ≡ preorder (sized (trees b))
  unfolding nodes_bytes
  rows-run =
      let rs : List Row = preorder (sized (trees b)) in
      let n : length rs ≡ count (trees b) = length-preorder (sized (trees b)) ∙ count-sized (trees b) in
      rw (← n) (rows-read rs ((forest-read (length b.names) Root (trees b) all-fit).small p.few_names (omega (arith, p.few_nodes))))

  pub definitions-run : run (entry_at (definitions_bytes b)) 0 (length b.definitions) ≡ definition_entries 0 b.definitions
  unfolding definitions_bytes
  definitions-run =
      rw (← length-definitions 0 b.definitions)
      (entries-read (definition_entries 0 b.definitions)
      (definitions-small (length b.names) p.few_names (length b.files) 0 b.definitions p.few_files (omega (arith, few)) p.definitions))

  pub files-run : run (entry_at (files_bytes b)) 0 (length b.files) ≡ file_entries (count (bodies b.definitions)) b.files
  unfolding files_bytes
  files-run =
      let next : ℕ = count (bodies b.definitions) in
      rw (← length-files next b.files)
      (entries-read (file_entries next b.files) (files-small (length b.names) p.few_names next b.files (omega (arith, few)) p.files))

  pub trees-rows : row_trees (nodes_bytes b) 0 (count (trees b)) ≡ sized (trees b)
  trees-rows = stored (nodes_bytes b) 0 (count (trees b)) (sized (trees b)) (sized-sized (trees b)) (rw (sub-zero (count (trees b))) (sym rows-run))

  pub trees-nodes : siblings (nodes_bytes b) 0 (count (trees b)) ≡ trees b
  unfolding siblings
  trees-nodes = ap (map_forest node_of) trees-rows ∙ (forest-read (length b.names) Root (trees b) all-fit).same

  read-names : names_of (length (names_part (encode b))) (names_part (encode b)) ≡ b.names
  unfolding names_bytes
  read-names = rw names-part (names-all b.names)

  read-trees : siblings (nodes_part (encode b)) 0 (length (nodes_part (encode b)) / 12) ≡ trees b
  read-trees = let n : length (nodes_bytes b) / 12 ≡ count (trees b) = omega (arith, nodes-length b) in rw (nodes-part, n) trees-nodes

  read-definitions : entries (definitions_part (encode b)) ≡ definition_entries 0 b.definitions
  unfolding entries
  read-definitions =
      let n : length (definitions_bytes b) / 8 ≡ length b.definitions = omega (arith, definitions-length b) in rw (definitions-part, n) definitions-run

  read-files : entries (files_part (encode b)) ≡ file_entries (count (bodies b.definitions)) b.files
  unfolding entries
  read-files = let n : length (files_bytes b) / 8 ≡ length b.files = omega (arith, files-length b) in rw (files-part, n) files-run

  -- The encoding of a book that fits is read as the book.
  pub read-back : read (encode b) ≡ b
  unfolding read trees
  read-back =
      let names : ℕ = length b.names in
      let files : ℕ = length b.files in
      let g : Forest Node = actors b.files in
      let definitions = ap₂ definitions_of read-definitions read-trees ∙ definitions-back names files 0 b.definitions g p.definitions in
      let others = ap₂ after_trees (ap length read-definitions) read-trees ∙ after-bodies names files 0 b.definitions g p.definitions in
      let last = ap₂ files_of read-files others ∙ files-back names (count (bodies b.definitions)) b.files (omega (arith, few)) p.files in
      λ i. record { names = read-names i; definitions = definitions i; files = last i }

  -- ---- It meets the rules
  good-contents : Contents (encode b)
  good-contents =
      let w = placed p in
      let l = encode-length b in
      let n = nodes-length b in
      let d = definitions-length b in
      let f = files-length b in
      record {
        long = omega arith;
        short = p.short;
        names_at = sym w.names_at;
        few_names = omega (arith, w.names, p.few_names);
        nodes_at = omega (arith, w.nodes_at);
        few_nodes = omega (arith, w.nodes, p.few_nodes);
        definitions_at = omega (arith, w.nodes, w.definitions_at);
        few_definitions = omega (arith, w.definitions, p.few_definitions);
        files_at = omega (arith, w.definitions, w.files_at);
        some_files = omega (arith, w.files, some-files b.files p.roles);
        few_files = omega (arith, w.files, p.few_files);
        ends = omega (arith, w.files, w.ends);
      }

  good-names : Names (length b.names) (names_bytes b)
  unfolding names_bytes
  good-names =
      let e = names-all b.names in
      record { filled = ap (flat name_bytes) e; counted = ap length e; rising = rw e p.rising }

  good-entries :
      T (good_entries (length b.names) (length b.files) 0 0 (definition_entries 0 b.definitions) (file_entries (count (bodies b.definitions)) b.files) (sized (trees b)))
  unfolding trees
  good-entries =
      rw (← zero-add (count (bodies b.definitions)))
      (entries-good (length b.names) (length b.files) 0 0 b.definitions b.files (omega (arith, p.few_nodes)) p.definitions p.grouped p.files p.roles)

  -- The encoding of a book that fits meets the rules.
  pub rules-met : Rules (encode b)
  rules-met =
      let w = placed p in
      record {
        contents = good-contents;
        names = rw (← w.names, names-part) good-names;
        sized = rw (nodes-part, ← w.nodes, trees-rows) (sized-sized (trees b));
        nodes = rw (← w.names, nodes-part, ← w.nodes, trees-rows) (forest-read (length b.names) Root (trees b) all-fit).good;
        entries =
            rw (← w.names, nodes-part, ← w.nodes, trees-rows, ← w.files, ← w.definitions, definitions-part, files-part, definitions-run, files-run) good-entries;
      }
