-- What is read from bytes that meet the rules: a book that fits, whose encoding is the very bytes. Assumes nothing.
--     read-fits, read-kept    it fits, and its encoding is the bytes
--     read-placed             what the table of contents says of it
use mathlib.Core.Path.{◌≡◌, sym, ap, ◌∙◌}
use mathlib.Core.List.{List}
use Prim.Native.Nat.{ℕ, ◌+◌, ◌-◌, ◌*◌, ◌/◌}
use native.Mathlib.Nat.{zero-add, sub-zero}
use native.Mathlib.Omega.{arith}
use lib.ListN.{length, take}
use Rattle.format.specs.declared.Place.TheVariants.{Root}
use Rattle.format.specs.Forest.{Forest, count, preorder, map_forest, after_trees}
use Rattle.format.specs.Node.{Node}
use Rattle.format.specs.Book.{Book, bodies, trees}
use Rattle.format.specs.Encode.{Row, row_bytes, sized, Entry, entry_bytes, names_bytes, nodes_bytes, definitions_bytes, files_bytes, contents_bytes, encode}
use Rattle.refusals.specs.Lists.{flat}
use Rattle.format.specs.Layout.{le32, row_at, entry_at, run, node_of, names_of, names_part, nodes_part, definitions_part, files_part, row_trees, siblings, entries, definitions_of, files_of, read}
use Rattle.format.specs.Rules.{Bytes, Rules}
use Rattle.format.proofs.Lists.{All, all-run, run-length}
use Rattle.format.proofs.Trees.{count-map}
use Rattle.format.proofs.Bytes.{row_at-good, rows-write, entries-write, toc-write, part-length, part-bytes, part-join, part-front, part-whole}
use Rattle.format.proofs.Names.{names-are}
use Rattle.format.proofs.Rows.{preorder-row_trees, count-row_trees}
use Rattle.format.proofs.Nodes.{LabelSmall, ForestWrites, forest-write}
use Rattle.format.proofs.Entries.{Written, written, length-definitions_of, length-files_of}
use Rattle.format.proofs.Encoded.{FitsParts, Placed}

module _ (bs : List ℕ) (h : Bytes bs) (r : Rules bs) where
  -- the rows' trees, the entries, and the book that they make
  abbrev rows : Forest Row
  rows = row_trees (nodes_part bs) 0 (le32 bs 12)

  abbrev nodes : Forest Node
  nodes = map_forest node_of rows

  abbrev ds : List Entry
  ds = run (entry_at (definitions_part bs)) 0 (le32 bs 20)

  abbrev fs : List Entry
  fs = run (entry_at (files_part bs)) 0 (le32 bs 28)

  abbrev book : Book
  book =
      record {
        names = names_of (length (names_part bs)) (names_part bs);
        definitions = definitions_of ds nodes;
        files = files_of fs (after_trees (length ds) nodes);
      }

  -- ---- The bodies' lengths
  nodes-long : length (nodes_part bs) ≡ le32 bs 12 * 12
  unfolding nodes_part
  nodes-long =
      let c = r.contents in
      part-length (le32 bs 8) (le32 bs 16) bs (omega (arith, c.definitions_at)) (omega (arith, c.files_at, c.ends)) ∙ omega (arith, c.definitions_at)

  definitions-long : length (definitions_part bs) ≡ le32 bs 20 * 8
  unfolding definitions_part
  definitions-long =
      let c = r.contents in
      part-length (le32 bs 16) (le32 bs 24) bs (omega (arith, c.files_at)) (omega (arith, c.ends)) ∙ omega (arith, c.files_at)

  files-long : length (files_part bs) ≡ le32 bs 28 * 8
  unfolding files_part
  files-long =
      let c = r.contents in
      part-length (le32 bs 24) (length bs) bs (omega (arith, c.ends)) (omega arith) ∙ omega (arith, c.ends)

  names-long : 32 + length (names_part bs) ≡ le32 bs 8
  unfolding names_part
  names-long =
      let c = r.contents in
      let l = part-length 32 (le32 bs 8) bs c.nodes_at (omega (arith, c.definitions_at, c.files_at, c.ends)) in
      omega (arith, c.nodes_at)

  -- ---- The book is the one that is read
  read-is : read bs ≡ book
  unfolding read siblings entries
  read-is =
      let n : length (nodes_part bs) / 12 ≡ le32 bs 12 = omega (arith, nodes-long) in
      let d : length (definitions_part bs) / 8 ≡ le32 bs 20 = omega (arith, definitions-long) in
      let f : length (files_part bs) / 8 ≡ le32 bs 28 = omega (arith, files-long) in
      rw (n, d, f)

  -- ---- Its trees
  labels-small : All LabelSmall (preorder rows)
  unfolding nodes_part
  labels-small =
      rw (preorder-row_trees (nodes_part bs) 0 (le32 bs 12))
      (all-run LabelSmall (row_at (nodes_part bs)) (λ n. (row_at-good (nodes_part bs) n (part-bytes (le32 bs 8) (le32 bs 16) bs h)).good.label) 0 (le32 bs 12 - 0))

  forest : ForestWrites (le32 bs 4) Root rows
  forest = forest-write (le32 bs 4) Root rows r.sized labels-small r.nodes

  made : Written (le32 bs 4) (le32 bs 28) 0 0 ds fs nodes
  made =
      let some = r.contents.some_files in
      written (le32 bs 4) (le32 bs 28) 0 0 ds fs rows (omega (arith, run-length (entry_at (files_part bs)) 0 (le32 bs 28))) r.entries r.nodes forest.fits

  -- ---- Its bodies
  names-kept : names_bytes book ≡ names_part bs
  unfolding names_bytes
  names-kept = r.names.filled

  nodes-kept : nodes_bytes book ≡ nodes_part bs
  unfolding nodes_bytes trees nodes_part
  nodes-kept =
      let ns : List ℕ = nodes_part bs in
      let n : ℕ = le32 bs 12 in
      ap (λ (f : Forest Node). flat row_bytes (preorder (sized f))) made.trees
      ∙ ap (λ (f : Forest Row). flat row_bytes (preorder f)) forest.same
      ∙ ap (flat row_bytes) (preorder-row_trees ns 0 n ∙ ap (run (row_at ns) 0) (sub-zero n))
      ∙ rows-write ns n (part-bytes (le32 bs 8) (le32 bs 16) bs h) nodes-long

  definitions-kept : definitions_bytes book ≡ definitions_part bs
  unfolding definitions_bytes definitions_part
  definitions-kept =
      ap (flat entry_bytes) made.definitions_are
      ∙ entries-write (definitions_part bs) (le32 bs 20) (part-bytes (le32 bs 16) (le32 bs 24) bs h) definitions-long

  files-kept : files_bytes book ≡ files_part bs
  unfolding files_bytes files_part
  files-kept =
      ap (flat entry_bytes) (rw (zero-add (count (bodies book.definitions))) at made.files_are)
      ∙ entries-write (files_part bs) (le32 bs 28) (part-bytes (le32 bs 24) (length bs) bs h) files-long

  -- ---- Its contents, and the whole
  book-placed : Placed bs book
  unfolding trees
  book-placed =
      let c = r.contents in
      let e : count nodes ≡ le32 bs 12 = count-map node_of rows ∙ count-row_trees (nodes_part bs) 0 (le32 bs 12) ∙ sub-zero (le32 bs 12) in
      record {
        names_at = sym c.names_at;
        names = r.names.counted;
        nodes_at = ap (λ (l : List ℕ). 32 + length l) names-kept ∙ names-long;
        nodes = ap count made.trees ∙ e;
        definitions_at = omega (arith, ap length nodes-kept, nodes-long, c.definitions_at);
        definitions = length-definitions_of ds nodes ∙ run-length (entry_at (definitions_part bs)) 0 (le32 bs 20);
        files_at = omega (arith, ap length definitions-kept, definitions-long, c.files_at);
        files = length-files_of fs (after_trees (length ds) nodes) ∙ run-length (entry_at (files_part bs)) 0 (le32 bs 28);
        ends = omega (arith, ap length files-kept, files-long, c.ends);
      }

  contents-kept : contents_bytes book ≡ take 32 bs
  unfolding contents_bytes
  contents-kept =
      let w = book-placed in
      rw (w.names, w.nodes_at, w.nodes, w.definitions_at, w.definitions, w.files_at, w.files)
      (rw r.contents.names_at at (toc-write bs h r.contents.long))

  encode-kept : encode book ≡ bs
  unfolding encode names_part nodes_part definitions_part files_part
  encode-kept =
      let c = r.contents in
      rw (
        contents-kept,
        names-kept,
        nodes-kept,
        definitions-kept,
        files-kept,
        part-front 32 bs,
        part-join 0 32 (le32 bs 8) bs (omega arith) c.nodes_at,
        part-join 0 (le32 bs 8) (le32 bs 16) bs (omega arith) (omega (arith, c.definitions_at)),
        part-join 0 (le32 bs 16) (le32 bs 24) bs (omega arith) (omega (arith, c.files_at)),
        part-join 0 (le32 bs 24) (length bs) bs (omega arith) (omega (arith, c.ends)),
        part-whole bs,
      )

  book-fits : FitsParts book
  unfolding names_part
  book-fits =
      let c = r.contents in
      let w = book-placed in
      record {
        short = rw encode-kept c.short;
        few_names = rw w.names c.few_names;
        few_nodes = rw w.nodes c.few_nodes;
        few_definitions = rw w.definitions c.few_definitions;
        few_files = rw w.files c.few_files;
        names = names-are (length (names_part bs)) (names_part bs) (part-bytes 32 (le32 bs 8) bs h);
        rising = r.names.rising;
        definitions = rw (w.names, w.files) made.definitions_fit;
        grouped = made.rise;
        files = rw w.names made.files_fit;
        roles = made.roles;
      }

  -- ---- So is the book that is read
  pub read-fits : FitsParts (read bs)
  read-fits = rw read-is book-fits

  pub read-kept : encode (read bs) ≡ bs
  read-kept = ap encode read-is ∙ encode-kept

  pub read-placed : Placed bs (read bs)
  read-placed = rw read-is book-placed
