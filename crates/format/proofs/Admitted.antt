-- What a book that was read guarantees of each number in its bytes, for code that walks them. Assumes nothing.
--     encode-bytes                           a book that fits is laid out as bytes
--     admitted-fits, admitted-bytes, ..      of bytes bs that lay out the book b (`layout bs ≡ whole b`): the limits, the contents, the rules
--     names-body, names-read, ..             the four bodies and their lengths, and the names that are read from them
--     trees-whole, trees-are, node-stored    the nodes are whole trees, those of the book, and what is known of each node
--     definition-stored, definitions-are     each definition, and all of them, by the entries
--     file-stored, files-are                 the same of files
--     references-within, references-named    the names that trees refer to are names of the book
use mathlib.Core.Path.{◌≡◌, sym, ap, subst, ◌∙◌}
use mathlib.Core.List.{List, ◌++◌, map}
use Prim.Native.Nat.{ℕ, ◌-◌, ◌*◌, ◌≤◌, ◌<◌}
use native.Mathlib.Nat.{zero-add}
use native.Mathlib.Decide.{ℕ_discrete}
use native.Mathlib.Omega.{arith}
use lib.ListN.{length, get_or}
use Rattle.format.specs.declared.Place.TheVariants.{Root}
use Rattle.format.specs.Forest.{Forest, count, preorder}
use Rattle.format.specs.Node.{Node}
use Rattle.format.specs.Book.{Definition, File, Book, bodies, actors, trees}
use Rattle.format.specs.Encode.{Row, row_bytes, sized, Entry, name_bytes, role_number, definition_entries, file_entries, names_bytes, nodes_bytes, definitions_bytes, files_bytes, contents_bytes, encode}
use Rattle.refusals.specs.Lists.{flat}
use Rattle.format.specs.Fits.{definition_fits, file_fits, Fits}
use Rattle.format.specs.Layout.{row_at, entry_at, run, names_of, names_part, nodes_part, definitions_part, files_part, row_trees, siblings, role_of, whole, layout}
use Rattle.format.specs.References.{references}
use Rattle.format.specs.Rules.{Bytes, Rules, Sized}
use Rattle.format.specs.Whole.{Whole, WholeIn, RowFits, tree_at, definition_at, actor_at, file_at}
use Rattle.format.proofs.Lists.{All, all-map, all-every, all-between, run-all, made-at, made-passes}
use Rattle.format.proofs.Trees.{sized-sized}
use Rattle.format.proofs.Bytes.{append-bytes, append-bytes₄, flat-bytes, row-bytes, entries-bytes, toc-bytes}
use Rattle.format.proofs.Names.{names-bytes, names-all}
use Rattle.format.proofs.Nodes.{rows-fit}
use Rattle.format.proofs.References.{references-siblings, vars-named}
use Rattle.format.proofs.Entries.{role-small, definition-numbers, one-body, file-name, one-actor}
use Rattle.format.proofs.Stored.{node-whole, DefinitionsStored, definitions-stored, actor-none, actor-some, FilesStored, files-stored}
use Rattle.format.proofs.Encoded.{FitsParts, fit-parts, Placed, placed, nodes-length, definitions-length, files-length, names-part, nodes-part, definitions-part, files-part, all-fit, rows-run, definitions-run, files-run, trees-rows, trees-nodes}
use Rattle.format.proofs.Theorems.{found, encode-read, fit-rules}

-- ---- A book that fits is laid out as bytes
rows-bytes : (names : ℕ) (rs : List Row) → All (RowFits names) rs → Bytes (flat row_bytes rs)
rows-bytes names rs h = flat-bytes row_bytes rs (all-map (λ r f. row-bytes r (omega (arith, f.kind)) (omega (arith, f.lkind))) rs h)

pub encode-bytes : (b : Book) → Fits b → Bytes (encode b)
unfolding encode contents_bytes names_bytes nodes_bytes definitions_bytes files_bytes
encode-bytes b h =
    let p = fit-parts h in
    let names : ℕ = length b.names in
    append-bytes (contents_bytes b ++ names_bytes b ++ nodes_bytes b ++ definitions_bytes b) (files_bytes b)
    (append-bytes₄ (contents_bytes b) (names_bytes b) (nodes_bytes b) (definitions_bytes b) (toc-bytes _ _ _ _ _ _ _ _) (names-bytes b.names p.names)
    (rows-bytes names (preorder (sized (trees b))) (rows-fit names Root (trees b) (all-fit p))) (entries-bytes (definition_entries 0 b.definitions)))
    (entries-bytes (file_entries (count (bodies b.definitions)) b.files))

-- ---- What is known of a node, of a definition and of a file, where ns, ds and fs are the bytes of the book's nodes, definitions and files

-- Node n.
pub record NodeStored (ns : List ℕ) (b : Book) (n : ℕ) : Type 0 where
  pub row : RowFits (length b.names) (row_at ns n)
  pub tree : WholeIn ns n (count (trees b))

-- The names are names of the book.
abbrev pub Named : Book → List ℕ → Type 0
Named b ms = All (λ (m : ℕ). m < length b.names) ms

-- Definition n.
pub record DefinitionStored (ns ds : List ℕ) (b : Book) (n : ℕ) : Type 0 where
  pub is : (x : Definition) → get_or b.definitions n x ≡ definition_at ns (entry_at ds n)
  pub tree : WholeIn ns (entry_at ds n).root (count (trees b))
  pub name : (entry_at ds n).name < length b.names
  pub owner : (entry_at ds n).owner < length b.files
  pub named : Named b (references (tree_at ns (entry_at ds n).root))

-- File n. Its actor is `end` where its root is 65,535, else the tree at its root (`actor-none` and `actor-some` of Stored).
pub record FileStored (ns fs : List ℕ) (b : Book) (n : ℕ) : Type 0 where
  pub is : (x : File) → get_or b.files n x ≡ file_at ns (entry_at fs n)
  pub tree : ((entry_at fs n).root ≡ 65535 → ⊥) → WholeIn ns (entry_at fs n).root (count (trees b))
  pub name : (entry_at fs n).name < length b.names
  pub role : role_number (role_of (entry_at fs n).owner) ≡ (entry_at fs n).owner
  pub owner : (entry_at fs n).owner < 4
  pub named : Named b (references (actor_at ns (entry_at fs n).root))

-- ---- Bytes bs that lay out the book b
module _ (bs : List ℕ) {b : Book} (w : layout bs ≡ whole b) where
  pub admitted-fits : Fits b
  admitted-fits = ((found bs b).0 w).0

  pub admitted-parts : FitsParts b
  admitted-parts = fit-parts admitted-fits

  -- what holds of the encoding of b holds of bs
  for-bs : (P : List ℕ → Type 0) → P (encode b) → P bs
  for-bs P h = subst P (encode-read bs b w) h

  pub admitted-bytes : Bytes bs
  admitted-bytes = for-bs Bytes (encode-bytes b admitted-fits)

  pub admitted-rules : Rules bs
  admitted-rules = for-bs Rules (fit-rules b admitted-fits)

  pub admitted-placed : Placed bs b
  admitted-placed = for-bs (λ (l : List ℕ). Placed l b) (placed admitted-parts)

  -- ---- The bodies
  pub names-body : names_part bs ≡ names_bytes b
  names-body = for-bs (λ (l : List ℕ). names_part l ≡ names_bytes b) (names-part admitted-parts)

  pub nodes-body : nodes_part bs ≡ nodes_bytes b
  nodes-body = for-bs (λ (l : List ℕ). nodes_part l ≡ nodes_bytes b) (nodes-part admitted-parts)

  pub definitions-body : definitions_part bs ≡ definitions_bytes b
  definitions-body = for-bs (λ (l : List ℕ). definitions_part l ≡ definitions_bytes b) (definitions-part admitted-parts)

  pub files-body : files_part bs ≡ files_bytes b
  files-body = for-bs (λ (l : List ℕ). files_part l ≡ files_bytes b) (files-part admitted-parts)

  pub names-laid : flat name_bytes b.names ≡ names_part bs
  unfolding names_bytes
  names-laid = sym names-body

  pub names-read : names_of (length (names_part bs)) (names_part bs) ≡ b.names
  names-read = rw (← names-laid) (names-all b.names)

  pub nodes-long : length (nodes_part bs) ≡ count (trees b) * 12
  nodes-long = ap length nodes-body ∙ nodes-length b

  pub definitions-long : length (definitions_part bs) ≡ length b.definitions * 8
  definitions-long = ap length definitions-body ∙ definitions-length b

  pub files-long : length (files_part bs) ≡ length b.files * 8
  files-long = ap length files-body ∙ files-length b

  pub definitions-held : (length b.definitions * 8 ≤ length (definitions_part bs)) × (length (definitions_part bs) ≤ 4096)
  definitions-held = (omega (arith, definitions-long), omega (arith, definitions-long, admitted-parts.few_definitions))

  pub files-held : (length b.files * 8 ≤ length (files_part bs)) × (length (files_part bs) ≤ 128)
  files-held = (omega (arith, files-long), omega (arith, files-long, admitted-parts.few_files))

  -- ---- The trees
  pub rows-are : row_trees (nodes_part bs) 0 (count (trees b)) ≡ sized (trees b)
  rows-are = rw nodes-body (trees-rows admitted-parts)

  pub trees-are : siblings (nodes_part bs) 0 (count (trees b)) ≡ trees b
  trees-are = rw nodes-body (trees-nodes admitted-parts)

  pub trees-whole : Whole (nodes_part bs) 0 (count (trees b))
  trees-whole =
      record {
        ordered = omega arith;
        within = record { held = omega (arith, nodes-long); few = omega (arith, nodes-long, admitted-parts.few_nodes) };
        sized = subst Sized (sym rows-are) (sized-sized (trees b));
      }

  rows-stored : run (row_at (nodes_part bs)) 0 (count (trees b)) ≡ preorder (sized (trees b))
  rows-stored = rw nodes-body (rows-run admitted-parts)

  pub node-stored : (n : ℕ) → n < count (trees b) → NodeStored (nodes_part bs) b n
  node-stored n h =
      let names : ℕ = length b.names in
      record {
        row =
            run-all (row_at (nodes_part bs)) (RowFits names) (count (trees b)) (preorder (sized (trees b))) rows-stored (rows-fit names Root (trees b) (all-fit admitted-parts)) n h;
        tree = node-whole trees-whole n (omega arith) h;
      }

  -- ---- The names that trees refer to: of any trees among the book's, and of all of them
  pub references-within : (i e : ℕ) → e ≤ count (trees b) → Named b (references (siblings (nodes_part bs) i e))
  references-within i e h =
      let rs : List Row = run (row_at (nodes_part bs)) i (e - i) in
      rw (references-siblings (nodes_part bs) i e)
      (vars-named (length b.names) rs (all-between (RowFits (length b.names)) (row_at (nodes_part bs)) i (e - i) (λ n l m. (node-stored n (omega arith)).row)))

  pub references-named : Named b (references (trees b))
  references-named = subst (λ (f : Forest Node). Named b (references f)) trees-are (references-within 0 (count (trees b)) (omega arith))

  -- ---- The definitions
  definitions-in : DefinitionsStored (nodes_part bs) 0 (count (trees b)) b.definitions (actors b.files)
  unfolding trees
  definitions-in =
      let names : ℕ = length b.names in
      let files : ℕ = length b.files in
      definitions-stored b.definitions (actors b.files)
      (all-map (one-body names files) b.definitions (all-every (definition_fits names files) b.definitions admitted-parts.definitions))
      trees-whole trees-are

  definitions-entries : run (entry_at (definitions_part bs)) 0 (length b.definitions) ≡ definition_entries 0 b.definitions
  definitions-entries = rw definitions-body (definitions-run admitted-parts)

  pub definitions-are : b.definitions ≡ map (definition_at (nodes_part bs)) (run (entry_at (definitions_part bs)) 0 (length b.definitions))
  definitions-are = sym (ap (map (definition_at (nodes_part bs))) definitions-entries ∙ definitions-in.are)

  pub definition-stored : (n : ℕ) → n < length b.definitions → DefinitionStored (nodes_part bs) (definitions_part bs) b n
  definition-stored n h =
      let names : ℕ = length b.names in
      let files : ℕ = length b.files in
      let ds : List Definition = b.definitions in
      let at : ℕ → Entry = entry_at (definitions_part bs) in
      let make : Entry → Definition = definition_at (nodes_part bs) in
      let numbers = definition-numbers names files (make (at n)) (made-passes at make ds definitions-are n h (definition_fits names files) admitted-parts.definitions) in
      let tree =
      run-all at (λ e. WholeIn (nodes_part bs) e.root (count (trees b))) (length ds) (definition_entries 0 ds) definitions-entries definitions-in.roots n h in
      record {
        is = made-at at make ds definitions-are n h;
        tree = tree;
        name = numbers.0;
        owner = numbers.1;
        named = references-within _ _ tree.ends;
      }

  -- ---- The files
  files-in : FilesStored (nodes_part bs) (count (bodies b.definitions)) (count (trees b)) b.files
  files-in =
      let names : ℕ = length b.names in
      rw (← zero-add (count (bodies b.definitions)))
      (files-stored b.files (omega (arith, admitted-parts.few_nodes))
      (all-map (one-actor names) b.files (all-every (file_fits names) b.files admitted-parts.files)) definitions-in.rest definitions-in.others)

  files-entries : run (entry_at (files_part bs)) 0 (length b.files) ≡ file_entries (count (bodies b.definitions)) b.files
  files-entries = rw files-body (files-run admitted-parts)

  pub files-are : b.files ≡ map (file_at (nodes_part bs)) (run (entry_at (files_part bs)) 0 (length b.files))
  files-are = sym (ap (map (file_at (nodes_part bs))) files-entries ∙ files-in.are)

  pub file-stored : (n : ℕ) → n < length b.files → FileStored (nodes_part bs) (files_part bs) b n
  unfolding references
  file-stored n h =
      let names : ℕ = length b.names in
      let fs : List File = b.files in
      let es : List Entry = file_entries (count (bodies b.definitions)) fs in
      let at : ℕ → Entry = entry_at (files_part bs) in
      let make : Entry → File = file_at (nodes_part bs) in
      let tree =
      run-all at (λ e. (e.root ≡ 65535 → ⊥) → WholeIn (nodes_part bs) e.root (count (trees b))) (length fs) es files-entries files-in.roots n h in
      let role = run-all at (λ e. role_number (role_of e.owner) ≡ e.owner) (length fs) es files-entries files-in.roles n h in
      record {
        is = made-at at make fs files-are n h;
        tree = tree;
        name = file-name names (make (at n)) (made-passes at make fs files-are n h (file_fits names) admitted-parts.files);
        role = role;
        owner = subst (λ (k : ℕ). k < 4) role (role-small (role_of (at n).owner));
        named = go (at n).root tree (ℕ_discrete (at n).root 65535);
      }
    where
      go : (root : ℕ) → ((root ≡ 65535 → ⊥) → WholeIn (nodes_part bs) root (count (trees b))) → Dec (root ≡ 65535) → Named b (references (actor_at (nodes_part bs) root))
      go root tree (yes e) = rw (actor-none (nodes_part bs) root e) tt
      go root tree (no n) = rw (actor-some (nodes_part bs) root n) (references-within _ _ (tree n).ends)
