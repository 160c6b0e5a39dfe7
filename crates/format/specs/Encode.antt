-- A book's bytes, as document 01's section "The book" lays them out. Definitions; assumes nothing.
use Rattle.std.specs.Prelude.{List, [], ◌∷◌, ◌++◌, ℕ, suc, ◌+◌, ◌/◌, ◌%◌, length}
use Rattle.refusals.specs.Lists.{flat}
use Rattle.format.specs.Forest.{Forest, end, tree, count, preorder}
use Rattle.format.specs.Node.{Node, kind_number, value_number, label_kind, label_value}
use Rattle.format.specs.Book.{Definition, Role, Main, TypeImport, ServiceImport, InitArgs, File, Book, bodies, trees}

-- A number in two and in four bytes, the least first.
unfoldable pub bytes16 : ℕ → List ℕ
bytes16 n = n % 256 ∷ n / 256 % 256 ∷ []

unfoldable pub bytes32 : ℕ → List ℕ
bytes32 n = n % 256 ∷ n / 256 % 256 ∷ n / 65536 % 256 ∷ n / 16777216 % 256 ∷ []

-- A name: a length byte and the bytes.
unfoldable pub name_bytes : List ℕ → List ℕ
name_bytes n = length n ∷ n

-- A stored node. `size` counts the node and all below it.
pub record Row : Type 0 where
  pub kind : ℕ
  pub lkind : ℕ
  pub size : ℕ
  pub value : ℕ
  pub label : ℕ

unfoldable pub row_of : Node → ℕ → Row
row_of n size =
    record {
      kind = kind_number n.kind;
      lkind = label_kind n.label;
      size = size;
      value = value_number n.kind;
      label = label_value n.label;
    }

-- Each node with its row, so that trees can be stored in preorder.
unfoldable pub sized : Forest Node → Forest Row
sized end = end
sized (tree n kids next) = tree (row_of n (suc (count kids))) (sized kids) (sized next)

-- 12 bytes a row: kind, label kind, size, value, label.
unfoldable pub row_bytes : Row → List ℕ
row_bytes r = r.kind ∷ r.lkind ∷ bytes16 r.size ++ bytes32 r.value ++ bytes32 r.label

-- A stored definition or file, four numbers: name; file or role; root node; 0.
pub record Entry : Type 0 where
  pub name : ℕ
  pub owner : ℕ
  pub root : ℕ
  pub reserved : ℕ

unfoldable pub entry_bytes : Entry → List ℕ
entry_bytes e = bytes16 e.name ++ bytes16 e.owner ++ bytes16 e.root ++ bytes16 e.reserved

unfoldable pub role_number : Role → ℕ
role_number Main = 0
role_number TypeImport = 1
role_number ServiceImport = 2
role_number InitArgs = 3

-- Trees lie end to end: a definition's root is the next free node, and so is a file's, which is 65,535 where it has no tree.
unfoldable pub definition_entries : ℕ → List Definition → List Entry
definition_entries next [] = []
definition_entries next (d ∷ ds) =
    record { name = d.name; owner = d.file; root = next; reserved = 0 } ∷ definition_entries (next + count d.body) ds

unfoldable pub root_of : ℕ → Forest Node → ℕ
root_of next end = 65535
root_of next (tree n kids after) = next

unfoldable pub file_entries : ℕ → List File → List Entry
file_entries next [] = []
file_entries next (f ∷ fs) =
    record { name = f.name; owner = role_number f.role; root = root_of next f.actor; reserved = 0 } ∷ file_entries (next + count f.actor) fs

-- The four bodies.
unfoldable pub names_bytes : Book → List ℕ
names_bytes b = flat name_bytes b.names

unfoldable pub nodes_bytes : Book → List ℕ
nodes_bytes b = flat row_bytes (preorder (sized (trees b)))

unfoldable pub definitions_bytes : Book → List ℕ
definitions_bytes b = flat entry_bytes (definition_entries 0 b.definitions)

unfoldable pub files_bytes : Book → List ℕ
files_bytes b = flat entry_bytes (file_entries (count (bodies b.definitions)) b.files)

-- A row of the table of contents, an offset and a count.
unfoldable pub toc_row : ℕ → ℕ → List ℕ
toc_row offset n = bytes32 offset ++ bytes32 n

-- The table of contents: each body begins where the one before it ends, the first after the table itself.
unfoldable pub contents_bytes : Book → List ℕ
contents_bytes b =
    let nodes_at = 32 + length (names_bytes b) in
    let definitions_at = nodes_at + length (nodes_bytes b) in
    let files_at = definitions_at + length (definitions_bytes b) in
    toc_row 32 (length b.names)
    ++ toc_row nodes_at (count (trees b))
    ++ toc_row definitions_at (length b.definitions)
    ++ toc_row files_at (length b.files)

unfoldable pub encode : Book → List ℕ
encode b = contents_bytes b ++ names_bytes b ++ nodes_bytes b ++ definitions_bytes b ++ files_bytes b
