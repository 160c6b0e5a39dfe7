-- From bytes to the book that they lay out. Definitions; assumes nothing.
--     layout bs    the book that fits and whose encoding is bs, or broken where there is none (theorem `found` of proofs/Theorems.antt)
-- What `read` makes of the bytes need not be believed: it is taken only if it fits and encodes to the very bytes.
use Rattle.std.specs.Prelude.{Bool, true, false, cond, ◌&&◌, List, [], ◌∷◌, ℕ, zero, suc, ◌+◌, ◌-◌, ◌*◌, ◌/◌, ◌%◌, length, get_or, take, drop, leb, eqb}
use Rattle.labels.specs.declared.Label.TheVariants.{Id, Named, Unnamed}
use Rattle.format.specs.Forest.{Forest, end, tree, count, map_forest, first_tree, other_trees, after_trees}
use Rattle.format.specs.Node.{PrimType, FuncMode, Oneway, Query, CompositeQuery, Kind, PrimT, VarT, OptT, VecT, RecordT, VariantT, FuncT, ServT, ClassT, InitT, Labelled, unlabelled, labelled, Node}
use Rattle.format.specs.Book.{Definition, Role, Main, TypeImport, ServiceImport, InitArgs, File, Book}
use Rattle.format.specs.Encode.{Row, Entry, encode}
use Rattle.format.specs.Fits.{fits}

-- ---- Numbers and rows in bytes

-- The number that two, or four, bytes from place i on are, the least first.
unfoldable pub le16 : List ℕ → ℕ → ℕ
le16 bs i = get_or bs i 0 + get_or bs (i + 1) 0 * 256

unfoldable pub le32 : List ℕ → ℕ → ℕ
le32 bs i = get_or bs i 0 + get_or bs (i + 1) 0 * 256 + get_or bs (i + 2) 0 * 65536 + get_or bs (i + 3) 0 * 16777216

-- Row n of the nodes' bytes.
unfoldable pub row_at : List ℕ → ℕ → Row
row_at bs n =
    record {
      kind = get_or bs (n * 12) 0;
      lkind = get_or bs (n * 12 + 1) 0;
      size = le16 bs (n * 12 + 2);
      value = le32 bs (n * 12 + 4);
      label = le32 bs (n * 12 + 8);
    }

-- Entry n of the definitions' or the files' bytes.
unfoldable pub entry_at : List ℕ → ℕ → Entry
entry_at bs n =
    record {
      name = le16 bs (n * 8);
      owner = le16 bs (n * 8 + 2);
      root = le16 bs (n * 8 + 4);
      reserved = le16 bs (n * 8 + 6);
    }

-- f n, f (n + 1) and so on, k of them.
unfoldable pub run : {A : Type 0} → (ℕ → A) → ℕ → ℕ → List A
run f n zero = []
run f n (suc k) = f n ∷ run f (suc n) k

-- The names from the beginning of the bytes on; the first argument is at least their number.
unfoldable pub names_of : ℕ → List ℕ → List (List ℕ)
names_of zero bs = []
names_of (suc k) [] = []
names_of (suc k) (n ∷ bs) = take n bs ∷ names_of k (drop n bs)

-- ---- Trees from rows

-- The first trees of a forest, while they have at most n nodes together; and the trees after those.
unfoldable pub first : ℕ → Forest Row → Forest Row
first n end = end
first n (tree r kids next) =
    cond (leb (suc (count kids)) n) (tree r kids (first (n - suc (count kids)) next)) end

unfoldable pub trees_after : ℕ → Forest Row → Forest Row
trees_after n end = end
trees_after n (tree r kids next) =
    cond (leb (suc (count kids)) n) (trees_after (n - suc (count kids)) next) (tree r kids next)

-- The forest that rows store: of the trees of the rows after the first one, those of the first `size - 1` nodes are its children.
unfoldable pub build : List Row → Forest Row
build [] = end
build (r ∷ rs) = tree r (first (r.size - 1) (build rs)) (trees_after (r.size - 1) (build rs))

-- ---- Nodes from rows: the other way round than the numbers of Node

unfoldable pub mode_of : ℕ → FuncMode
mode_of d = get_or (Oneway ∷ Query ∷ []) (d - 1) CompositeQuery

-- The modes of m in base 4, the lowest digit first, up to a 0; at most k.
unfoldable pub modes_of : ℕ → ℕ → List FuncMode
modes_of zero m = []
modes_of (suc k) m = cond (eqb (m % 4) 0) [] (mode_of (m % 4) ∷ modes_of k (m / 4))

-- The kinds in the order of their numbers, up to 25, at a node's value v.
unfoldable pub kinds : ℕ → List Kind
kinds v =
    PrimT PrimType.Null ∷ PrimT PrimType.Bool ∷ PrimT PrimType.Nat ∷ PrimT PrimType.Int
    ∷ PrimT PrimType.Nat8 ∷ PrimT PrimType.Nat16 ∷ PrimT PrimType.Nat32 ∷ PrimT PrimType.Nat64
    ∷ PrimT PrimType.Int8 ∷ PrimT PrimType.Int16 ∷ PrimT PrimType.Int32 ∷ PrimT PrimType.Int64
    ∷ PrimT PrimType.Float32 ∷ PrimT PrimType.Float64 ∷ PrimT PrimType.Text ∷ PrimT PrimType.Reserved
    ∷ PrimT PrimType.Empty ∷ PrimT PrimType.Principal
    ∷ VarT v ∷ OptT ∷ VecT ∷ RecordT ∷ VariantT ∷ FuncT (v % 65536) (modes_of 8 (v / 65536)) ∷ ServT ∷ ClassT ∷ []

unfoldable pub kind_of : ℕ → ℕ → Kind
kind_of k v = get_or (kinds v) k InitT

unfoldable pub label_of : ℕ → ℕ → Labelled
label_of k v = get_or (unlabelled ∷ labelled (Id v) ∷ labelled (Named v) ∷ []) k (labelled (Unnamed v))

unfoldable pub node_of : Row → Node
node_of r = record { kind = kind_of r.kind r.value; label = label_of r.lkind r.label }

unfoldable pub role_of : ℕ → Role
role_of k = get_or (Main ∷ TypeImport ∷ ServiceImport ∷ []) k InitArgs

-- ---- The book

-- Each definition takes a tree, in order; then each file whose root is a node.
unfoldable pub definitions_of : List Entry → Forest Node → List Definition
definitions_of [] f = []
definitions_of (e ∷ es) f =
    record { name = e.name; file = e.owner; body = first_tree f } ∷ definitions_of es (other_trees f)

unfoldable pub files_of : List Entry → Forest Node → List File
files_of [] f = []
files_of (e ∷ es) f =
    cond (eqb e.root 65535)
    (record { name = e.name; role = role_of e.owner; actor = end } ∷ files_of es f)
    (record { name = e.name; role = role_of e.owner; actor = first_tree f } ∷ files_of es (other_trees f))

-- The bytes from place a up to place e.
unfoldable pub part : ℕ → ℕ → List ℕ → List ℕ
part a e bs = take (e - a) (drop a bs)

-- The four bodies, by the offsets of the table of contents.
unfoldable pub names_part : List ℕ → List ℕ
names_part bs = part 32 (le32 bs 8) bs

unfoldable pub nodes_part : List ℕ → List ℕ
nodes_part bs = part (le32 bs 8) (le32 bs 16) bs

unfoldable pub definitions_part : List ℕ → List ℕ
definitions_part bs = part (le32 bs 16) (le32 bs 24) bs

unfoldable pub files_part : List ℕ → List ℕ
files_part bs = part (le32 bs 24) (length bs) bs

-- The trees of the nodes' bytes from node i up to node e, with rows and with nodes.
unfoldable pub row_trees : List ℕ → ℕ → ℕ → Forest Row
row_trees ns i e = build (run (row_at ns) i (e - i))

unfoldable pub siblings : List ℕ → ℕ → ℕ → Forest Node
siblings ns i e = map_forest node_of (row_trees ns i e)

unfoldable pub entries : List ℕ → List Entry
entries bs = run (entry_at bs) 0 (length bs / 8)

unfoldable pub read : List ℕ → Book
read bs =
    let ns = nodes_part bs in
    let ds = entries (definitions_part bs) in
    let all = siblings ns 0 (length ns / 12) in
    record {
      names = names_of (length (names_part bs)) (names_part bs);
      definitions = definitions_of ds all;
      files = files_of (entries (files_part bs)) (after_trees (length ds) all);
    }

-- Two lists of bytes are the same.
unfoldable pub same : List ℕ → List ℕ → Bool
same [] [] = true
same [] (b ∷ n) = false
same (a ∷ m) [] = false
same (a ∷ m) (b ∷ n) = eqb a b && same m n

pub data Layout : Type 0 where
  broken : Layout
  whole : Book → Layout

unfoldable pub layout : List ℕ → Layout
layout bs = cond (fits (read bs) && same (encode (read bs)) bs) (whole (read bs)) broken

-- The bytes of name n; none for a broken book or a number outside the table.
abbrev pub name_by : Layout → ℕ → List ℕ
name_by broken n = []
name_by (whole b) n = get_or b.names n []

unfoldable pub name_in : List ℕ → ℕ → List ℕ
name_in bs n = name_by (layout bs) n
