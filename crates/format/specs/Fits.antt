-- Which books can be laid out: document 01's limits and its conditions on what a book holds. Definitions; assumes nothing.
use Rattle.std.specs.Prelude.{Bool, true, false, ◌&&◌, ◌||◌, not, List, [], ◌∷◌, ℕ, length, T, leb, ltb, eqb}
use Rattle.std.specs.Bool.{beq}
use Rattle.labels.specs.declared.Label.TheVariants.{Id, Named, Unnamed}
use Rattle.format.specs.declared.Place.{Place}
use Rattle.format.specs.declared.Place.TheVariants.{Root, Field, Method, Inner}
use Rattle.format.specs.Forest.{Forest, end, tree, count, breadth}
use Rattle.format.specs.Node.{Kind, PrimT, VarT, OptT, VecT, RecordT, VariantT, FuncT, ServT, ClassT, InitT, Labelled, unlabelled, labelled, Node}
use Rattle.format.specs.Book.{Definition, Role, Main, TypeImport, ServiceImport, InitArgs, File, Book, trees}
use Rattle.format.specs.Encode.{encode}

-- The limits.
abbrev pub max_names : ℕ
max_names = 1024

abbrev pub max_nodes : ℕ
max_nodes = 4096

abbrev pub max_definitions : ℕ
max_definitions = 512

abbrev pub max_files : ℕ
max_files = 16

abbrev pub max_bytes : ℕ
max_bytes = 65536

-- Every element passes the test.
unfoldable pub every : {A : Type 0} → (A → Bool) → List A → Bool
every test [] = true
every test (a ∷ l) = test a && every test l

-- ---- Names: bytes, at most 255 of them, strictly ascending
unfoldable pub is_byte : ℕ → Bool
is_byte b = ltb b 256

unfoldable pub is_name : List ℕ → Bool
is_name n = leb (length n) 255 && every is_byte n

-- One name stands before another: by their first difference, or as its beginning.
unfoldable pub before : List ℕ → List ℕ → Bool
before [] [] = false
before [] (b ∷ n) = true
before (a ∷ m) [] = false
before (a ∷ m) (b ∷ n) = ltb a b || eqb a b && before m n

unfoldable pub ascending : List (List ℕ) → Bool
ascending [] = true
ascending (m ∷ []) = true
ascending (m ∷ (n ∷ ns)) = before m n && ascending (n ∷ ns)

-- ---- Nodes. `names` is the number of names, `kids` a node's number of children.

-- Where a node's children stand (`Place` is declared in src/lib.rt).
unfoldable pub place_below : Kind → Place
place_below (PrimT p) = Inner
place_below (VarT n) = Inner
place_below OptT = Inner
place_below VecT = Inner
place_below RecordT = Field
place_below VariantT = Field
place_below (FuncT a ms) = Inner
place_below ServT = Method
place_below ClassT = Inner
place_below InitT = Inner

-- Kinds 0 to 18 are leaves, 19 and 20 have one child, and 25 has at least one. A function has no more arguments than children, and at
-- most eight modes; its argument count takes 16 bits.
unfoldable pub kind_fits : ℕ → Kind → ℕ → Bool
kind_fits names (PrimT p) kids = eqb kids 0
kind_fits names (VarT n) kids = ltb n names && eqb kids 0
kind_fits names OptT kids = eqb kids 1
kind_fits names VecT kids = eqb kids 1
kind_fits names RecordT kids = true
kind_fits names VariantT kids = true
kind_fits names (FuncT a ms) kids = leb a kids && ltb a 65536 && leb (length ms) 8
kind_fits names ServT kids = true
kind_fits names ClassT kids = leb 1 kids
kind_fits names InitT kids = true

-- Kind 26 stands at a root alone.
unfoldable pub not_init : Kind → Bool
not_init (PrimT p) = true
not_init (VarT n) = true
not_init OptT = true
not_init VecT = true
not_init RecordT = true
not_init VariantT = true
not_init (FuncT a ms) = true
not_init ServT = true
not_init ClassT = true
not_init InitT = false

unfoldable pub kind_allowed : Place → Kind → Bool
kind_allowed Root k = true
kind_allowed Field k = not_init k
kind_allowed Method k = not_init k
kind_allowed Inner k = not_init k

-- A field is labelled by a number, a name or an unnamed number, a method by a name, and nothing else is labelled.
unfoldable pub label_fits : ℕ → Place → Labelled → Bool
label_fits names Root unlabelled = true
label_fits names Root (labelled l) = false
label_fits names Inner unlabelled = true
label_fits names Inner (labelled l) = false
label_fits names Field unlabelled = false
label_fits names Field (labelled (Id n)) = ltb n 4294967296
label_fits names Field (labelled (Named n)) = ltb n names
label_fits names Field (labelled (Unnamed n)) = ltb n 4294967296
label_fits names Method unlabelled = false
label_fits names Method (labelled (Id n)) = false
label_fits names Method (labelled (Named n)) = ltb n names
label_fits names Method (labelled (Unnamed n)) = false

unfoldable pub node_fits : ℕ → Place → Node → ℕ → Bool
node_fits names p n kids = kind_fits names n.kind kids && kind_allowed p n.kind && label_fits names p n.label

unfoldable pub forest_fits : ℕ → Place → Forest Node → Bool
forest_fits names p end = true
forest_fits names p (tree n kids next) =
    node_fits names p n (breadth kids) && forest_fits names (place_below n.kind) kids && forest_fits names p next

-- ---- Definitions: a name and a file that exist, file numbers that never fall, and one tree, whose root is not of kind 26
unfoldable pub is_init : Forest Node → Bool
is_init end = false
is_init (tree n kids next) = not (not_init n.kind)

unfoldable pub definition_fits : ℕ → ℕ → Definition → Bool
definition_fits names files d =
    ltb d.name names && ltb d.file files && eqb (breadth d.body) 1 && not (is_init d.body) && forest_fits names Root d.body

unfoldable pub files_rise : ℕ → List Definition → Bool
files_rise file [] = true
files_rise file (d ∷ ds) = leb file d.file && files_rise d.file ds

-- ---- Files: a name that exists, and a tree or none. Exactly the init arguments have a root of kind 26.
unfoldable pub is_init_role : Role → Bool
is_init_role Main = false
is_init_role TypeImport = false
is_init_role ServiceImport = false
is_init_role InitArgs = true

unfoldable pub is_main : Role → Bool
is_main Main = true
is_main TypeImport = false
is_main ServiceImport = false
is_main InitArgs = false

unfoldable pub file_fits : ℕ → File → Bool
file_fits names f =
    ltb f.name names && leb (breadth f.actor) 1 && beq (is_init f.actor) (is_init_role f.role) && forest_fits names Root f.actor

-- The files after the first: none is the main file, and the init arguments stand last.
unfoldable pub imports_fit : List File → Bool
imports_fit [] = true
imports_fit (f ∷ []) = not (is_main f.role)
imports_fit (f ∷ (g ∷ fs)) = not (is_main f.role) && not (is_init_role f.role) && imports_fit (g ∷ fs)

unfoldable pub roles_fit : List File → Bool
roles_fit [] = false
roles_fit (f ∷ fs) = is_main f.role && imports_fit fs

-- ---- The book
unfoldable pub fits : Book → Bool
fits b =
    let names = length b.names in
    let files = length b.files in
    leb (length (encode b)) max_bytes
    && leb names max_names
    && leb (count (trees b)) max_nodes
    && leb (length b.definitions) max_definitions
    && leb files max_files
    && every is_name b.names
    && ascending b.names
    && every (definition_fits names files) b.definitions
    && files_rise 0 b.definitions
    && every (file_fits names) b.files
    && roles_fit b.files

-- The book can be laid out.
abbrev pub Fits : Book → Type 0
Fits b = T (fits b)
