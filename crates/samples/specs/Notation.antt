-- A short way to write books, close to Candid's text. Definitions; assumes nothing.
--     spelled ("a" ∷ "b" ∷ [])         the names a and b
--     opt (ref a)                      a type: opt a, where a is the number of a name
--     Named a ∶ nat ⨾ Named b ∶ nat    a : nat; b : nat
use Rattle.std.specs.Prelude.{List, [], ◌∷◌, ℕ}
use Prim.Native.Char.{code}
use Prim.Native.String as strings
use Prim.Native.String.{String}
use Rattle.labels.specs.declared.Label.{Label}
use Rattle.format.specs.Forest.{Forest, end, tree, breadth, beside}
use Rattle.format.specs.Node.{PrimType, FuncMode, Kind, PrimT, VarT, OptT, RecordT, VariantT, FuncT, ServT, InitT, unlabelled, labelled, Node}
use Rattle.format.specs.Book.{Definition, Role, File}

infix 60 ◌∶◌
infixr 55 ◌⨾◌
-- The bytes of names; a character is the byte of its code, so they are written in ASCII.
unfoldable pub ascii_bytes : String → List ℕ
ascii_bytes strings.[] = []
ascii_bytes (strings.◌∷◌ c s) = code c ∷ ascii_bytes s

unfoldable pub spelled : List String → List (List ℕ)
spelled [] = []
spelled (s ∷ ss) = ascii_bytes s ∷ spelled ss

-- A type: the kind of its root and the children, without the label that the root gets by its place.
pub record Shape : Type 0 where
  pub kind : Kind
  pub kids : Forest Node

-- The one tree of a type, without a label.
abbrev pub unlabelled_tree : Shape → Forest Node
unlabelled_tree t = tree (record { kind = t.kind; label = unlabelled }) t.kids end

-- A field or a method.
abbrev pub ◌∶◌ : Label → Shape → Forest Node
l ∶ t = tree (record { kind = t.kind; label = labelled l }) t.kids end

-- One after the other: fields, methods, arguments or results. None is `end`.
abbrev pub ◌⨾◌ : Forest Node → Forest Node → Forest Node
f ⨾ g = beside f g

abbrev pub nat : Shape
nat = record { kind = PrimT PrimType.Nat; kids = end }

abbrev pub text : Shape
text = record { kind = PrimT PrimType.Text; kids = end }

-- The type of the name with that number.
abbrev pub ref : ℕ → Shape
ref n = record { kind = VarT n; kids = end }

abbrev pub opt : Shape → Shape
opt t = record { kind = OptT; kids = unlabelled_tree t }

abbrev pub record-of : Forest Node → Shape
record-of fields = record { kind = RecordT; kids = fields }

abbrev pub variant-of : Forest Node → Shape
variant-of fields = record { kind = VariantT; kids = fields }

abbrev pub service-of : Forest Node → Shape
service-of methods = record { kind = ServT; kids = methods }

-- Arguments, results and modes.
abbrev pub func : Forest Node → Forest Node → List FuncMode → Shape
func args results modes = record { kind = FuncT (breadth args) modes; kids = args ⨾ results }

-- The init argument list.
abbrev pub args-of : Forest Node → Shape
args-of args = record { kind = InitT; kids = args }

-- A definition: the number of its file, that of its name, and its type.
abbrev pub type : ℕ → ℕ → Shape → Definition
type file n t = record { name = n; file = file; body = unlabelled_tree t }

-- A file: the number of its name, its role, and the tree of its actor or init argument list; `end` where it has none.
abbrev pub file : ℕ → Role → Forest Node → File
file n role actor = record { name = n; role = role; actor = actor }
