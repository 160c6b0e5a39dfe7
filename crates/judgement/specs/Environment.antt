-- Definitions by name, and types by their roots: type_env.rs. Definitions; assumes nothing.
use Rattle.std.specs.Prelude.{Bool, true, false, cond, ◌&&◌, not, List, [], ◌∷◌, ◌++◌, ℕ, zero, suc, eqb}
use Rattle.format.specs.declared.Place.{Place}
use Rattle.format.specs.Forest.{Forest, end, tree}
use Rattle.format.specs.Node.{Kind, PrimT, VarT, OptT, VecT, RecordT, VariantT, FuncT, ServT, ClassT, InitT, Node, kind_number, value_number}
use Rattle.format.specs.Book.{Definition, Role, Main, File, Book}
use Rattle.format.specs.Fits.{is_init_role, place_below}
use Rattle.format.specs.Labels.{same_label}

-- ---- Definitions by name

-- The definitions of the init file have a space of their own; those of all other files share one.
unfoldable pub role_at : List File → ℕ → Role
role_at [] k = Main
role_at (f ∷ fs) zero = f.role
role_at (f ∷ fs) (suc k) = role_at fs k

unfoldable pub keep : (Definition → Bool) → List Definition → List Definition
keep test [] = []
keep test (d ∷ ds) = cond (test d) (d ∷ keep test ds) (keep test ds)

unfoldable pub main_definitions : Book → List Definition
main_definitions b = keep (λ d. not (is_init_role (role_at b.files d.file))) b.definitions

unfoldable pub init_definitions : Book → List Definition
init_definitions b = keep (λ d. is_init_role (role_at b.files d.file)) b.definitions

-- `find_type`: the type of a name, by its first definition.
pub data Found : Type 0 where
  missing : Found
  body : Forest Node → Found

unfoldable pub find_type : List Definition → ℕ → Found
find_type [] n = missing
find_type (d ∷ ds) n = cond (eqb d.name n) (body d.body) (find_type ds n)

-- `merge`: a name that both have keeps its first definition.
unfoldable pub is_missing : Found → Bool
is_missing missing = true
is_missing (body t) = false

unfoldable pub merge_definitions : List Definition → List Definition → List Definition
merge_definitions init main = init ++ keep (λ d. is_missing (find_type init d.name)) main

-- ---- Types by their roots

-- A type that is a name, or another.
pub data Head : Type 0 where
  named : ℕ → Head
  other : Head

unfoldable pub head_kind : Kind → Head
head_kind (PrimT p) = other
head_kind (VarT n) = named n
head_kind OptT = other
head_kind VecT = other
head_kind RecordT = other
head_kind VariantT = other
head_kind (FuncT a ms) = other
head_kind ServT = other
head_kind ClassT = other
head_kind InitT = other

unfoldable pub head : Forest Node → Head
head end = other
head (tree n kids next) = head_kind n.kind

unfoldable pub is_func_kind : Kind → Bool
is_func_kind (PrimT p) = false
is_func_kind (VarT n) = false
is_func_kind OptT = false
is_func_kind VecT = false
is_func_kind RecordT = false
is_func_kind VariantT = false
is_func_kind (FuncT a ms) = true
is_func_kind ServT = false
is_func_kind ClassT = false
is_func_kind InitT = false

unfoldable pub is_serv_kind : Kind → Bool
is_serv_kind (PrimT p) = false
is_serv_kind (VarT n) = false
is_serv_kind OptT = false
is_serv_kind VecT = false
is_serv_kind RecordT = false
is_serv_kind VariantT = false
is_serv_kind (FuncT a ms) = false
is_serv_kind ServT = true
is_serv_kind ClassT = false
is_serv_kind InitT = false

-- What stands below the first of them.
unfoldable pub kids_of : Forest Node → Forest Node
kids_of end = end
kids_of (tree n kids next) = kids

-- ---- `merge`: two types are the same as stored. Labels of records and variants compare by number, methods by name.
-- Kinds compare by their numbers and values: a name's number, a function's argument count and modes.
unfoldable pub same_kind : Kind → Kind → Bool
same_kind k l = eqb (kind_number k) (kind_number l) && eqb (value_number k) (value_number l)

unfoldable pub same_forest : List (List ℕ) → Place → Forest Node → Forest Node → Bool
same_forest names p end end = true
same_forest names p end (tree n kids next) = false
same_forest names p (tree n kids next) end = false
same_forest names p (tree n kids next) (tree m lids mext) =
    same_kind n.kind m.kind && same_label names p n.label m.label
    && same_forest names (place_below n.kind) kids lids && same_forest names p next mext
