-- Actors as written: files by role, classes, and an actor made of merged methods. Definitions; assumes nothing.
use Rattle.std.specs.Prelude.{◌≡◌, Bool, true, false, cond}
use mathlib.Core.List.{List, [], ◌∷◌, Memᴰ}
use Rattle.format.specs.Forest.{Forest, end, tree, beside}
use Rattle.format.specs.Node.{Kind, PrimT, VarT, OptT, VecT, RecordT, VariantT, FuncT, ServT, ClassT, InitT, unlabelled, Node}
use Rattle.format.specs.Book.{Role, Main, TypeImport, ServiceImport, InitArgs, File, Book}
use Rattle.format.specs.Fits.{is_init_role}
use Rattle.judgement.specs.Environment.{kids_of}

-- ---- Files by role
unfoldable pub is_service_import : Role → Bool
is_service_import Main = false
is_service_import TypeImport = false
is_service_import ServiceImport = true
is_service_import InitArgs = false

unfoldable pub service_imports : List File → List File
service_imports [] = []
service_imports (f ∷ fs) = cond (is_service_import f.role) (f ∷ service_imports fs) (service_imports fs)

-- The main file's actor as written: the main file is the first.
unfoldable pub first_actor : List File → Forest Node
first_actor [] = end
first_actor (f ∷ fs) = f.actor

unfoldable pub main_actor : Book → Forest Node
main_actor b = first_actor b.files

-- The init file's argument list; `end` where there is no init file.
unfoldable pub init_tree : List File → Forest Node
init_tree [] = end
init_tree (f ∷ fs) = cond (is_init_role f.role) f.actor (init_tree fs)

-- None of the files is one.
abbrev pub NoInit : List File → Type 0
NoInit fs = (f : File) → Memᴰ f fs → f.role ≡ InitArgs → ⊥

-- ---- A class: its arguments, and its service, which is the last child
unfoldable pub is_class_kind : Kind → Bool
is_class_kind (PrimT p) = false
is_class_kind (VarT n) = false
is_class_kind OptT = false
is_class_kind VecT = false
is_class_kind RecordT = false
is_class_kind VariantT = false
is_class_kind (FuncT a ms) = false
is_class_kind ServT = false
is_class_kind ClassT = true
is_class_kind InitT = false

unfoldable pub is_class : Forest Node → Bool
is_class end = false
is_class (tree n kids next) = is_class_kind n.kind

unfoldable pub last_tree : Forest Node → Forest Node
last_tree end = end
last_tree (tree n kids end) = tree n kids end
last_tree (tree n kids (tree m lids next)) = last_tree (tree m lids next)

unfoldable pub all_but_last : Forest Node → Forest Node
all_but_last end = end
all_but_last (tree n kids end) = end
all_but_last (tree n kids (tree m lids next)) = tree n kids (all_but_last (tree m lids next))

-- The arguments of an actor that is a class, and what stands below a class's top.
unfoldable pub class_arguments : Forest Node → Forest Node
class_arguments t = cond (is_class t) (all_but_last (kids_of t)) end

unfoldable pub below_class : Forest Node → Forest Node
below_class t = cond (is_class t) (last_tree (kids_of t)) t

-- ---- An actor of merged methods
abbrev pub service_of : Forest Node → Forest Node
service_of methods = tree (record { kind = ServT; label = unlabelled }) methods end

abbrev pub class_of : Forest Node → Forest Node → Forest Node
class_of arguments service = tree (record { kind = ClassT; label = unlabelled }) (beside arguments service) end

-- Main with these methods: a class keeps its arguments.
abbrev pub merged_of : Forest Node → Forest Node → Forest Node
merged_of main methods = cond (is_class main) (class_of (class_arguments main) (service_of methods)) (service_of methods)
