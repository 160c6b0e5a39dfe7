-- What a declaration book holds: names, definitions and files, with the types as trees. Definitions; assumes nothing.
-- Names are numbers everywhere else: places in the table of names, from 0.
use Rattle.std.specs.Prelude.{List, [], ◌∷◌, ℕ}
use Rattle.format.specs.Forest.{Forest, end, beside}
use Rattle.format.specs.Node.{Node}

-- A name with its type, and the number of the file that has it.
pub record Definition : Type 0 where
  pub name : ℕ
  pub file : ℕ
  pub body : Forest Node

-- The main file, an import of types, an import of a service with its methods, and the init arguments.
pub data Role : Type 0 where
  Main TypeImport ServiceImport InitArgs : Role

-- A file with its actor, or its init argument list; `end` where it has none.
pub record File : Type 0 where
  pub name : ℕ
  pub role : Role
  pub actor : Forest Node

pub record Book : Type 0 where
  pub names : List (List ℕ)
  pub definitions : List Definition
  pub files : List File

-- All the trees: the definitions' in order, then the files'.
unfoldable pub bodies : List Definition → Forest Node
bodies [] = end
bodies (d ∷ ds) = beside d.body (bodies ds)

unfoldable pub actors : List File → Forest Node
actors [] = end
actors (f ∷ fs) = beside f.actor (actors fs)

unfoldable pub trees : Book → Forest Node
trees b = beside (bodies b.definitions) (actors b.files)
