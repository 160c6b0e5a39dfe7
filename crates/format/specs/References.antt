-- The names that types refer to, as document 01's "References" says. Definitions; assumes nothing.
use Rattle.std.specs.Prelude.{List, [], ◌∷◌, ◌++◌, ℕ}
use Rattle.format.specs.Forest.{Forest, end, tree}
use Rattle.format.specs.Node.{Kind, PrimT, VarT, OptT, VecT, RecordT, VariantT, FuncT, ServT, ClassT, InitT, Node}

-- The name that a node is: one of kind 18, none of any other.
unfoldable pub reference_of : Kind → List ℕ
reference_of (PrimT p) = []
reference_of (VarT n) = n ∷ []
reference_of OptT = []
reference_of VecT = []
reference_of RecordT = []
reference_of VariantT = []
reference_of (FuncT a ms) = []
reference_of ServT = []
reference_of ClassT = []
reference_of InitT = []

-- Each name that is a node anywhere in the trees, once for each such node, in preorder.
unfoldable pub references : Forest Node → List ℕ
references end = []
references (tree n kids next) = reference_of n.kind ++ (references kids ++ references next)
