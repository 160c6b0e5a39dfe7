-- An actor's arguments and results in the order of `chase_def_use` of analysis.rs, each with its entry. Definitions; assumes nothing.
use Rattle.std.specs.Prelude.{List, [], ◌∷◌, ◌++◌, ℕ, zero, suc}
use Rattle.format.specs.Forest.{Forest, end, tree}
use Rattle.format.specs.Node.{Kind, PrimT, VarT, OptT, VecT, RecordT, VariantT, FuncT, ServT, ClassT, InitT, Node}
use Rattle.format.specs.Book.{Definition}
use Rattle.refusals.specs.Handed.{Use}
use Rattle.judgement.specs.Aliases.{End, unbound, circle, ends, alias_end, methods_at}
use Rattle.judgement.specs.Actor.{class_arguments, below_class}

-- A type that is an argument or a result, with its entry.
pub record Site : Type 0 where
  pub entry : Use
  pub type : Forest Node

-- Arguments of a class: index i on.
unfoldable pub class_sites : ℕ → Forest Node → List Site
class_sites i end = []
class_sites i (tree n kids next) =
    record { entry = record { method = 65535; result = 0; index = i }; type = tree n kids end } ∷ class_sites (suc i) next

-- The arguments of method m, and then its results: the first `left` of these are arguments.
unfoldable pub func_sites : ℕ → ℕ → ℕ → Forest Node → List Site
func_sites m zero i end = []
func_sites m (suc left) i end = []
func_sites m zero i (tree n kids next) =
    record { entry = record { method = m; result = 1; index = i }; type = tree n kids end } ∷ func_sites m zero (suc i) next
func_sites m (suc zero) i (tree n kids next) =
    record { entry = record { method = m; result = 0; index = i }; type = tree n kids end } ∷ func_sites m zero 0 next
func_sites m (suc (suc left)) i (tree n kids next) =
    record { entry = record { method = m; result = 0; index = i }; type = tree n kids end } ∷ func_sites m (suc left) (suc i) next

-- `as_func`: the arguments and results of a method whose chain ends at a function.
unfoldable pub kind_sites : ℕ → Kind → Forest Node → List Site
kind_sites m (PrimT p) kids = []
kind_sites m (VarT n) kids = []
kind_sites m OptT kids = []
kind_sites m VecT kids = []
kind_sites m RecordT kids = []
kind_sites m VariantT kids = []
kind_sites m (FuncT a ms) kids = func_sites m a 0 kids
kind_sites m ServT kids = []
kind_sites m ClassT kids = []
kind_sites m InitT kids = []

unfoldable pub end_sites : ℕ → End → List Site
end_sites m (unbound n) = []
end_sites m circle = []
end_sites m (ends end) = []
end_sites m (ends (tree n kids next)) = kind_sites m n.kind kids

unfoldable pub method_sites : List Definition → ℕ → Forest Node → List Site
method_sites ds m end = []
method_sites ds m (tree n kids next) = end_sites m (alias_end ds (tree n kids end)) ++ method_sites ds (suc m) next

-- All of an actor: the class's arguments, then method by method arguments and results. The actor's own alias is followed first.
unfoldable pub type_of : End → Forest Node
type_of (unbound n) = end
type_of circle = end
type_of (ends t) = t

unfoldable pub sites : List Definition → Forest Node → List Site
sites ds actor =
    let t = type_of (alias_end ds actor) in
    class_sites 0 (class_arguments t) ++ method_sites ds 0 (methods_at (alias_end ds (below_class t)))
