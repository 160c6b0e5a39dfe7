-- A class's arguments and its service, which is its last child. Assumes nothing.
--     is-class                       the kind that the test tells
--     last-beside, others-beside     of trees beside one other
--     beside-last, last-few, ..      the last and the others make the whole
use mathlib.Core.Path.{◌≡◌, refl, ap}
use Prim.Native.Nat.{◌≤◌}
use native.Mathlib.Omega.{arith}
use lib.Dec.{T}
use Rattle.format.specs.Forest.{Forest, end, tree, beside, breadth}
use Rattle.format.specs.Node.{Kind, PrimT, VarT, OptT, VecT, RecordT, VariantT, FuncT, ServT, ClassT, InitT, Node}
use Rattle.judgement.specs.Actor.{is_class_kind, last_tree, all_but_last}

-- ---- Kinds
pub is-class : (κ : Kind) → T (is_class_kind κ) → κ ≡ ClassT
unfolding is_class_kind
is-class (PrimT p) t = absurd t
is-class (VarT n) t = absurd t
is-class OptT t = absurd t
is-class VecT t = absurd t
is-class RecordT t = absurd t
is-class VariantT t = absurd t
is-class (FuncT a ms) t = absurd t
is-class ServT t = absurd t
is-class ClassT t = refl
is-class InitT t = absurd t

-- ---- Children
pub last-beside : (f last : Forest Node) → breadth last ≡ 1 → last_tree (beside f last) ≡ last
unfolding last_tree beside breadth
last-beside end end h = refl
last-beside end (tree n kids end) h = refl
last-beside end (tree n kids (tree m lids next)) h = absurd (omega arith)
last-beside (tree m lids end) end h = absurd (omega arith)
last-beside (tree m lids end) (tree n kids next) h = last-beside end (tree n kids next) h
last-beside (tree m lids (tree k mids next)) last h = last-beside (tree k mids next) last h

pub others-beside : (f last : Forest Node) → breadth last ≡ 1 → all_but_last (beside f last) ≡ f
unfolding all_but_last beside breadth
others-beside end end h = refl
others-beside end (tree n kids end) h = refl
others-beside end (tree n kids (tree m lids next)) h = absurd (omega arith)
others-beside (tree m lids end) end h = absurd (omega arith)
others-beside (tree m lids end) (tree n kids next) h = ap (tree m lids) (others-beside end (tree n kids next) h)
others-beside (tree m lids (tree k mids next)) last h = ap (tree m lids) (others-beside (tree k mids next) last h)

pub beside-last : (f : Forest Node) → f ≡ beside (all_but_last f) (last_tree f)
unfolding all_but_last last_tree beside
beside-last end = refl
beside-last (tree n kids end) = refl
beside-last (tree n kids (tree m lids next)) = ap (tree n kids) (beside-last (tree m lids next))

pub last-few : (f : Forest Node) → breadth (last_tree f) ≤ 1
unfolding last_tree breadth
last-few end = omega arith
last-few (tree n kids end) = omega arith
last-few (tree n kids (tree m lids next)) = last-few (tree m lids next)

pub last-sole : (f : Forest Node) → (last_tree f ≡ end → ⊥) → breadth (last_tree f) ≡ 1
unfolding last_tree breadth
last-sole end h = absurd (h refl)
last-sole (tree n kids end) h = refl
last-sole (tree n kids (tree m lids next)) h = last-sole (tree m lids next) h
