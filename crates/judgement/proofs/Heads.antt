-- A type that is a name refers to it, and is no class. Assumes nothing.
use mathlib.Core.Path.{◌≡◌, refl}
use mathlib.Core.Bool.{false}
use mathlib.Core.List.{Memᴰ}
use Prim.Native.Nat.{ℕ}
use native.Mathlib.Omega.{arith}
use Rattle.format.specs.Forest.{Forest, end, tree}
use Rattle.format.specs.Node.{Kind, PrimT, VarT, OptT, VecT, RecordT, VariantT, FuncT, ServT, ClassT, InitT, Node}
use Rattle.format.specs.References.{references}
use Rattle.judgement.specs.Environment.{Head, named, other, head_kind, head}
use Rattle.judgement.specs.Actor.{is_class_kind, is_class}
use Rattle.format.specs.Occurs.{here}
use Rattle.format.proofs.Occurs.{occurs-reference}

pub other-named : {A : Type 0} {h : Head} {n : ℕ} → h ≡ other → h ≡ named n → A
other-named e f = let z : ◌≡◌ {A = ℕ} 0 1 = cc in absurd (omega arith)

pub named-var : (κ : Kind) {n : ℕ} → head_kind κ ≡ named n → κ ≡ VarT n
unfolding head_kind
named-var (PrimT p) e = other-named refl e
named-var (VarT k) e = cc
named-var OptT e = other-named refl e
named-var VecT e = other-named refl e
named-var RecordT e = other-named refl e
named-var VariantT e = other-named refl e
named-var (FuncT a ms) e = other-named refl e
named-var ServT e = other-named refl e
named-var ClassT e = other-named refl e
named-var InitT e = other-named refl e

pub head-refers : (t : Forest Node) {n : ℕ} → head t ≡ named n → Memᴰ n (references t)
unfolding head
head-refers end e = other-named refl e
head-refers (tree m kids next) e = occurs-reference here (named-var m.kind e)

pub named-no-class : (t : Forest Node) {n : ℕ} → head t ≡ named n → is_class t ≡ false
unfolding head is_class is_class_kind
named-no-class end h = refl
named-no-class (tree m kids next) h = rw (named-var m.kind h)
