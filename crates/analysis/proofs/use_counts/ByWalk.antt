-- Amounts that no label changes, and of which primitive types have nothing. Assumes nothing.
--     times-by-walk, stops-by-walk   what walks list, and where they stop
--     each-type-by-walk, ..          types themselves, each at most once
use mathlib.Core.Path.{◌≡◌, refl, ap, ◌∙◌}
use mathlib.Core.Bool.{Bool, true, false, cond}
use mathlib.Core.List.{List, []}
use Prim.Native.Nat.{ℕ, suc, ◌≤◌, ◌<◌}
use native.Mathlib.Omega.{arith}
use borrow.Author.Tests.{lt-ltb, le-ltb}
use lib.Dec.{ltb}
use lib.ListN.{length}
use Rattle.format.specs.Forest.{Forest, end, tree}
use Rattle.format.specs.Node.{Kind, PrimT, VarT, OptT, VecT, RecordT, VariantT, FuncT, ServT, ClassT, InitT, kind_number, Node}
use Rattle.format.specs.Book.{Definition}
use Rattle.listing.specs.Chase.{Walk, going, arm, chase, visit, chase_types}
use Rattle.analysis.specs.Tallies.{times_in, times_listed, stopped, stops, ByWalk, each_type}

-- ---- A walk goes by kinds, and does nothing at a primitive type
arm-none : (meet : ℕ → Walk → Walk) (below : Walk → Walk) (κ : Kind) → kind_number κ < 18 → (w : Walk) → arm meet below κ w ≡ w
unfolding arm kind_number
arm-none meet below (PrimT p) h w = refl
arm-none meet below (VarT n) h w = absurd (omega arith)
arm-none meet below OptT h w = absurd (omega arith)
arm-none meet below VecT h w = absurd (omega arith)
arm-none meet below RecordT h w = absurd (omega arith)
arm-none meet below VariantT h w = absurd (omega arith)
arm-none meet below (FuncT a ms) h w = absurd (omega arith)
arm-none meet below ServT h w = absurd (omega arith)
arm-none meet below ClassT h w = absurd (omega arith)
arm-none meet below InitT h w = absurd (omega arith)

-- whatever is taken of what it comes to
module _ (ds : List Definition) (of : Walk → ℕ) (nothing : of (going [] []) ≡ 0) where
  by-walk : ByWalk (λ t. of (chase_types ds t))
  unfolding chase_types chase
  by-walk =
      let meet = visit (suc (length ds)) ds in
      record {
        same = λ kids e. ap (λ (κ : Kind). of (arm meet (chase meet kids) κ (going [] []))) e;
        none = λ {n} kids h. ap of (arm-none meet (chase meet kids) n.kind h (going [] [])) ∙ nothing;
      }

module _ (ds : List Definition) where
  pub times-by-walk : (n : ℕ) → ByWalk (times_listed ds n)
  unfolding times_listed times_in
  times-by-walk n = by-walk ds (times_in n) refl

  pub stops-by-walk : ByWalk (stops ds)
  unfolding stops stopped
  stops-by-walk = by-walk ds stopped refl

-- ---- Types themselves
pub each-type-by-walk : ByWalk each_type
unfolding each_type
each-type-by-walk = record { same = λ kids e. ap (λ (κ : Kind). cond (ltb (kind_number κ) 18) 0 1) e; none = λ {n} kids h. rw (lt-ltb (kind_number n.kind) 18 h) refl }

pub each-type-one : (n : Node) (kids : Forest Node) → 18 ≤ kind_number n.kind → each_type (tree n kids end) ≡ 1
unfolding each_type
each-type-one n kids h = rw (le-ltb (kind_number n.kind) 18 h) refl

pub each-type-most : (t : Forest Node) → each_type t ≤ 1
unfolding each_type
each-type-most end = omega arith
each-type-most (tree n kids next) = go (ltb (kind_number n.kind) 18)
  where
    go : (b : Bool) → cond b 0 1 ≤ 1
    go true = omega arith
    go false = omega arith
