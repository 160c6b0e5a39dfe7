-- The names that types refer to are read off their rows, one after the other: theorem `references-siblings`; and they exist where the rows
-- fit: `vars-named`. Assumes nothing.
use mathlib.Core.Path.{◌≡◌, refl, sym, ap, ap₂, ◌∙◌}
use mathlib.Core.Bool.{Bool, true, false, cond}
use mathlib.Core.List.{List, [], ◌∷◌, ◌++◌, map}
use Prim.Native.Nat.{ℕ, zero, suc, ◌-◌, ◌<◌}
use native.Mathlib.Decide.{ℕ_discrete}
use native.Mathlib.Omega.{arith}
use borrow.Author.Tests.{eqb-true, eq-eqb, ne_eqb}
use lib.Dec.{eqb}
use lib.ListN.{length, get_or, set, replicate, length-replicate, get_or-map}
use lib.Seq.{get_or-set_same, get_or-set_other}
use Rattle.format.specs.Forest.{Forest, end, tree, preorder}
use Rattle.format.specs.Node.{Kind, VarT, InitT, Node}
use Rattle.format.specs.Encode.{Row}
use Rattle.refusals.specs.Lists.{flat}
use Rattle.format.specs.Layout.{row_at, run, kinds, kind_of, node_of, siblings}
use Rattle.format.specs.References.{reference_of, references}
use Rattle.format.proofs.Lists.{All, flat-append}
use Rattle.format.proofs.Rows.{preorder-siblings}
use Rattle.format.specs.Whole.{RowFits}

-- The names among nodes, and the values of the rows of kind 18: each in order.
abbrev pub names_in : List Node → List ℕ
names_in ns = flat (λ (n : Node). reference_of n.kind) ns

unfoldable pub vars_of : List Row → List ℕ
vars_of [] = []
vars_of (r ∷ rs) = cond (eqb r.kind 18) (r.value ∷ vars_of rs) (vars_of rs)

pub references-preorder : (f : Forest Node) → references f ≡ names_in (preorder f)
unfolding references preorder flat
references-preorder end = refl
references-preorder (tree n k m) =
    ap (λ (l : List ℕ). reference_of n.kind ++ l)
    (ap₂ ◌++◌ (references-preorder k) (references-preorder m) ∙ sym (flat-append (λ (a : Node). reference_of a.kind) (preorder k) (preorder m)))

-- ---- Kind 18 alone is a name

-- Nothing but d, inside and outside.
pub everywhere : {A : Type 0} (k i : ℕ) (d : A) → get_or (replicate k d) i d ≡ d
everywhere zero i d = refl
everywhere (suc k) zero d = refl
everywhere (suc k) (suc i) d = everywhere k i d

-- What gives d of every kind but one, of which it gives a.
pub kind-alone : {A : Type 0} (f : Kind → A) (d a : A) (one v : ℕ) → one < 26 → f InitT ≡ d → map f (kinds v) ≡ set (replicate 26 d) one a →
    (k : ℕ) → f (kind_of k v) ≡ cond (eqb k one) a d
unfolding kind_of
kind-alone {A} f d a one v h i m k = sym (get_or-map f (kinds v) k InitT) ∙ rw (i, m) (go (ℕ_discrete k one))
  where
    go : Dec (k ≡ one) → get_or (set (replicate 26 d) one a) k d ≡ cond (eqb k one) a d
    go (yes e) = rw (eq-eqb k one e) (rw e (get_or-set_same (replicate 26 d) one a d (rw (length-replicate {A = A} 26 d) h)))
    go (no n) = rw (ne_eqb k one n) (get_or-set_other (replicate 26 d) one k a d n ∙ everywhere 26 k d)

pub kind-name : (k v : ℕ) → reference_of (kind_of k v) ≡ cond (eqb k 18) (v ∷ []) []
unfolding reference_of kinds
kind-name k v = kind-alone reference_of [] (v ∷ []) 18 v (omega arith) refl refl k

-- A node is a name exactly if its row is of kind 18, and then the row's value is that name.
pub node-var : (r : Row) → r.kind ≡ 18 → (node_of r).kind ≡ VarT r.value
unfolding node_of kind_of kinds
node-var r h = rw h

pub var-node : (r : Row) {n : ℕ} → (node_of r).kind ≡ VarT n → (r.kind ≡ 18) × (r.value ≡ n)
unfolding node_of reference_of
var-node r {n} h = go (eqb r.kind 18) refl (sym (kind-name r.kind r.value) ∙ ap reference_of h)
  where
    go : (b : Bool) → eqb r.kind 18 ≡ b → cond b (r.value ∷ []) [] ≡ n ∷ [] → (r.kind ≡ 18) × (r.value ≡ n)
    go true e q = (eqb-true r.kind 18 e, ap (λ (l : List ℕ). get_or l 0 0) q)
    go false e q = let z : ◌≡◌ {A = ℕ} 0 1 = ap length q in let f : ⊥ = omega arith in absurd f

-- ---- The names of rows
pub names-rows : (rs : List Row) → names_in (map node_of rs) ≡ vars_of rs
unfolding flat node_of vars_of
names-rows [] = refl
names-rows (r ∷ rs) = rw (kind-name r.kind r.value, names-rows rs) (go (eqb r.kind 18))
  where
    go : (b : Bool) → cond b (r.value ∷ []) [] ++ vars_of rs ≡ cond b (r.value ∷ vars_of rs) (vars_of rs)
    go true = refl
    go false = refl

-- Trees from node i up to node e refer to the values of the rows of kind 18 there, in order.
pub references-siblings : (ns : List ℕ) (i e : ℕ) → references (siblings ns i e) ≡ vars_of (run (row_at ns) i (e - i))
references-siblings ns i e =
    references-preorder (siblings ns i e) ∙ ap names_in (preorder-siblings ns i e) ∙ names-rows (run (row_at ns) i (e - i))

pub vars-named : (names : ℕ) (rs : List Row) → All (RowFits names) rs → All (λ (n : ℕ). n < names) (vars_of rs)
unfolding vars_of
vars-named names [] h = tt
vars-named names (r ∷ rs) h = go (eqb r.kind 18) refl (vars-named names rs h.1)
  where
    go : (b : Bool) → eqb r.kind 18 ≡ b → All (λ (n : ℕ). n < names) (vars_of rs) → All (λ (n : ℕ). n < names) (cond b (r.value ∷ vars_of rs) (vars_of rs))
    go true e g = (h.0.name (eqb-true r.kind 18 e), g)
    go false e g = g
