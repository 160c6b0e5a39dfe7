-- Laws of nodes that stand somewhere in trees, and of trees beside each other: a tree is its node, what stands below and what stands after.
-- Assumes nothing.
--     Everywhere, Somewhere, EachTree    of all nodes, of one, of the trees beside each other
--     everywhere-beside, each-beside, .. of trees beside others
--     reference-occurs, occurs-reference the names that trees refer to are nodes there
use mathlib.Core.Path.{◌≡◌, refl, sym, ap}
use mathlib.Core.Logic.{inl, inr}
use mathlib.Core.List.Memᴰ
use mathlib.Core.List.{◌++◌, Memᴰ}
use Prim.Native.Nat.{ℕ}
use Rattle.format.specs.Forest.{Forest, end, tree, beside}
use Rattle.format.specs.Node.{Kind, PrimT, VarT, OptT, VecT, RecordT, VariantT, FuncT, ServT, ClassT, InitT, Node}
use Rattle.format.specs.References.{reference_of, references}
use Rattle.format.specs.Occurs.{Occurs, here, below, after, Beside, first, later}

-- P of each node with its children; of one of them; of each of the trees beside each other.
abbrev pub Everywhere : (Node → Forest Node → Type 0) → Forest Node → Type 0
Everywhere P f = (n : Node) (kids : Forest Node) → Occurs n kids f → P n kids

abbrev pub Somewhere : (Node → Forest Node → Type 0) → Forest Node → Type 0
Somewhere P f = (n : Node) × (kids : Forest Node) × Occurs n kids f × P n kids

abbrev pub EachTree : (Node → Forest Node → Type 0) → Forest Node → Type 0
EachTree P f = (n : Node) (kids : Forest Node) → Beside n kids f → P n kids

pub occurs-end : {n : Node} {kids : Forest Node} {A : Type 0} → Occurs n kids end → A
occurs-end o = elim o [ ]

pub beside-none : {n : Node} {kids : Forest Node} {A : Type 0} → Beside n kids end → A
beside-none o = elim o [ ]

pub beside-occurs : {n : Node} {kids f : Forest Node} → Beside n kids f → Occurs n kids f
beside-occurs first = here
beside-occurs (later o) = after (beside-occurs o)

module _ {P : Node → Forest Node → Type 0} {m : Node} {lids next : Forest Node} where
  pub everywhere-tree : P m lids → Everywhere P lids → Everywhere P next → Everywhere P (tree m lids next)
  everywhere-tree p q r n kids here = p
  everywhere-tree p q r n kids (below o) = q n kids o
  everywhere-tree p q r n kids (after o) = r n kids o

  pub in-kids : Everywhere P (tree m lids next) → Everywhere P lids
  in-kids h n kids o = h n kids (below o)

  pub in-next : Everywhere P (tree m lids next) → Everywhere P next
  in-next h n kids o = h n kids (after o)

  pub each-tree : P m lids → EachTree P next → EachTree P (tree m lids next)
  each-tree p q n kids first = p
  each-tree p q n kids (later o) = q n kids o

  pub in-others : EachTree P (tree m lids next) → EachTree P next
  in-others h n kids o = h n kids (later o)

  pub somewhere-below : Somewhere P lids → Somewhere P (tree m lids next)
  somewhere-below s = (s.0, s.1, below s.2, s.3)

  pub somewhere-after : Somewhere P next → Somewhere P (tree m lids next)
  somewhere-after s = (s.0, s.1, after s.2, s.3)

-- ---- Trees beside others
module _ {P : Node → Forest Node → Type 0} where
  pub everywhere-beside : (f g : Forest Node) → Everywhere P f → Everywhere P g → Everywhere P (beside f g)
  unfolding beside
  everywhere-beside end g p q = q
  everywhere-beside (tree n kids next) g p q = everywhere-tree (p n kids here) (in-kids p) (everywhere-beside next g (in-next p) q)

  pub beside-everywhere : (f g : Forest Node) → Everywhere P (beside f g) → Everywhere P f × Everywhere P g
  unfolding beside
  beside-everywhere end g p = (λ n kids o. occurs-end o, p)
  beside-everywhere (tree n kids next) g p = let r = beside-everywhere next g (in-next p) in (everywhere-tree (p n kids here) (in-kids p) r.0, r.1)

  pub each-beside : (f g : Forest Node) → EachTree P f → EachTree P g → EachTree P (beside f g)
  unfolding beside
  each-beside end g p q = q
  each-beside (tree n kids next) g p q = each-tree (p n kids first) (each-beside next g (in-others p) q)

  pub beside-each : (f g : Forest Node) → EachTree P (beside f g) → EachTree P f × EachTree P g
  unfolding beside
  beside-each end g p = (λ n kids o. beside-none o, p)
  beside-each (tree n kids next) g p = let r = beside-each next g (in-others p) in (each-tree (p n kids first) r.0, r.1)

-- ---- References

-- The name that a kind is.
is-name : (κ : Kind) {n : ℕ} → Memᴰ n (reference_of κ) → κ ≡ VarT n
unfolding reference_of
is-name (PrimT p) m = absurd (Memᴰ.not-nil m)
is-name (VarT k) m = ap VarT (sym (Memᴰ.eq_of_singleton m))
is-name OptT m = absurd (Memᴰ.not-nil m)
is-name VecT m = absurd (Memᴰ.not-nil m)
is-name RecordT m = absurd (Memᴰ.not-nil m)
is-name VariantT m = absurd (Memᴰ.not-nil m)
is-name (FuncT a ms) m = absurd (Memᴰ.not-nil m)
is-name ServT m = absurd (Memᴰ.not-nil m)
is-name ClassT m = absurd (Memᴰ.not-nil m)
is-name InitT m = absurd (Memᴰ.not-nil m)

name-is : (κ : Kind) {n : ℕ} → κ ≡ VarT n → Memᴰ n (reference_of κ)
unfolding reference_of
name-is κ e = rw e (Memᴰ.head refl)

-- A node of a name.
abbrev pub IsVar : ℕ → Node → Forest Node → Type 0
IsVar k n kids = n.kind ≡ VarT k

pub reference-occurs : (f : Forest Node) {k : ℕ} → Memᴰ k (references f) → Somewhere (IsVar k) f
unfolding references
reference-occurs end m = absurd (Memᴰ.not-nil m)
reference-occurs (tree n kids next) {k} m =
    elim (Memᴰ.append_cases (reference_of n.kind) m) [
      | inl h ↦ (n, kids, here, is-name n.kind h)
      | inr h ↦ elim (Memᴰ.append_cases (references kids) h) [ inl i ↦ somewhere-below (reference-occurs kids i) | inr i ↦ somewhere-after (reference-occurs next i) ]
    ]

pub occurs-reference : {n : Node} {kids : Forest Node} {k : ℕ} {f : Forest Node} → Occurs n kids f → n.kind ≡ VarT k → Memᴰ k (references f)
unfolding references
occurs-reference {n = n} {kids = kids} (here {next = next}) e = Memᴰ.append_left (references kids ++ references next) (name-is n.kind e)
occurs-reference (below {m = m} {lids = lids} {next = next} o) e =
    Memᴰ.append_right (reference_of m.kind) (Memᴰ.append_left (references next) (occurs-reference o e))
occurs-reference (after {m = m} {lids = lids} o) e = Memᴰ.append_right (reference_of m.kind) (Memᴰ.append_right (references lids) (occurs-reference o e))
