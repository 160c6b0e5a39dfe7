-- Laws of nodes by their numbers: of all nodes, and of trees that stand beside each other. Assumes nothing.
--     node-inside, tree-inside         a number is below the count
--     node-occurs, occurs-node         nodes that occur have a number
--     child-node                       that of a child
--     node-only                        a number has one node, with its children
--     node-at                          node n of whole trees is that of row n, with the trees of the rows below it
--     Ordinal, by-number, by-ordinal   trees beside each other by how many stand before them, and how many nodes those have
use mathlib.Core.Path.{◌≡◌, refl, sym, ap, subst, ◌∙◌}
use mathlib.Core.List.{List, [], ◌∷◌, ◌++◌}
use Prim.Native.Nat.{ℕ, zero, suc, ◌+◌, ◌-◌, ◌≤◌, ◌<◌}
use native.Mathlib.Nat.{not-suc-le-zero, le_of_suc-le-suc}
use native.Mathlib.Decide.{dec_lt}
use native.Mathlib.Omega.{arith}
use lib.ListN.{length, get_or, length-append, get_or-append}
use lib.Seq.{get_or-append-add}
use Rattle.format.specs.Forest.{Forest, end, tree, count, breadth}
use Rattle.format.specs.Node.{Node}
use Rattle.format.specs.Layout.{row_at, node_of, siblings}
use Rattle.format.specs.Whole.{Whole}
use Rattle.format.specs.Occurs as occurs
use Rattle.format.specs.Numbered.{NodeAt, root, below, after, TreeAt, first, later}
use Rattle.format.proofs.Rows.{opens, kids-whole, siblings-opens, count-siblings}

-- ---- A number is below the count, and so are those of the nodes below it
pub node-inside : {n : Node} {kids f : Forest Node} {i : ℕ} → NodeAt n kids i f → i + count kids < count f
unfolding count
node-inside root = omega arith
node-inside (below s) = omega (arith, node-inside s)
node-inside (after s) = omega (arith, node-inside s)

pub tree-inside : {n : Node} {kids f : Forest Node} {i : ℕ} → TreeAt n kids i f → i < count f
unfolding count
tree-inside first = omega arith
tree-inside (later s) = omega (arith, tree-inside s)

-- ---- Nodes that occur, and children
pub node-occurs : {n : Node} {kids f : Forest Node} {i : ℕ} → NodeAt n kids i f → occurs.Occurs n kids f
node-occurs root = occurs.here
node-occurs (below o) = occurs.below (node-occurs o)
node-occurs (after o) = occurs.after (node-occurs o)

pub occurs-node : {n : Node} {kids f : Forest Node} → occurs.Occurs n kids f → (i : ℕ) × NodeAt n kids i f
occurs-node occurs.here = (0, root)
occurs-node (occurs.below o) = let (i, s) = occurs-node o in (suc i, below s)
occurs-node (occurs.after o) = let (i, s) = occurs-node o in (_, after s)

tree-node : {n : Node} {kids f : Forest Node} {i : ℕ} → TreeAt n kids i f → NodeAt n kids i f
tree-node first = root
tree-node (later t) = after (tree-node t)

-- a child's number, from its parent's
numbered : {n : Node} {kids f : Forest Node} {i j : ℕ} → i ≡ j → NodeAt n kids i f → NodeAt n kids j f
numbered {n} {kids} {f} e s = subst (λ (k : ℕ). NodeAt n kids k f) e s

pub child-node : {n m : Node} {kids lids f : Forest Node} {i j : ℕ} → NodeAt n kids i f → TreeAt m lids j kids → NodeAt m lids (suc (i + j)) f
child-node {m = m} {lids = lids} (root {next = next}) t = numbered (omega arith) (below (tree-node t))
child-node (below o) t = numbered (omega arith) (below (child-node o t))
child-node (after o) t = numbered (omega arith) (after (child-node o t))

-- ---- A number has one node

-- All nodes with their children, in preorder.
unfoldable standing : Forest Node → List (Node × Forest Node)
standing end = []
standing (tree n kids next) = (n, kids) ∷ (standing kids ++ standing next)

standing-length : (f : Forest Node) → length (standing f) ≡ count f
unfolding standing count
standing-length end = refl
standing-length (tree n kids next) = omega (arith, length-append (standing kids) (standing next), standing-length kids, standing-length next)

standing-at : (d : Node × Forest Node) {n : Node} {kids f : Forest Node} {i : ℕ} → NodeAt n kids i f → get_or (standing f) i d ≡ (n, kids)
unfolding standing
standing-at d root = refl
standing-at d (below {lids = lids} {next = next} {i = i} s) =
    get_or-append (standing lids) (standing next) d i (omega (arith, standing-length lids, node-inside s)) ∙ standing-at d s
standing-at d (after {lids = lids} {next = next} {i = i} s) =
    ap (λ (k : ℕ). get_or (standing lids ++ standing next) (k + i) d) (sym (standing-length lids))
    ∙ get_or-append-add (standing lids) (standing next) i d
    ∙ standing-at d s

pub node-only : {n m : Node} {kids lids f : Forest Node} {i : ℕ} → NodeAt n kids i f → NodeAt m lids i f → (n ≡ m) × (kids ≡ lids)
node-only {n = n} {kids = kids} s t =
    let e = sym (standing-at (n, kids) s) ∙ standing-at (n, kids) t in
    (ap (λ (p : Node × Forest Node). p.0) e, ap (λ (p : Node × Forest Node). p.1) e)

-- ---- Node n of whole trees

-- Node n of the rows is node i of a forest.
abbrev pub RowStands : List ℕ → ℕ → ℕ → Forest Node → Type 0
RowStands ns n i f = NodeAt (node_of (row_at ns n)) (siblings ns (n + 1) (n + (row_at ns n).size)) i f

-- By the number k of nodes at most: the first one, one below it, or one after that.
among : {ns : List ℕ} (k : ℕ) {i e : ℕ} → Whole ns i e → e ≤ i + k → (n : ℕ) → i ≤ n → n < e → RowStands ns n (n - i) (siblings ns i e)
among zero w h n l m = let z : ⊥ = omega arith in absurd z
among {ns} (suc k) {i} {e} w h n l m =
    let o = opens w (omega arith) in
    let z = (row_at ns i).size in
    let K = siblings ns (i + 1) (i + z) in
    let N = siblings ns (i + z) e in
    rw (siblings-opens o)
    (go z K N o.here.one (count-siblings ns (i + 1) (i + z)) (λ y. subst (λ (j : ℕ). RowStands ns j 0 (tree (node_of (row_at ns i)) K N)) y root)
    (λ x y. among k (kids-whole o.here) (omega (arith, o.rest.ordered)) n x y) (λ x. among k o.rest (omega (arith, o.here.one)) n x m) (dec_lt i n) (dec_lt n (i + z)))
  where
    go : (z : ℕ) (K N : Forest Node) → 1 ≤ z → count K ≡ i + z - (i + 1) → (i ≡ n → RowStands ns n 0 (tree (node_of (row_at ns i)) K N)) →
        (i + 1 ≤ n → n < i + z → RowStands ns n (n - (i + 1)) K) → (i + z ≤ n → RowStands ns n (n - (i + z)) N) → Dec (i < n) → Dec (n < i + z) →
        RowStands ns n (n - i) (tree (node_of (row_at ns i)) K N)
    go z K N one c here b a (no x) d = let y : n - i ≡ 0 = omega arith in rw y (here (omega arith))
    go z K N one c here b a (yes x) (yes y) = let q : n - i ≡ suc (n - (i + 1)) = omega arith in rw q (below (b (omega arith) y))
    go z K N one c here b a (yes x) (no y) = let q : n - i ≡ suc (count K + (n - (i + z))) = omega arith in rw q (after (a (omega arith)))

pub node-at : {ns : List ℕ} {e : ℕ} → Whole ns 0 e → (n : ℕ) → n < e → RowStands ns n n (siblings ns 0 e)
node-at {e = e} w n h = let z : n - 0 ≡ n = omega arith in rw z at (among e w (omega arith) n (omega arith) h)

-- ---- Trees beside each other, by how many stand before them

-- How many nodes the first o trees have.
unfoldable pub nodes_before : ℕ → Forest Node → ℕ
nodes_before zero f = 0
nodes_before (suc o) end = 0
nodes_before (suc o) (tree n kids next) = suc (count kids + nodes_before o next)

pub before-rises : (f : Forest Node) (o p : ℕ) → o < p → p ≤ breadth f → nodes_before o f < nodes_before p f
unfolding nodes_before breadth
before-rises f o zero h l = absurd (not-suc-le-zero h)
before-rises end o (suc p) h l = absurd (not-suc-le-zero l)
before-rises (tree n kids next) zero (suc p) h l = omega arith
before-rises (tree n kids next) (suc o) (suc p) h l = omega (arith, before-rises next o p (le_of_suc-le-suc h) (le_of_suc-le-suc l))

-- The roots of the trees.
unfoldable pub roots : Forest Node → List Node
roots end = []
roots (tree n kids next) = n ∷ roots next

pub roots-length : (f : Forest Node) → length (roots f) ≡ breadth f
unfolding roots breadth
roots-length end = refl
roots-length (tree n kids next) = ap suc (roots-length next)

-- Tree o is node i, which is n with its children.
pub record Ordinal (f : Forest Node) (o i : ℕ) (n : Node) (kids : Forest Node) : Type 0 where
  pub inside : o < breadth f
  pub starts : nodes_before o f ≡ i
  pub root : (d : Node) → get_or (roots f) o d ≡ n
  pub stands : TreeAt n kids i f

ordinal-first : {n : Node} {kids next : Forest Node} → Ordinal (tree n kids next) 0 0 n kids
unfolding nodes_before breadth roots
ordinal-first = record { inside = omega arith; starts = refl; root = λ d. refl; stands = first }

ordinal-later : {n m : Node} {kids lids next : Forest Node} {o i : ℕ} → Ordinal next o i n kids → Ordinal (tree m lids next) (suc o) (suc (count lids + i)) n kids
unfolding nodes_before breadth roots
ordinal-later {lids = lids} s =
    record { inside = omega (arith, s.inside); starts = ap (λ (k : ℕ). suc (count lids + k)) s.starts; root = s.root; stands = later s.stands }

pub by-number : {n : Node} {kids f : Forest Node} {i : ℕ} → TreeAt n kids i f → (o : ℕ) × Ordinal f o i n kids
by-number first = (0, ordinal-first)
by-number (later s) = let p = by-number s in (suc p.0, ordinal-later p.1)

pub by-ordinal : (f : Forest Node) (o : ℕ) → o < breadth f → (n : Node) × (kids : Forest Node) × Ordinal f o (nodes_before o f) n kids
unfolding nodes_before breadth
by-ordinal end o h = absurd (not-suc-le-zero h)
by-ordinal (tree n kids next) zero h = (n, kids, ordinal-first)
by-ordinal (tree n kids next) (suc o) h = let p = by-ordinal next o (le_of_suc-le-suc h) in (p.0, p.1, ordinal-later p.2)
