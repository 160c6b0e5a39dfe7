-- How often types are used, counted in a table of nodes. Assumes nothing.
--     stands-none        a table that has nothing
--     primitive-none     a primitive type has no amount
--     Placed, placed-..  the node at which a type counts, and what the table is with it
--     UsedLeft, ..       the loop of `add_all` over trees
use mathlib.Core.Path.{◌≡◌, refl, sym, ap, subst, ◌∙◌}
use mathlib.Core.List.{List}
use Prim.Native.Nat.{ℕ, suc, ◌+◌, ◌*◌, ◌≤◌, ◌<◌}
use native.Mathlib.Nat.{mul-zero, mul-add}
use native.Mathlib.Decide.{dec_lt, ℕ_discrete}
use native.Mathlib.Omega.{arith}
use lib.ListN.{length, get_or, set, replicate, length-set, length-replicate, get_or-eq_default}
use Rattle.std.proofs.lemmas.List.{get_or-set_same, get_or-set_other}
use Rattle.format.specs.Forest.{Forest, end, tree}
use Rattle.format.specs.Node.{VarT, kind_number, Node}
use Rattle.format.specs.Encode.{Row}
use Rattle.format.specs.Layout.{row_at, siblings, node_of}
use Rattle.format.specs.Whole.{tree_at}
use Rattle.format.proofs.References.{everywhere, node-var}
use Rattle.format.proofs.Nodes.{kind-number}
use Rattle.format.proofs.Rows.{opens}
use Rattle.format.proofs.Stored.{tree-opens}
use Rattle.book.specs.declared.walks.Siblings.{Siblings}
use Rattle.book.specs.declared.read.Node as read
use Rattle.book.specs.Walks.{Over, NextTree}
use Rattle.book.proofs.Walking as walks
use Rattle.listing.proofs.Leaves.{Bare, Leafy}
use Rattle.analysis.specs.declared.use_counts.UsedTypes.{UsedTypes}
use Rattle.analysis.specs.Tallies.{Amount, ByWalk, each_type, type_at, trees_tally, weighed, Stands, UsedIn, RoomFor}
use Rattle.analysis.proofs.BookNodes.{Rooted, here-whole, here-leafy}
use Rattle.analysis.proofs.use_counts.ByWalk.{each-type-by-walk, each-type-one}
use Rattle.analysis.proofs.use_counts.Types.{tally-none, tally-open}
use Rattle.analysis.proofs.use_counts.Weights.{weighed-more, weighed-alone}

-- ---- A table that has nothing
pub stands-none : (ns : List ℕ) (nodes : ℕ) {types : UsedTypes} → types.times ≡ replicate 4096 0 → types.of_name ≡ replicate 1024 0 → Stands ns nodes types
stands-none ns nodes {types} t o =
    record {
      long = ap length t ∙ length-replicate {A = ℕ} 4096 0;
      first = λ v r e. let z : suc r ≡ 0 = sym e ∙ ap (λ (l : List ℕ). get_or l v 0) o ∙ everywhere 1024 v 0 in absurd (omega arith);
      beyond = λ i h. ap (λ (l : List ℕ). get_or l i 0) t ∙ everywhere 4096 i 0;
    }

-- ---- The type at a node
module _ {ns roots : List ℕ} (b : Rooted ns roots) where
  -- The kind of a node has its row's number.
  number-at : {n : ℕ} → n < b.count → kind_number (node_of (row_at ns n)).kind ≡ (row_at ns n).kind
  unfolding node_of
  number-at {n} h = kind-number (row_at ns n).kind (row_at ns n).value (b.all.nodes.row n h).kind

  pub primitive-none : {n : ℕ} → n < b.count → {q : Row} → q ≡ row_at ns n → q.kind < 18 → (f : Amount) → ByWalk f → type_at ns n f ≡ 0
  primitive-none {n} h is k f w =
      ap f (tree-opens (here-whole b h))
      ∙ w.none (siblings ns (n + 1) (n + (row_at ns n).size)) (omega (arith, number-at h, ap (λ (r : Row). r.kind) is))

  type-one : {n : ℕ} → n < b.count → 18 ≤ (row_at ns n).kind → type_at ns n each_type ≡ 1
  type-one {n} h k =
      ap each_type (tree-opens (here-whole b h)) ∙ each-type-one (node_of (row_at ns n)) (siblings ns (n + 1) (n + (row_at ns n).size)) (omega (arith, number-at h))

  -- A name has nothing below it.
  name-alone : {n : ℕ} → n < b.count → (row_at ns n).kind ≡ 18 → tree_at ns n ≡ tree (node_of (row_at ns n)) end end
  name-alone {n} h k =
      let t = tree-opens (here-whole b h) in
      let bare = (subst Leafy t (here-leafy b h)).0 in
      t ∙ ap (λ (f : Forest Node). tree (node_of (row_at ns n)) f end)
      (subst (λ κ. Bare κ (siblings ns (n + 1) (n + (row_at ns n).size))) (node-var (row_at ns n) k) bare)

  -- Node r is the name v.
  abbrev IsName : (v r : ℕ) → Type 0
  IsName v r = (r < b.count) × ((row_at ns r).kind ≡ 18) × ((row_at ns r).value ≡ v)

  -- Where two nodes are one name, they are one type.
  name-same : {n m : ℕ} → n < b.count → m < b.count → (row_at ns n).kind ≡ 18 → (row_at ns m).kind ≡ 18 → (row_at ns n).value ≡ (row_at ns m).value →
      (f : Amount) → ByWalk f → type_at ns n f ≡ type_at ns m f
  name-same {n} {m} h i k l e f w =
      ap f (name-alone h k)
      ∙ w.same end (node-var (row_at ns n) k ∙ ap VarT e ∙ sym (node-var (row_at ns m) l))
      ∙ sym (ap f (name-alone i l))

-- ---- A type counts at a node that stands for it
pub record Placed (ns : List ℕ) (nodes n : ℕ) (old mid : UsedTypes) (at : ℕ) : Type 0 where
  pub inside : at < nodes
  pub few : nodes ≤ 4096
  pub stands : Stands ns nodes mid
  pub times : mid.times ≡ old.times
  pub same : (f : Amount) → ByWalk f → type_at ns at f ≡ type_at ns n f
  pub one : type_at ns n each_type ≡ 1

module _ {ns roots : List ℕ} (b : Rooted ns roots) {n : ℕ} (h : n < b.count) {q : Row} (is : q ≡ row_at ns n) {old : UsedTypes} (s : Stands ns b.count old) where
  -- itself
  pub placed-here : 18 ≤ q.kind → Placed ns b.count n old old n
  placed-here k = record { inside = h; few = b.all.nodes.few_nodes; stands = s; times = refl; same = λ f w. refl; one = type-one b h (omega (arith, ap (λ (r : Row). r.kind) is)) }

  module _ (k : q.kind ≡ 18) where
    kind-is : (row_at ns n).kind ≡ 18
    kind-is = omega (arith, k, ap (λ (r : Row). r.kind) is)

    -- the first node that was met of this name
    pub placed-first : {first : ℕ} → get_or old.of_name q.value 0 ≡ suc first → Placed ns b.count n old old first
    placed-first {first} e =
        let r = s.first q.value first e in
        record {
          inside = r.0;
          few = b.all.nodes.few_nodes;
          stands = s;
          times = refl;
          same = name-same b r.0 h r.1 kind-is (r.2 ∙ ap (λ (r : Row). r.value) is);
          one = type-one b h (omega (arith, kind-is));
        }

    -- itself, which is the first
    pub placed-new : Placed ns b.count n old (record { times = old.times; of_name = set old.of_name q.value (n + 1) }) n
    placed-new =
        record {
          inside = h;
          few = b.all.nodes.few_nodes;
          stands = record { long = s.long; first = λ v r. go v r (ℕ_discrete v q.value) (dec_lt q.value (length old.of_name)); beyond = s.beyond };
          times = refl;
          same = λ f w. refl;
          one = type-one b h (omega (arith, kind-is));
        }
      where
        of_name : List ℕ
        of_name = set old.of_name q.value (n + 1)

        go : (v r : ℕ) → Dec (v ≡ q.value) → Dec (q.value < length old.of_name) → get_or of_name v 0 ≡ suc r → IsName b v r
        go v r (no e) m z = s.first v r (sym (get_or-set_other old.of_name q.value v (n + 1) 0 e) ∙ z)
        go v r (yes e) (no m) z =
            let out : length of_name ≤ v = omega (arith, e, length-set old.of_name q.value (n + 1)) in
            absurd (omega (arith, get_or-eq_default of_name 0 out, z))
        go v r (yes e) (yes m) z =
            let own : get_or of_name v 0 ≡ n + 1 = ap (λ (j : ℕ). get_or of_name j 0) e ∙ get_or-set_same old.of_name q.value (n + 1) 0 m in
            let here : n ≡ r = omega (arith, own, z) in
            subst (IsName b v) here (h, kind-is, sym (e ∙ ap (λ (r : Row). r.value) is))

module _ {ns : List ℕ} {nodes n at : ℕ} {old mid : UsedTypes} (p : Placed ns nodes n old mid at) (times : ℕ) where
  abbrev more : ℕ
  more = get_or mid.times at 0 + times

  abbrev new : UsedTypes
  new = record { times = set mid.times at more; of_name = mid.of_name }

  placed-many : get_or mid.times at 0 ≤ weighed (type_at ns) 0 old.times each_type
  placed-many =
      let one : get_or mid.times at 0 * type_at ns at each_type ≡ get_or mid.times at 0 = ap (λ (k : ℕ). get_or mid.times at 0 * k) (p.same each_type each-type-by-walk ∙ p.one) ∙ omega arith in
      let w = weighed-alone (type_at ns) each_type mid.times at in
      omega (arith, one, w, ap (λ (l : List ℕ). weighed (type_at ns) 0 l each_type) p.times)

  pub placed-room : RoomFor ns old times (type_at ns n) → more < 4294967296
  placed-room r = omega (arith, placed-many, r, ap (λ (k : ℕ). times * k) p.one)

  pub placed-stands : Stands ns nodes new
  placed-stands =
      record {
        long = length-set mid.times at more ∙ p.stands.long;
        first = p.stands.first;
        beyond = λ i h. get_or-set_other mid.times at i more 0 (λ z. absurd (omega (arith, p.inside))) ∙ p.stands.beyond i h;
      }

  pub placed-used : UsedIn ns old new times (type_at ns n)
  placed-used f w =
      weighed-more (type_at ns) f mid.times at times (omega (arith, p.inside, p.few, p.stands.long))
      ∙ rw (p.times, p.same f w) refl

-- ---- The loop of `add_all` over trees, at node i
pub record UsedLeft (ns : List ℕ) (nodes from until times : ℕ) (old mid : UsedTypes) (i : ℕ) : Type 0 where
  pub stands : Stands ns nodes mid
  pub left : (f : Amount) → ByWalk f →
      weighed (type_at ns) 0 mid.times f + times * trees_tally ns i until f ≡ weighed (type_at ns) 0 old.times f + times * trees_tally ns from until f

pub used-start : {ns : List ℕ} {nodes : ℕ} (until times : ℕ) {old : UsedTypes} → Stands ns nodes old → {from i : ℕ} → i ≡ from → UsedLeft ns nodes from until times old old i
used-start {ns} {nodes} until times {old} h {from} e = subst (UsedLeft ns nodes from until times old old) (sym e) record { stands = h; left = λ f w. refl }

module _ {ns : List ℕ} {nodes from until times : ℕ} {old mid : UsedTypes} where
  pub used-end : {i : ℕ} → UsedLeft ns nodes from until times old mid i → until ≤ i → UsedIn ns old mid times (trees_tally ns from until)
  used-end {i} l h f w =
      let none : times * trees_tally ns i until f ≡ 0 = ap (λ (c : ℕ). times * c) (tally-none f ns i until h) ∙ mul-zero times in
      omega (arith, l.left f w, none)

  -- the walk has given a tree
  module _ {s : Siblings} (o : Over ns until s) (l : UsedLeft ns nodes from until times old mid s.at) {i : ℕ} {node : read.Node} {t : Siblings} (x : NextTree s i node t) where
    pub used-inside : i < until
    used-inside = omega (arith, x.place, walks.here o x)

    -- it, and those after it
    opens-used : (f : Amount) → times * trees_tally ns s.at until f ≡ times * type_at ns i f + times * trees_tally ns t.at until f
    opens-used f =
        ap (λ (a : ℕ). times * a)
        (tally-open f (opens (walks.whole o) (walks.here o x))
        ∙ ap (λ (n : ℕ). type_at ns s.at f + trees_tally ns n until f) (sym (walks.at o x))
        ∙ ap (λ (n : ℕ). type_at ns n f + trees_tally ns t.at until f) (sym x.place))
        ∙ mul-add times (type_at ns i f) (trees_tally ns t.at until f)

    pub used-room : RoomFor ns old times (trees_tally ns from until) → RoomFor ns mid times (type_at ns i)
    used-room r = omega (arith, r, l.left each_type each-type-by-walk, opens-used each_type)

    pub used-on : {new : UsedTypes} → Stands ns nodes new → UsedIn ns mid new times (type_at ns i) → UsedLeft ns nodes from until times old new t.at
    used-on s u = record { stands = s; left = λ f w. omega (arith, l.left f w, u f w, opens-used f) }
