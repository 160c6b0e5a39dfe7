-- From keys to repeats: of the children of a node, the first whose key stands before is its first repeat. Assumes nothing.
--     kids-between       the children of a node
--     repeat-parent      only such a node as `is_parent` tells has a repeat below it
--     child-repeat       a child whose key an earlier one has is a repeat
--     child-least        no repeat below the node is before the first such child
--     none-below         nor is there one where no child's key stands before
use mathlib.Core.Path.{◌≡◌, refl, sym, subst, ◌∙◌}
use mathlib.Core.Bool.{true}
use mathlib.Core.List.{List, [], ◌∷◌}
use Prim.Native.Nat.{ℕ, zero, suc, ◌+◌, ◌≤◌, ◌<◌}
use native.Mathlib.Nat.{not-suc-le-zero}
use native.Mathlib.Decide.{ℕ_discrete, dec_lt}
use native.Mathlib.Omega.{arith}
use borrow.Author.Tests.{lt-ltb}
use lib.ListN.{length, get_or, take}
use lib.Seq.{take-length}
use Rattle.format.specs.Forest.{Forest, count, breadth}
use Rattle.format.specs.Node.{Labelled, Node}
use Rattle.format.specs.Book.{trees}
use Rattle.format.specs.Layout.{nodes_part, row_at, node_of, siblings, read}
use Rattle.format.specs.Rules.{below_kind}
use Rattle.format.specs.Distinct.{Distinct}
use Rattle.format.specs.Numbered.{NodeAt, TreeAt}
use Rattle.format.specs.Repeats.{OneLabel, RepeatAt}
use Rattle.format.proofs.Distinct.{distinct-head, distinct-tail}
use Rattle.format.proofs.Rows.{kids-whole, count-siblings}
use Rattle.format.proofs.Numbered.{tree-inside, node-only, RowStands, node-at, nodes_before, before-rises, by-number, by-ordinal}
use Rattle.format.proofs.Admitted.{trees-are, trees-whole, node-stored}
use Rattle.duplicates.specs.Duplicate.{FirstDuplicate}
use Rattle.duplicates.proofs.Places.{stands-at, place-of}
use Rattle.format.specs.Labels.{keys_of}
use Rattle.repeats.specs.Keys.{key_of, labels_below, is_parent}
use Rattle.repeats.specs.Steps.{Stands, Between}
use Rattle.repeats.proofs.Keys.{keys-length, keys-at}
use Rattle.repeats.proofs.Gathered.{row-fits}
use Rattle.repeats.proofs.Labelled.{has-labels, one-key, key-one}

-- No number stands twice before place d.
distinct-apart : (ks : List ℕ) (d : ℕ) → Distinct (take d ks) → (o p : ℕ) → o < p → p < d → d ≤ length ks → get_or ks o 0 ≡ get_or ks p 0 → ⊥
distinct-apart ks zero x o p h l m e = not-suc-le-zero l
distinct-apart [] (suc d) x o p h l m e = not-suc-le-zero m
distinct-apart (k ∷ ks) (suc d) x o zero h l m e = not-suc-le-zero h
distinct-apart (k ∷ ks) (suc d) x zero (suc p) h l m e = distinct-head x (stands-at ks d p (omega arith) (omega arith) (sym e))
distinct-apart (k ∷ ks) (suc d) x (suc o) (suc p) h l m e = distinct-apart ks d (distinct-tail x) o p (omega arith) (omega arith) (omega arith) e

before-most : (f : Forest Node) (o p : ℕ) → o ≤ p → p ≤ breadth f → nodes_before o f ≤ nodes_before p f
before-most f o p h l = go (ℕ_discrete o p)
  where
    go : Dec (o ≡ p) → nodes_before o f ≤ nodes_before p f
    go (yes e) = rw e (omega arith)
    go (no n) = omega (arith, before-rises f o p (omega arith) l)

-- The children of node i, and their keys.
abbrev pub kids_at : List ℕ → ℕ → Forest Node
kids_at ns i = siblings ns (i + 1) (i + (row_at ns i).size)

abbrev key_at : List ℕ → List ℕ → ℕ → Labelled → ℕ
key_at bs ns i = key_of (below_kind (row_at ns i).kind) (read bs).names

abbrev pub keys_at : List ℕ → List ℕ → ℕ → List ℕ
keys_at bs ns i = keys_of (key_at bs ns i) (kids_at ns i)

-- A repeat in the book of the bytes.
abbrev Repeats : List ℕ → ℕ → Labelled → Type 0
Repeats bs j l = RepeatAt (read bs).names (trees (read bs)) j l

-- ---- A node of the book
module _ {bs ns : List ℕ} (s : Stands bs ns) (i : ℕ) (h : i < count (trees (read bs))) where
  stands : RowStands ns i i (trees (read bs))
  stands = rw s.rows (subst (RowStands (nodes_part bs) i i) (trees-are bs s.laid) (node-at (trees-whole bs s.laid) i h))

  pub kids-between : Between bs ns (i + 1) (i + (row_at ns i).size)
  kids-between = rw s.rows (let t = (node-stored bs s.laid i h).tree in record { whole = kids-whole t.whole; inside = t.ends })

  -- A repeat below it is a pair of its children, by their ordinals.
  record Pair (later_at : ℕ) : Type 0 where
    labels : labels_below (row_at ns i).kind ≡ true
    one : ℕ
    other : ℕ
    order : one < other
    inside : other < breadth (kids_at ns i)
    at : nodes_before other (kids_at ns i) ≡ later_at
    same : get_or (keys_at bs ns i) one 0 ≡ get_or (keys_at bs ns i) other 0

  module _ {j : ℕ} {l : Labelled} (x : Repeats bs j l) (e : x.at ≡ i) where
    pair : Pair x.later_at
    unfolding node_of
    pair =
        let kids = kids_at ns i in
        let key = key_at bs ns i in
        let only = node-only (subst (λ (k : ℕ). NodeAt x.parent x.kids k (trees (read bs))) e x.stands) stands in
        let one = by-number (subst (TreeAt x.earlier x.earlier_kids x.earlier_at) only.1 x.one) in
        let other = by-number (subst (TreeAt x.later x.later_kids x.later_at) only.1 x.other) in
        let keys =
        one-key (read bs).names (row_at ns i).kind (row_at ns i).value (row-fits s i h).kind
        (subst (λ (n : Node). OneLabel (read bs).names n.kind x.earlier.label x.later.label) only.0 x.same) in
        record {
          labels = keys.0;
          one = one.0;
          other = other.0;
          order = ordered kids one.0 other.0 (omega (arith, one.1.inside)) (omega (arith, one.1.starts, other.1.starts, x.order)) (dec_lt one.0 other.0);
          inside = other.1.inside;
          at = other.1.starts;
          same =
              keys-at key kids one.0 x.earlier one.1.inside (one.1.root x.earlier)
              ∙ keys.1
              ∙ sym (keys-at key kids other.0 x.later other.1.inside (other.1.root x.later));
        }
      where
        ordered : (f : Forest Node) (o p : ℕ) → o ≤ breadth f → nodes_before o f < nodes_before p f → Dec (o < p) → o < p
        ordered f o p m l (yes y) = y
        ordered f o p m l (no y) = absurd (omega (arith, before-most f p o (omega arith) m))

    pub repeat-parent : is_parent (row_at ns i) ≡ true
    unfolding is_parent
    repeat-parent =
        let p = pair in
        let kids = kids_at ns i in
        let inside = tree-inside (by-ordinal kids p.other p.inside).2.stands in
        let rises = before-rises kids p.one p.other p.order (omega (arith, p.inside)) in
        rw (lt-ltb 2 (row_at ns i).size (omega (arith, count-siblings ns (i + 1) (i + (row_at ns i).size), inside, rises)), p.labels)

  -- ---- The first child whose key an earlier one has
  module _ {d : ℕ} (f : FirstDuplicate (keys_at bs ns i) d) where
    pub child-inside : d < breadth (kids_at ns i)
    child-inside = omega (arith, f.inside, keys-length (key_at bs ns i) (kids_at ns i))

    pub child-repeat : is_parent (row_at ns i) ≡ true → (l : Labelled) × Repeats bs (i + 1 + nodes_before d (kids_at ns i)) l
    unfolding node_of
    child-repeat t =
        let m = child-inside in
        let kids = kids_at ns i in
        let key = key_at bs ns i in
        let p = place-of (keys_at bs ns i) d f.again in
        let one = by-ordinal kids p.0 (omega (arith, p.1)) in
        let other = by-ordinal kids d m in
        let same =
        sym (keys-at key kids p.0 one.0 one.2.inside (one.2.root one.0))
        ∙ p.2
        ∙ keys-at key kids d other.0 other.2.inside (other.2.root other.0) in (
          other.0.label,
          record {
            parent = node_of (row_at ns i);
            kids = kids;
            at = i;
            stands = stands;
            earlier = one.0;
            earlier_kids = one.1;
            earlier_at = nodes_before p.0 kids;
            one = one.2.stands;
            later = other.0;
            later_kids = other.1;
            later_at = nodes_before d kids;
            other = other.2.stands;
            order = before-rises kids p.0 d p.1 (omega arith);
            same = key-one (read bs).names (row_at ns i).kind (row_at ns i).value (has-labels (row_at ns i) t) same;
            node = omega arith;
            label = refl;
          },
        )

    pub child-least : (j : ℕ) (l : Labelled) (x : Repeats bs j l) → x.at ≡ i → i + 1 + nodes_before d (kids_at ns i) ≤ j
    child-least j l x e =
        let kids = kids_at ns i in
        let p = pair x e in
        let most : d ≤ p.other = go p (dec_lt p.other d) in
        omega (arith, before-most kids d p.other most (omega (arith, p.inside)), p.at, x.node)
      where
        go : (p : Pair x.later_at) → Dec (p.other < d) → d ≤ p.other
        go p (yes y) = absurd (distinct-apart (keys_at bs ns i) d f.distinct p.one p.other p.order y (omega (arith, f.inside)) p.same)
        go p (no y) = omega arith

  -- none of its children has an earlier one's key
  pub none-below : Distinct (keys_at bs ns i) → (j : ℕ) (l : Labelled) (x : Repeats bs j l) → x.at ≡ i → ⊥
  none-below u j l x e =
      let p = pair x e in
      let ks = keys_at bs ns i in
      distinct-apart ks (length ks) (rw (take-length ks) u) p.one p.other p.order (omega (arith, p.inside, keys-length (key_at bs ns i) (kids_at ns i))) (omega arith) p.same
