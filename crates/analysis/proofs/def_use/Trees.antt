-- The loops over trees that stand beside each other: `put_trees` and `skip`. Assumes nothing.
use mathlib.Core.Path.{◌≡◌, refl, sym, ap, ap₂, subst, ◌∙◌}
use mathlib.Core.Bool.{Bool, true, false, cond}
use mathlib.Core.List.{List, [], ◌∷◌}
use Prim.Native.Nat.{ℕ, suc, ◌+◌, ◌/◌, ◌≤◌, ◌<◌}
use native.Mathlib.Nat.{add-zero}
use native.Mathlib.Numerals.{add-one}
use native.Mathlib.Omega.{arith}
use borrow.Author.Tests.{lt-ltb, le-ltb}
use lib.ListN.{length, get_or}
use Rattle.std.specs.Prelude.{Option, Some, None}
use Rattle.std.specs.Iterator.{Yields, SkipsThenYields}
use Rattle.format.specs.Forest.{Forest, breadth}
use Rattle.format.specs.Node.{Node}
use Rattle.format.specs.Encode.{Row}
use Rattle.format.specs.Layout.{row_at, siblings}
use Rattle.format.specs.Whole.{Whole, tree_at}
use Rattle.format.proofs.Trees.{breadth-beside}
use Rattle.format.proofs.Rows.{Opened, opens, nothing, siblings-none, siblings-opens}
use Rattle.format.proofs.Stored.{tree-whole, tree-opens}
use Rattle.syntax.proofs.Stored.{whole-join, siblings-join}
use Rattle.syntax.proofs.class.Laws.{place_or}
use Rattle.refusals.specs.Handed.{Use}
use Rattle.listing.specs.Offers.{site, indexed}
use Rattle.book.specs.declared.walks.Siblings.{Siblings}
use Rattle.book.specs.declared.read.Node as read
use Rattle.book.specs.Reading.{as_row}
use Rattle.book.specs.Walks.{Over, NextTree, Walks}
use Rattle.book.proofs.Walking as walks
use Rattle.analysis.proofs.BookNodes.{next-at}
use Rattle.analysis.specs.Entries.{uses_by, Puts, AtMost, hit, Tested, SkipsTo}
use Rattle.analysis.proofs.def_use.Entries.{puts-long, puts-places, puts-none, Leads, leads-start, leads-on, leads-end, one_use, uses-one, uses-none}

-- ---- One tree
module _ (near : List ℕ) (i next : ℕ) (e : Use) where
  abbrev pub of_tree : List Use
  of_tree = cond (hit near i next) (e ∷ []) []

  pub tree-out : next ≤ get_or near i 0 → (places k : ℕ) (old : List ℕ) → Puts places k of_tree old old k
  unfolding hit
  tree-out h places k old = rw (le-ltb (get_or near i 0) next h) (puts-none places k old)

  pub tree-in : get_or near i 0 < next → {places k at : ℕ} {old new : List ℕ} → Puts places k (e ∷ []) old new at → Puts places k of_tree old new at
  unfolding hit
  tree-in h p = rw (lt-ltb (get_or near i 0) next h) p

  tree-most : {places k at : ℕ} {old new : List ℕ} → Puts places k of_tree old new at → AtMost 1 k old new at
  tree-most p = record { few = omega (arith, p.counted, short (hit near i next)); long = puts-long p }
    where
      short : (b : Bool) → length (cond b (e ∷ []) []) ≤ 1
      short true = omega arith
      short false = omega arith

-- ---- The sites of trees, where there are none and where there is one
module _ (m r j : ℕ) where
  sites-none : (ns : List ℕ) (i until : ℕ) → until ≤ i → indexed m r j (siblings ns i until) ≡ []
  unfolding indexed
  sites-none ns i until h = ap (indexed m r j) (siblings-none ns i until h)

  sites-open : {ns : List ℕ} {i until : ℕ} → Opened ns i until →
      indexed m r j (siblings ns i until) ≡ site m r j (tree_at ns i) ∷ indexed m r (j + 1) (siblings ns (i + (row_at ns i).size) until)
  unfolding indexed
  sites-open {ns} {i} {until} o =
      ap (indexed m r j) (siblings-opens o)
      ∙ ap₂ (λ (t : Forest Node) (q : ℕ). site m r j t ∷ indexed m r q (siblings ns (i + (row_at ns i).size) until)) (sym (tree-opens o.here)) (sym (add-one j))

-- ---- The loop of `put_trees`, at node i
pub record TreesLeft (ns near : List ℕ) (m r from until k : ℕ) (old mid : List ℕ) (i index at : ℕ) : Type 0 where
  pub trees : Whole ns i until
  pub later : from + index ≤ i
  pub few : at + from ≤ k + i
  pub long : length mid ≡ length old
  pub left : (x : Tested ns near from until) →
      Leads (length old / 3) k old (uses_by x.used (indexed m r 0 (siblings ns from until))) at mid (uses_by x.used (indexed m r index (siblings ns i until)))

pub trees-start : {ns : List ℕ} {from until : ℕ} (near : List ℕ) (m r k : ℕ) (old : List ℕ) → Whole ns from until → TreesLeft ns near m r from until k old old from 0 k
trees-start {ns} {from} {until} near m r k old w =
    record {
      trees = w;
      later = omega arith;
      few = omega arith;
      long = refl;
      left = λ x. leads-start (length old / 3) k old (uses_by x.used (indexed m r 0 (siblings ns from until)));
    }

module _ {ns near : List ℕ} {m r from until k : ℕ} {old mid : List ℕ} {i index at : ℕ} (l : TreesLeft ns near m r from until k old mid i index at) where
  pub trees-end : until ≤ i → (x : Tested ns near from until) → Puts (length old / 3) k (uses_by x.used (indexed m r 0 (siblings ns from until))) old mid at
  trees-end h x = leads-end (l.left x) (ap (uses_by x.used) (sites-none m r index ns i until h) ∙ uses-none x.used)

  module _ (h : i < until) where
    here : Opened ns i until
    here = opens l.trees h

    module _ (q : Row) (is : q ≡ row_at ns i) where
      trees-next : (i < i + q.size) × (i + q.size ≤ until)
      trees-next = rw is (omega (arith, here.here.one), here.rest.ordered)

      trees-step : {mid' : List ℕ} {at' : ℕ} → Puts (length mid / 3) at (of_tree near i (i + q.size) (record { method = m; result = r; index = index })) mid mid' at' →
          TreesLeft ns near m r from until k old mid' (i + q.size) (index + 1) at'
      trees-step {mid'} {at'} p =
          let e : Use = record { method = m; result = r; index = index } in
          let most = tree-most near i (i + q.size) e p in
          let some = trees-next.0 in
          record {
            trees = rw is here.rest;
            later = omega (arith, l.later);
            few = omega (arith, l.few, most.few);
            long = most.long ∙ l.long;
            left = λ x.
                let used = x.used in
                let s = site m r index (tree_at ns i) in
                let rest = indexed m r (index + 1) (siblings ns (i + (row_at ns i).size) until) in
                let own : cond (hit near i (i + q.size)) (e ∷ []) [] ≡ one_use used s =
                ap (λ (z : Row). cond (hit near i (i + z.size)) (e ∷ []) []) is ∙ ap (λ (b : Bool). cond b (e ∷ []) []) (sym (x.hits.agrees i (omega (arith, l.later)) h)) in
                subst (λ (z : Row). Leads (length old / 3) k old (uses_by used (indexed m r 0 (siblings ns from until))) at' mid' (uses_by used (indexed m r (index + 1) (siblings ns (i + z.size) until)))) (sym is)
                (leads-on (l.left x) (one_use used s) (uses_by used rest) (ap (uses_by used) (sites-open m r index here) ∙ uses-one used s rest)
                (subst (λ (es : List Use). Puts (length old / 3) at es mid mid' at') own (puts-places _ _ l.long p)));
          }

-- the walk has given a tree, and its entry is put or it has none
module _ {ns near : List ℕ} {m r from until k : ℕ} {old mid : List ℕ} {s : Siblings} {index at : ℕ} (o : Over ns until s) (l : TreesLeft ns near m r from until k old mid s.at index at)
    {i : ℕ} {node : read.Node} {t : Siblings} (x : NextTree s i node t) {j j' : ℕ} (is : j ≡ index) (on : j' ≡ index + 1) where
  pub trees-on : {mid' : List ℕ} {at' : ℕ} → Puts (length mid / 3) at (of_tree near i (i + node.size) (record { method = m; result = r; index = j })) mid mid' at' →
      TreesLeft ns near m r from until k old mid' t.at j' at'
  trees-on {mid'} {at'} p =
      let there = subst (λ (n : ℕ). Puts (length mid / 3) at (of_tree near n (n + node.size) (record { method = m; result = r; index = j })) mid mid' at') x.place p in
      let here' = subst (λ (n : ℕ). Puts (length mid / 3) at (of_tree near s.at (s.at + node.size) (record { method = m; result = r; index = n })) mid mid' at') is there in
      subst (λ (n : ℕ). TreesLeft ns near m r from until k old mid' n j' at') (sym (next-at o x))
      (subst (λ (n : ℕ). TreesLeft ns near m r from until k old mid' (s.at + node.size) n at') (sym on) (trees-step l (walks.here o x) (as_row node) (walks.row o x) here'))

-- ---- A walk that has passed `seen` trees
record SkipLeft (ns : List ℕ) (from until i seen : ℕ) : Type 0 where
  before : Whole ns from i
  after : Whole ns i until
  counted : breadth (siblings ns from i) ≡ seen

skip-start : {ns : List ℕ} {from until : ℕ} → Whole ns from until → SkipLeft ns from until from 0
unfolding breadth
skip-start {ns} {from} {until} w =
    record {
      before = nothing ns from from refl (record { held = omega (arith, w.within.held, w.ordered); few = w.within.few });
      after = w;
      counted = rw (siblings-none ns from from (omega arith)) refl;
    }

skip-on : {ns : List ℕ} {from until i seen : ℕ} → SkipLeft ns from until i seen → i < until → SkipLeft ns from until (i + (row_at ns i).size) (seen + 1)
unfolding breadth
skip-on {ns} {from} {until} {i} l h =
    let o = opens l.after h in
    record {
      before = whole-join l.before (tree-whole o.here);
      after = o.rest;
      counted = rw (siblings-join l.before (tree-whole o.here), breadth-beside (siblings ns from i) (tree_at ns i), tree-opens o.here) (omega (arith, l.counted));
    }

-- what it gives passes over so many
passes : {ns : List ℕ} {from until seen : ℕ} {s t : Siblings} (xs : List (ℕ × read.Node)) → Yields Walks s xs t → Over ns until s → SkipLeft ns from until s.at seen →
    Over ns until t × SkipLeft ns from until t.at (seen + length xs)
passes {ns} {from} {until} {seen} {s} [] e o l =
    let P : Siblings → Type 0 = λ (q : Siblings). Over ns until q × SkipLeft ns from until q.at (seen + 0) in
    subst P e (o, subst (λ (n : ℕ). SkipLeft ns from until s.at n) (sym (add-zero seen)) l)
passes {ns} {from} {until} {seen} {s} {t} (y ∷ ys) (j, x, e) o l =
    let on = subst (λ (n : ℕ). SkipLeft ns from until n (seen + 1)) (sym (walks.at o x)) (skip-on l (walks.here o x)) in
    let q = passes {seen = seen + 1} ys e (walks.over-next o x) on in
    let n : seen + 1 + length ys ≡ seen + suc (length ys) = omega arith in
    (q.0, subst (SkipLeft ns from until t.at) n q.1)

module _ {ns : List ℕ} {from until : ℕ} (w : Whole ns from until) {s : Siblings} (o : Over ns until s) (start : s.at ≡ from) where
  begun : SkipLeft ns from until s.at 0
  begun = subst (λ (n : ℕ). SkipLeft ns from until n 0) (sym start) (skip-start w)

  -- the tree after so many
  skip-some : {count n : ℕ} {node : read.Node} {u : Siblings} → SkipsThenYields Walks s count (Some (n, node)) u → SkipsTo ns from until count n
  skip-some {count} {n} (xs, (t, e, x), long) =
      let q = passes xs e o begun in
      subst (SkipsTo ns from until count) (sym x.place)
      record { before = q.1.before; after = q.1.after; least = omega (arith, q.1.counted, long); enough = λ h. omega (arith, q.1.counted, long) }

  -- the end, where there are no more
  skip-none : {count : ℕ} {u : Siblings} → SkipsThenYields Walks s count None u → SkipsTo ns from until count until
  skip-none (xs, (t, e, x), long) =
      let q = passes xs e o begun in
      let l = subst (λ (n : ℕ). SkipLeft ns from until n (0 + length xs)) (walks.last q.0 x) q.1 in
      record { before = l.before; after = l.after; least = omega (arith, l.counted, long); enough = λ h. absurd (omega arith) }

  pub skips : {count : ℕ} (u : Siblings) (o : Option (ℕ × read.Node)) → SkipsThenYields Walks s count o u → SkipsTo ns from until count (place_or until o)
  skips u None x = skip-none {u = u} x
  skips u (Some y) x = skip-some {u = u} x
