-- What stands below a class's top. Assumes nothing.
--     LastLeft                                     the loop of `last_child`
--     kids-some, ends-before                       what `top_of` asks
--     top-other, top-class                         what it finds
--     top-none, top-some                           what a caller learns of the root
use mathlib.Core.Path.{◌≡◌, refl, sym, ap, subst, ◌∙◌}
use mathlib.Core.Bool.{true, false}
use mathlib.Core.List.{List, [], ◌∷◌}
use Prim.Native.Nat.{ℕ, ◌+◌, ◌≤◌, ◌<◌}
use native.Mathlib.Omega.{arith}
use borrow.Author.Tests.{eq-eqb, ne_eqb}
use Rattle.std.specs.Prelude.{Option, Some, None, MatchOption}
use Rattle.std.proofs.lemmas.Option.{none-some}
use Rattle.std.specs.List.{last_or}
use Rattle.std.specs.Iterator.{Yields, Drains}
use Rattle.format.specs.Forest.{Forest, end, tree, beside, breadth}
use Rattle.format.specs.Node.{Node}
use Rattle.format.specs.Encode.{Row}
use Rattle.format.specs.Layout.{row_at, node_of, siblings}
use Rattle.format.specs.Whole.{Whole, WholeAt, tree_at}
use Rattle.format.proofs.Rows.{opens, nothing, siblings-none}
use Rattle.format.proofs.Stored.{tree-whole, tree-opens}
use Rattle.book.specs.declared.read.Node as stored
use Rattle.book.specs.declared.walks.Siblings.{Siblings}
use Rattle.book.specs.Walks.{Over, Walks}
use Rattle.book.proofs.Walking.{last, at, over-next, here as here-left}
use Rattle.judgement.specs.Environment.{head_kind, kids_of}
use Rattle.judgement.specs.Actor.{is_class, last_tree, all_but_last, class_arguments, below_class}
use Rattle.judgement.proofs.Classes.{last-beside, others-beside}
use Rattle.environment.specs.Trees.{AllTrees, Top}
use Rattle.environment.proofs.Trees.{top}
use Rattle.syntax.proofs.Stored.{tree-class, tree-kids, whole-join, siblings-join}
use Rattle.syntax.specs.declared.class.Top as found
use Rattle.syntax.specs.Classes.{LastAs, BelowAs, ArgumentsAs, TopAs, TopFound}

-- ---- the loop of `last_child`: the trees before node `at`, and the last of them
pub record LastLeft (ns : List ℕ) (from until found at : ℕ) : Type 0 where
  pub before : Whole ns from at
  pub rest : Whole ns at until
  pub last : from < at → LastAs ns from at found

pub last-start : {ns : List ℕ} {from until : ℕ} → Whole ns from until → from < until → LastLeft ns from until from from
last-start {ns} {from} {until} w h =
    record {
      before = nothing ns from from refl (record { held = omega (arith, w.within.held, h); few = w.within.few });
      rest = w;
      last = λ l. absurd (omega arith);
    }

module _ {ns : List ℕ} {from until last at : ℕ} (l : LastLeft ns from until last at) (h : at < until) where
  here : WholeAt ns at
  here = (opens l.rest h).here

  abbrev after : ℕ
  after = at + (row_at ns at).size

  one-more : LastAs ns from after at
  unfolding breadth
  one-more =
      let all : siblings ns from after ≡ beside (siblings ns from at) (tree (node_of (row_at ns at)) (siblings ns (at + 1) after) end) =
      siblings-join l.before (tree-whole here) ∙ ap (beside (siblings ns from at)) (tree-opens here) in
      record {
        later = l.before.ordered;
        inside = omega (arith, here.one);
        ends = refl;
        before = l.before;
        rest = sym (ap all_but_last all ∙ others-beside (siblings ns from at) (tree (node_of (row_at ns at)) (siblings ns (at + 1) after) end) refl);
        is = tree-opens here ∙ sym (ap last_tree all ∙ last-beside (siblings ns from at) (tree (node_of (row_at ns at)) (siblings ns (at + 1) after) end) refl);
      }

  pub last-on : LastLeft ns from until at after
  last-on = record { before = whole-join l.before (tree-whole here); rest = (opens l.rest h).rest; last = λ k. one-more }

-- the place of what a walk gave last, or `d`
abbrev pub place_or : ℕ → Option (ℕ × stored.Node) → ℕ
place_or d None = d
place_or d (Some x) = x.0

module _ {ns : List ℕ} {from until : ℕ} where
  last-yielded : (d : ℕ) {s t : Siblings} (o : Option (ℕ × stored.Node)) (xs : List (ℕ × stored.Node)) → Yields Walks s xs t → Over ns until s →
      LastLeft ns from until (place_or d o) s.at → (Over ns until t) × LastLeft ns from until (place_or d (last_or o xs)) t.at
  last-yielded d o [] y v l = subst (λ (u : Siblings). Over ns until u × LastLeft ns from until (place_or d o) u.at) y (v, l)
  last-yielded d o (x ∷ xs) (j, n, y) v l = last-yielded d (Some x) xs y (over-next v n) (rw (n.place, at v n) (last-on l (here-left v n)))

  pub last-drained : (d : ℕ) {s : Siblings} (xs : List (ℕ × stored.Node)) → Drains Walks s xs → Over ns until s → LastLeft ns from until d s.at → from < until →
      LastAs ns from until (place_or d (last_or None xs))
  last-drained d xs (u, (t, y, x)) v l h =
      let w = last-yielded d None xs y v l in
      let e : t.at ≡ until = last w.0 x in
      rw e at (w.1.last (omega (arith, e)))

-- ---- what stands below a class's top
module _ {ns : List ℕ} {n : ℕ} (t : Top ns n) (r : Row) (is : r ≡ row_at ns n) where
  below-self : (r.kind ≡ 25 → ⊥) → BelowAs ns n n
  unfolding below_class
  below-self h =
      record {
        later = omega arith;
        ends = refl;
        inside = omega (arith, t.whole.one);
        is = rw (tree-class t.whole, ne_eqb (row_at ns n).kind 25 (λ e. h (ap (λ (q : Row). q.kind) is ∙ e)));
      }

  module _ (k : r.kind ≡ 25) where
    pub kids-some : n + 1 < n + r.size
    kids-some = omega (arith, t.class (ap (λ (q : Row). q.kind) (sym is) ∙ k), ap (λ (q : Row). q.size) is)

    class-here : is_class (tree_at ns n) ≡ true
    class-here = tree-class t.whole ∙ eq-eqb (row_at ns n).kind 25 (ap (λ (q : Row). q.kind) (sym is) ∙ k)

    module _ {last : ℕ} (l : LastAs ns (n + 1) (n + r.size) last) where
      kids-here : siblings ns (n + 1) (n + r.size) ≡ kids_of (tree_at ns n)
      kids-here = ap (λ (q : Row). siblings ns (n + 1) (n + q.size)) is ∙ sym (tree-kids t.whole)

      below-last : BelowAs ns n last
      unfolding below_class
      below-last =
          record {
            later = omega (arith, l.later);
            ends = l.ends ∙ ap (λ (q : Row). n + q.size) is;
            inside = omega (arith, l.inside, ap (λ (q : Row). q.size) is);
            is = l.is ∙ ap last_tree kids-here ∙ rw class-here;
          }

      arguments-are : siblings ns (n + 1) last ≡ class_arguments (tree_at ns n)
      unfolding class_arguments
      arguments-are = l.rest ∙ ap all_but_last kids-here ∙ rw class-here

-- ---- the arguments of a class
no-arguments : {ns : List ℕ} {names count : ℕ} → AllTrees ns names count → {t : Forest Node} → is_class t ≡ false → ArgumentsAs ns count t 0 0
unfolding class_arguments
no-arguments {ns} a c = record { whole = nothing ns 0 0 refl (record { held = omega arith; few = a.nodes.within.few }); inside = omega arith; are = siblings-none ns 0 0 (omega arith) ∙ rw c }

module _ {ns : List ℕ} {names count : ℕ} (a : AllTrees ns names count) {n : ℕ} (h : n < count) where
  module _ (r : Row) (is : r ≡ row_at ns n) where
    pub ends-before : n + r.size ≤ count
    ends-before = rw is (a.nodes.tree n h).ends

    other-arguments : (r.kind ≡ 25 → ⊥) → ArgumentsAs ns count (tree_at ns n) 0 0
    other-arguments k = no-arguments a (tree-class (top a h).whole ∙ ne_eqb (row_at ns n).kind 25 (λ e. k (ap (λ (q : Row). q.kind) is ∙ e)))

    class-arguments : r.kind ≡ 25 → {last : ℕ} → LastAs ns (n + 1) (n + r.size) last → ArgumentsAs ns count (tree_at ns n) (n + 1) last
    class-arguments k l = record { whole = l.before; inside = omega (arith, l.inside, ends-before); are = arguments-are (top a h) r is k l }

-- those of no tree
pub none-arguments : {ns : List ℕ} {names count : ℕ} → AllTrees ns names count → ArgumentsAs ns count end 0 0
unfolding is_class head_kind
none-arguments a = no-arguments a refl

-- ---- what `top_of` finds
module _ {ns : List ℕ} {names count : ℕ} (a : AllTrees ns names count) {root : ℕ} (h : root < count) (r : Row) (is : r ≡ row_at ns root) where
  pub top-other : (r.kind ≡ 25 → ⊥) → TopAs ns count root (record { from = 0; until = 0; below = root })
  top-other k = record { arguments = other-arguments a h r is k; below = below-self (top a h) r is k }

  pub top-class : r.kind ≡ 25 → {last : ℕ} → LastAs ns (root + 1) (root + r.size) last → TopAs ns count root (record { from = root + 1; until = last; below = last })
  top-class k l = record { arguments = class-arguments a h r is k l; below = below-last (top a h) r is k l }

pub top-none : (root : Option ℕ) → MatchOption root (◌≡◌ {A = Option found.Top} None None) (λ n. ⊥) → root ≡ None
top-none None t = refl
top-none (Some n) t = absurd t

pub top-some : {ns : List ℕ} {count : ℕ} (root : Option ℕ) (r : found.Top) → TopFound ns count root (Some r) → (n : ℕ) × (root ≡ Some n) × TopAs ns count n r
top-some None r t = absurd (none-some r (sym t))
top-some (Some n) r t = (n, refl, t)
