-- The walk over trees that stand beside each other: what is left is good just where all of it is. Assumes nothing.
use mathlib.Core.Path.{◌≡◌, sym, ap, subst, ◌∙◌}
use mathlib.Core.Bool.{true, false}
use mathlib.Core.List.{List}
use Prim.Native.Nat.{ℕ, suc, ◌+◌, ◌-◌, ◌≤◌, ◌<◌}
use native.Mathlib.Omega.{arith}
use lib.Dec.{T}
use Rattle.format.specs.declared.Place.{Place}
use Rattle.format.specs.Forest.{Forest, end, breadth}
use Rattle.format.specs.Encode.{Row}
use Rattle.format.specs.Layout.{row_at, row_trees}
use Rattle.format.specs.Rules.{Sized, good_row, good_forest, below_kind}
use Rattle.format.specs.Whole.{Within, Whole}
use Rattle.format.proofs.Logic.{of-true, and-says}
use Rattle.format.proofs.Rows.{Opened, opens, closes, none}
use Rattle.std.specs.Prelude.{Some}
use Rattle.book.specs.Steps.{Good, TreesAs}

module _ (names : ℕ) (p : Place) (ns : List ℕ) (i e : ℕ) where
  -- where a tree is left: its children, its node and what is after it
  record Parts : Type 0 where
    one : 1 ≤ (row_at ns i).size
    inside : i + (row_at ns i).size ≤ e
    kids : Good names (below_kind (row_at ns i).kind) ns (i + 1) (i + (row_at ns i).size)
    row : T (good_row names p (row_at ns i) (breadth (row_trees ns (i + 1) (i + (row_at ns i).size))))
    rest : Good names p ns (i + (row_at ns i).size) e
    more : breadth (row_trees ns i e) ≡ suc (breadth (row_trees ns (i + (row_at ns i).size) e))

  parts : Within ns e → i < e → Good names p ns i e → Parts
  unfolding good_forest breadth
  parts w h g =
      let o : Opened ns i e = opens (record { ordered = omega arith; within = w; sized = g.sized }) h in
      let f = subst (λ (q : Forest Row). T (good_forest names p q)) o.opened g.fine in
      let a = simp and-says at f in
      record {
        one = o.here.one;
        inside = o.rest.ordered;
        kids = record { sized = o.here.sized; fine = a.0.1 };
        row = a.0.0;
        rest = record { sized = o.rest.sized; fine = a.1 };
        more = ap breadth o.opened;
      }

  whole-again : Within ns e → 1 ≤ (row_at ns i).size → i + (row_at ns i).size ≤ e →
      Good names (below_kind (row_at ns i).kind) ns (i + 1) (i + (row_at ns i).size) → Good names p ns (i + (row_at ns i).size) e → Whole ns i e
  whole-again w one inside kids rest =
      closes one (record { ordered = omega arith; within = record { held = omega (arith, w.held); few = w.few }; sized = kids.sized })
      (record { ordered = inside; within = w; sized = rest.sized })

  joined : Within ns e → 1 ≤ (row_at ns i).size → i + (row_at ns i).size ≤ e →
      Good names (below_kind (row_at ns i).kind) ns (i + 1) (i + (row_at ns i).size) →
      T (good_row names p (row_at ns i) (breadth (row_trees ns (i + 1) (i + (row_at ns i).size)))) → Good names p ns (i + (row_at ns i).size) e → Good names p ns i e
  unfolding good_forest
  joined w one inside kids row rest =
      let v : Whole ns i e = whole-again w one inside kids rest in
      record {
        sized = v.sized;
        fine = subst (λ (q : Forest Row). T (good_forest names p q)) (sym (opens v (omega arith)).opened) (simp and-says ((row, kids.fine), rest.fine));
      }

pub record TreesLeft (names : ℕ) (p : Place) (ns : List ℕ) (from e i n : ℕ) : Type 0 where
  pub later : from ≤ i
  pub passed : i ≤ e
  pub within : Within ns e
  pub few : n ≤ i
  pub up : Good names p ns i e → Good names p ns from e
  pub down : Good names p ns from e → Good names p ns i e
  pub counted : Good names p ns from e → n + breadth (row_trees ns i e) ≡ breadth (row_trees ns from e)

module _ {names : ℕ} {p : Place} {ns : List ℕ} {from e i n : ℕ} (l : TreesLeft names p ns from e i n) where
  pub trees-end : e ≤ i → TreesAs names p ns from e (Some n)
  unfolding good_forest breadth
  trees-end h =
      let z : row_trees ns i e ≡ end = none ns i e h in
      let g : Good names p ns from e = l.up (record { sized = subst Sized (sym z) tt; fine = rw z tt }) in
      (g, omega (arith, l.counted g, ap breadth z))

  module _ (h : i < e) (r : Row) (is : r ≡ row_at ns i) where
    size-is : r.size ≡ (row_at ns i).size
    size-is = ap (λ (q : Row). q.size) is

    of : Good names p ns from e → Parts names p ns i e
    of g = parts names p ns i e l.within h (l.down g)

    pub trees-none : r.size ≡ 0 → Good names p ns from e → ⊥
    trees-none z g = let x : ⊥ = omega (arith, (of g).one, size-is) in x

    pub trees-long : e - i < r.size → Good names p ns from e → ⊥
    trees-long z g = let x : ⊥ = omega (arith, (of g).inside, size-is) in x

    pub trees-kids : (Good names (below_kind r.kind) ns (i + 1) (i + r.size) → ⊥) → Good names p ns from e → ⊥
    trees-kids no' g = no' (rw is (of g).kids)

    module _ (one : r.size ≡ 0 → ⊥) (fits : r.size ≤ e - i) where
      module _ (kids : ℕ) (k : TreesAs names (below_kind r.kind) ns (i + 1) (i + r.size) (Some kids)) where
        kids-are : kids ≡ breadth (row_trees ns (i + 1) (i + (row_at ns i).size))
        kids-are = k.1 ∙ ap (λ (m : ℕ). breadth (row_trees ns (i + 1) (i + m))) size-is

        pub trees-row : good_row names p r kids ≡ false → Good names p ns from e → ⊥
        trees-row f g = subst T (sym (ap (good_row names p (row_at ns i)) kids-are) ∙ ap (λ (q : Row). good_row names p q kids) (sym is) ∙ f) (of g).row

        pub trees-on : good_row names p r kids ≡ true → TreesLeft names p ns from e (i + r.size) (n + 1)
        trees-on t =
            let row : T (good_row names p (row_at ns i) (breadth (row_trees ns (i + 1) (i + (row_at ns i).size)))) =
            of-true _ (sym (ap (good_row names p (row_at ns i)) kids-are) ∙ ap (λ (q : Row). good_row names p q kids) (sym is) ∙ t) in
            let below : Good names (below_kind (row_at ns i).kind) ns (i + 1) (i + (row_at ns i).size) =
            subst (λ (q : Row). Good names (below_kind q.kind) ns (i + 1) (i + q.size)) is k.0 in
            record {
              later = omega (arith, l.later);
              passed = omega arith;
              within = l.within;
              few = omega (arith, l.few);
              up = λ g. l.up (joined names p ns i e l.within (omega (arith, size-is)) (omega (arith, size-is)) below row (rw (← size-is) g));
              down = λ g. rw size-is (of g).rest;
              counted = λ g. omega (arith, l.counted g, (of g).more, ap (λ (m : ℕ). breadth (row_trees ns (i + m) e)) size-is);
            }
