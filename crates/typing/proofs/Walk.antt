-- The walk over trees that stand beside each other: what is left gives the verdict. Assumes nothing.
use mathlib.Core.Path.{◌≡◌, refl, sym, ap, ◌∙◌}
use mathlib.Core.Bool.{Bool, true, false, not, ◌||◌, ◌&&◌}
use mathlib.Core.List.{List}
use Prim.Native.Nat.{ℕ, suc, ◌+◌, ◌≤◌, ◌<◌}
use native.Mathlib.Omega.{arith}
use Rattle.std.specs.Prelude.{Option, None, Some, IfSome, Ok, Err}
use Rattle.std.specs.Option.{is_none}
use denote.Bor.{Bor}
use Rattle.format.specs.declared.Place.TheVariants.{Method}
use Rattle.format.specs.Forest.{breadth}
use Rattle.format.specs.Node.{label_value}
use Rattle.format.specs.Book.{Definition}
use Rattle.format.specs.Layout.{row_at, siblings, node_of}
use Rattle.format.specs.Encode.{Row}
use Rattle.format.proofs.Rows.{Opened, opens, node-within, siblings-none, siblings-opens}
use Rattle.format.specs.Whole.{WholeAt, tree_at}
use Rattle.format.proofs.Stored.{tree-whole, tree-opens}
use Rattle.refusals.specs.declared.Refusal.{Refusal}
use Rattle.refusals.specs.declared.Refusal.TheVariants.{MethodNoFunction}
use Rattle.refusals.specs.Verdict.{Verdict, passes, and_then, unless}
use Rattle.refusals.specs.Handed.{Answer}
use Rattle.refusals.proofs.Verdicts.{and-passed}
use Rattle.judgement.specs.Check.{method_verdict, check_forest}
use Rattle.book.specs.declared.read.Node.{Node}
use Rattle.book.specs.declared.walks.Siblings.{Siblings}
use Rattle.book.specs.Tables.{zero_table}
use Rattle.book.specs.Walks.{Over, NextTree, Walks}
use Rattle.book.proofs.Walking.{last, here, row, at, over-next}
use Rattle.environment.specs.Tables.{EndNodes, end_is}
use Rattle.environment.specs.Trees.{Trees}
use Rattle.environment.proofs.Trees.{rest-trees, method-label, no-ends}
use Rattle.typing.specs.declared.types.Walk.{Walk}
use Rattle.typing.specs.Walk.{type_verdict}
use Rattle.typing.specs.Types.{ends_of, WalkEnv, Under, TreesIn, so_many}

-- ---- so many, or a refusal
pub many-stops : (v : Verdict) (n : ℕ) {e : Refusal} → so_many v n ≡ Err e → v ≡ Err e
many-stops (Ok tt) n q = cc
many-stops (Err r) n q = cc

pub many-pass : (v : Verdict) (n : ℕ) {k : ℕ} → so_many v n ≡ Ok k → (v ≡ passes) × (n ≡ k)
many-pass (Ok tt) n q = (refl, cc)
many-pass (Err r) n q = cc

-- ---- the verdict of trees, where there are none and where there is one
module _ (pre tested : Bool) (ds : List Definition) where
  pub check-none : (ns : List ℕ) (i until : ℕ) → until ≤ i → check_forest pre tested ds (siblings ns i until) ≡ passes
  unfolding check_forest
  check-none ns i until h = rw (siblings-none ns i until h)

  pub check-opens : {ns : List ℕ} {i until : ℕ} → Opened ns i until →
      check_forest pre tested ds (siblings ns i until)
      ≡ and_then (and_then (type_verdict pre ds ns i) (method_verdict tested ds (node_of (row_at ns i)) (siblings ns (i + 1) (i + (row_at ns i).size))))
      (check_forest pre tested ds (siblings ns (i + (row_at ns i).size) until))
  unfolding check_forest type_verdict
  check-opens o = ap (check_forest pre tested ds) (siblings-opens o)

-- the verdict of one tree is that of its root
pub tree-verdict : (pre : Bool) (ds : List Definition) {ns : List ℕ} {n : ℕ} → WholeAt ns n → type_verdict pre ds ns n ≡ check_forest pre false ds (tree_at ns n)
unfolding method_verdict
tree-verdict pre ds {ns} {n} w =
    sym
    (check-opens pre false ds (opens (tree-whole w) (omega (arith, w.one)))
    ∙ rw (check-none pre false ds ns (n + (row_at ns n).size) (n + (row_at ns n).size) (omega arith))
    (and-passed (and_then (type_verdict pre ds ns n) passes) ∙ and-passed (type_verdict pre ds ns n)))

breadth-none : (ns : List ℕ) (i until : ℕ) → until ≤ i → breadth (siblings ns i until) ≡ 0
unfolding breadth
breadth-none ns i until h = ap breadth (siblings-none ns i until h)

breadth-opens : {ns : List ℕ} {i until : ℕ} → Opened ns i until → breadth (siblings ns i until) ≡ suc (breadth (siblings ns (i + (row_at ns i).size) until))
unfolding breadth
breadth-opens o = ap breadth (siblings-opens o)

-- ---- trees beside each other, as the crate environment has them
pub table-ended : (count : ℕ) (o : Option (Bor (List ℕ))) → IfSome o (λ e. EndNodes e.now count) → EndNodes (ends_of o) count
table-ended count None h = no-ends count zero_table refl
table-ended count (Some e) h = h

abbrev methods-of : {w : Walk} {methods : Bool} {i until : ℕ} → TreesIn w methods i until → methods ≡ true → Trees w.env.scope.rows.now w.env.scope.roots.now (ends_of w.ends) i until
methods-of {w} t m =
    record {
      count = w.env.scope.nodes;
      place = Method;
      walk = record { names = w.env.scope.names; nodes = w.env.trees.nodes; bound = w.env.scope.bound; ended = table-ended w.env.scope.nodes w.ends w.ended };
      whole = t.whole;
      inside = t.inside;
      fits = t.methods_are m;
    }

module _ {w : Walk} {methods : Bool} {i until : ℕ} (t : TreesIn w methods i until) (h : i < until) where
  pub first : Opened w.env.scope.rows.now i until
  first = opens t.whole h

  pub rest-in : TreesIn w methods (i + (row_at w.env.scope.rows.now i).size) until
  unfolding rest-trees
  rest-in = record { whole = first.rest; inside = t.inside; methods_are = λ m. (rest-trees (methods-of t m) h).fits }

  -- a method is tested where there is a table of alias ends
  module _ {fits : Bool} (is : fits ≡ (is_none w.ends || end_is 23 w.env.scope.rows.now (ends_of w.ends) i)) (ds : List Definition) (e : WalkEnv w ds) where
    abbrev method : Verdict
    method = method_verdict (not (is_none w.ends) && methods) ds (node_of (row_at w.env.scope.rows.now i)) (siblings w.env.scope.rows.now (i + 1) (i + (row_at w.env.scope.rows.now i).size))

    method-is : (pre : Bool) → is_none w.ends ≡ pre → (tested : Bool) → methods ≡ tested →
        method_verdict (not pre && tested) ds (node_of (row_at w.env.scope.rows.now i)) (siblings w.env.scope.rows.now (i + 1) (i + (row_at w.env.scope.rows.now i).size))
        ≡ unless (not tested || fits) (MethodNoFunction (label_value (node_of (row_at w.env.scope.rows.now i)).label))
    unfolding method_verdict
    method-is true p false m = refl
    method-is true p true m = rw (is, p) refl
    method-is false p false m = refl
    method-is false p true m =
        rw (is, p, e.func p i (node-within first.here), tree-opens first.here) refl

    pub method-stops : methods ≡ true → fits ≡ false → Err (MethodNoFunction (label_value (node_of (row_at w.env.scope.rows.now i)).label)) ≡ method
    method-stops m f = sym (method-is (is_none w.ends) refl methods refl ∙ rw (m, f) refl)

    pub method-goes : (not methods || fits) ≡ true → method ≡ passes
    method-goes f = method-is (is_none w.ends) refl methods refl ∙ rw f refl

-- ---- a walk that goes over the trees from node `from` up to node `until`
pub record WalkLeft (w : Walk) (methods : Bool) (from until kids : ℕ) (s : Siblings) : Type 0 where
  pub over : Over w.env.scope.rows.now until s
  pub trees : TreesIn w methods s.at until
  pub later : from ≤ s.at
  pub few : kids ≤ s.at
  pub counted : kids + breadth (siblings w.env.scope.rows.now s.at until) ≡ breadth (siblings w.env.scope.rows.now from until)
  pub same : Under w (λ pre ds. check_forest pre (not pre && methods) ds (siblings w.env.scope.rows.now s.at until) ≡ check_forest pre (not pre && methods) ds (siblings w.env.scope.rows.now from until))

-- what it says of all of them
abbrev pub Said : Walk → Bool → ℕ → ℕ → Answer → Type 0
Said w methods from until r =
    Under w (λ pre ds. r ≡ so_many (check_forest pre (not pre && methods) ds (siblings w.env.scope.rows.now from until)) (breadth (siblings w.env.scope.rows.now from until)))

module _ {w : Walk} {methods : Bool} {from until kids : ℕ} {s : Siblings} (l : WalkLeft w methods from until kids s) where
  pub walk-end : {t : Siblings} → Walks s None t → Said w methods from until (Ok kids)
  walk-end x ds e =
      let h : until ≤ s.at = omega (arith, last l.over x) in
      let n : kids ≡ breadth (siblings w.env.scope.rows.now from until) = omega (arith, breadth-none w.env.scope.rows.now s.at until h, l.counted) in
      rw (← l.same ds e, check-none (is_none w.ends) (not (is_none w.ends) && methods) ds w.env.scope.rows.now s.at until h, n) refl

  module _ {n : ℕ} {node : Node} {t : Siblings} (x : NextTree s n node t) where
    h : s.at < until
    h = here l.over x

    pub next-label : methods ≡ true → (node.label < 1024) × (node.label ≡ label_value (node_of (row_at w.env.scope.rows.now s.at)).label)
    next-label m =
        let q = method-label (methods-of l.trees m) h refl in
        let e = ap (λ (r : Row). r.label) (row l.over x) in
        (omega (arith, e, q.0), e ∙ sym q.1)

    abbrev after : Verdict → Verdict → Bool → List Definition → Verdict
    after v m pre ds = and_then (and_then v m) (check_forest pre (not pre && methods) ds (siblings w.env.scope.rows.now (s.at + (row_at w.env.scope.rows.now s.at).size) until))

    opens-so : (v m : Verdict) (ds : List Definition) (e : WalkEnv w ds) → v ≡ type_verdict (is_none w.ends) ds w.env.scope.rows.now n →
        m ≡ method_verdict (not (is_none w.ends) && methods) ds (node_of (row_at w.env.scope.rows.now s.at)) (siblings w.env.scope.rows.now (s.at + 1) (s.at + (row_at w.env.scope.rows.now s.at).size)) →
        after v m (is_none w.ends) ds ≡ check_forest (is_none w.ends) (not (is_none w.ends) && methods) ds (siblings w.env.scope.rows.now from until)
    opens-so v m ds e p q =
        rw (p, x.place, q) refl ∙ sym (check-opens (is_none w.ends) (not (is_none w.ends) && methods) ds (first l.trees h)) ∙ l.same ds e

    pub walk-stop : (r : Refusal) → Under w (λ pre ds. Err r ≡ type_verdict pre ds w.env.scope.rows.now n) → Said w methods from until (Err r)
    walk-stop r is ds e = rw (← opens-so (Err r) _ ds e (is ds e) refl) refl

    module _ (is : Under w (λ pre ds. passes ≡ type_verdict pre ds w.env.scope.rows.now n)) {fits : Bool} (f : fits ≡ (is_none w.ends || end_is 23 w.env.scope.rows.now (ends_of w.ends) n)) where
      f' : fits ≡ (is_none w.ends || end_is 23 w.env.scope.rows.now (ends_of w.ends) s.at)
      f' = f ∙ ap (λ (k : ℕ). is_none w.ends || end_is 23 w.env.scope.rows.now (ends_of w.ends) k) x.place

      pub walk-method : methods ≡ true → fits ≡ false → Said w methods from until (Err (MethodNoFunction node.label))
      walk-method m z ds e =
          rw (← opens-so passes _ ds e (is ds e) (method-stops l.trees h f' ds e m z), (next-label m).1) refl

      pub walk-on : (not methods || fits) ≡ true → WalkLeft w methods from until (kids + 1) t
      walk-on z =
          record {
            over = over-next l.over x;
            trees = rw (at l.over x) (rest-in l.trees h);
            later = omega (arith, at l.over x, l.later);
            few = omega (arith, at l.over x, l.few, (first l.trees h).here.one);
            counted = rw (at l.over x) (omega (arith, breadth-opens (first l.trees h), l.counted));
            same = λ ds e. rw (at l.over x) (opens-so passes passes ds e (is ds e) (sym (method-goes l.trees h f' ds e z)));
          }
