-- A walk over names: what each step does to the state, and to the walk that holds it. Assumes nothing.
--     chase-rows, leafy-rows      the walk over trees is one over the names of their rows
--     rows-name, rows-skip        the next name, and rows that change nothing
--     goes-enter, goes-list       a name is marked, and listed
--     goes-short                  there is room for all
use mathlib.Core.Path.{◌≡◌, refl, sym, ap, subst, ◌∙◌}
use mathlib.Core.Logic.{⊎_elim}
use mathlib.Core.Bool.{true, false}
use mathlib.Core.List.Memᴰ
use mathlib.Core.List.{List, [], ◌∷◌, ◌++◌, map}
use Prim.Native.Nat.{ℕ, zero, suc, ◌+◌, ◌-◌, ◌≤◌, ◌<◌}
use native.Mathlib.Decide.{dec_lt, ℕ_discrete}
use native.Mathlib.Omega.{arith}
use lib.Dec.{T}
use lib.ListN.{length, set, length-map, length-set}
use Rattle.std.proofs.Common.{length-append}
use Rattle.format.specs.Forest.{Forest}
use Rattle.format.specs.Node.{Node}
use Rattle.format.specs.Book.{Definition}
use Rattle.format.specs.Layout.{row_at, siblings}
use Rattle.format.specs.Whole.{Whole}
use Rattle.format.proofs.References.{references-siblings}
use Rattle.format.proofs.Rows.{opens, siblings-opens, siblings-none}
use Rattle.format.proofs.Stored.{tree-opens}
use Rattle.judgement.specs.Environment.{missing, body, find_type}
use Rattle.judgement.specs.Check.{member}
use Rattle.format.specs.Distinct.{more}
use Rattle.judgement.specs.WellFormed.{defined_name, Defined}
use Rattle.format.proofs.Distinct.{pigeonhole}
use Rattle.judgement.proofs.Lookup.{member-says}
use Rattle.environment.specs.Tables.{Nodes}
use Rattle.listing.specs.Chase.{Walk as State, going, unbound, push, chase, meet_name, visit}
use Rattle.listing.proofs.Leaves.{each, Leafy, chase-each}
use Rattle.analysis.specs.declared.chase.Walk.{Walk}
use Rattle.analysis.specs.Flags.{Agrees}
use Rattle.analysis.proofs.BookNodes.{Rooted, Readable}
use Rattle.analysis.specs.Walking.{Goes, is_new}
use Rattle.analysis.proofs.BookNodes.{here-leafy, row_names, names-none, names-name, names-other}
use Rattle.analysis.proofs.recursive.Rows.{agrees-set}
use Rattle.analysis.proofs.chase.NewNames.{old-set}

-- ---- A walk over the trees of a book is one over the names of their rows
module _ {ns roots : List ℕ} (b : Rooted ns roots) where
  leafy-from : (k i until : ℕ) → until ≤ i + k → until ≤ b.count → Whole ns i until → Leafy (siblings ns i until)
  leafy-from zero i until h m w = subst Leafy (sym (siblings-none ns i until (omega arith))) tt
  leafy-from (suc k) i until h m w = go (dec_lt i until) (leafy-from k)
    where
      go : Dec (i < until) → ((i until : ℕ) → until ≤ i + k → until ≤ b.count → Whole ns i until → Leafy (siblings ns i until)) → Leafy (siblings ns i until)
      go (no x) below = subst Leafy (sym (siblings-none ns i until (omega arith))) tt
      go (yes x) below =
          let o = opens w x in
          let here = subst Leafy (tree-opens o.here) (here-leafy b (omega arith)) in
          subst Leafy (sym (siblings-opens o)) (here.0, here.1, below (i + (row_at ns i).size) until (omega (arith, o.here.one)) m o.rest)

pub leafy-rows : {ns roots : List ℕ} {from until : ℕ} → Readable ns roots from until → Leafy (siblings ns from until)
leafy-rows {from = from} {until = until} r = leafy-from r.rooted until from until (omega arith) r.inside r.whole

pub chase-rows : {ns roots : List ℕ} {from until : ℕ} → Readable ns roots from until → (f : ℕ → State → State) (s : State) →
    chase f (siblings ns from until) s ≡ each f (row_names ns from until) s
chase-rows {ns} {from = from} {until = until} r f s =
    chase-each f (siblings ns from until) (leafy-rows r) s ∙ ap (λ (l : List ℕ). each f l s) (references-siblings ns from until)

-- ---- One name
module _ (ds : List Definition) where
  pub visit-stopped : (d n m : ℕ) → visit d ds n (unbound m) ≡ unbound m
  unfolding visit
  visit-stopped zero n m = refl
  visit-stopped (suc k) n m = refl

  pub each-stopped : (d : ℕ) (l : List ℕ) (m : ℕ) → each (visit d ds) l (unbound m) ≡ unbound m
  each-stopped d [] m = refl
  each-stopped d (n ∷ l) m = ap (each (visit d ds) l) (visit-stopped d n m) ∙ each-stopped d l m

  module _ (k n : ℕ) (seen out : List ℕ) where
    visit-seen : member n seen ≡ true → visit (suc k) ds n (going seen out) ≡ going seen out
    unfolding visit meet_name
    visit-seen h = rw h

    pub visit-missing : member n seen ≡ false → find_type ds n ≡ missing → visit (suc k) ds n (going seen out) ≡ unbound n
    unfolding visit meet_name
    visit-missing h f = rw (h, f)

    pub visit-body : member n seen ≡ false → {t : Forest Node} → find_type ds n ≡ body t →
        visit (suc k) ds n (going seen out) ≡ push n (chase (visit k ds) t (going (n ∷ seen) out))
    unfolding visit meet_name
    visit-body h f = rw (h, f)

-- ---- Rows: the next name, and those that change nothing
module _ (ns : List ℕ) (ds : List Definition) (d : ℕ) (s : State) where
  pub rows-none : (i e : ℕ) → e ≤ i → each (visit d ds) (row_names ns i e) s ≡ s
  rows-none i e h = ap (λ (l : List ℕ). each (visit d ds) l s) (names-none ns i e h)

  pub rows-name : (i e : ℕ) → i < e → (row_at ns i).kind ≡ 18 →
      each (visit d ds) (row_names ns i e) s ≡ each (visit d ds) (row_names ns (i + 1) e) (visit d ds (row_at ns i).value s)
  rows-name i e h k = ap (λ (l : List ℕ). each (visit d ds) l s) (names-name ns i e h k)

module _ {ns : List ℕ} {names count : ℕ} (nodes : Nodes ns names count) (marks : List ℕ) (ds : List Definition) (k : ℕ) (seen out : List ℕ) (a : Agrees marks seen) (e : ℕ) (inside : e ≤ count) where
  row-stays : (i : ℕ) → i < e → is_new ns marks i ≡ false →
      each (visit (suc k) ds) (row_names ns i e) (going seen out) ≡ each (visit (suc k) ds) (row_names ns (i + 1) e) (going seen out)
  row-stays i h q = go (ℕ_discrete (row_at ns i).kind 18)
    where
      go : Dec ((row_at ns i).kind ≡ 18) →
          each (visit (suc k) ds) (row_names ns i e) (going seen out) ≡ each (visit (suc k) ds) (row_names ns (i + 1) e) (going seen out)
      go (yes x) =
          let n : ℕ = (row_at ns i).value in
          let small : n < 1024 = omega (arith, (nodes.row i (omega arith)).name x, nodes.few_names) in
          rows-name ns ds (suc k) (going seen out) i e h x
          ∙ ap (each (visit (suc k) ds) (row_names ns (i + 1) e)) (visit-seen ds k n seen out (sym (a n small) ∙ old-set ns marks i q x))
      go (no x) = ap (λ (l : List ℕ). each (visit (suc k) ds) l (going seen out)) (names-other ns i e h x)

  skip-by : (j i r : ℕ) → r ≡ i + j → r ≤ e → ((n : ℕ) → i ≤ n → n < r → is_new ns marks n ≡ false) →
      each (visit (suc k) ds) (row_names ns i e) (going seen out) ≡ each (visit (suc k) ds) (row_names ns r e) (going seen out)
  skip-by zero i r q h s = let z : i ≡ r = omega arith in ap (λ (m : ℕ). each (visit (suc k) ds) (row_names ns m e) (going seen out)) z
  skip-by (suc j) i r q h s =
      row-stays i (omega arith) (s i (omega arith) (omega arith)) ∙ skip-by j (i + 1) r (omega arith) h (λ n x y. s n (omega arith) y)

  pub rows-skip : (i r : ℕ) → i ≤ r → r ≤ e → ((n : ℕ) → i ≤ n → n < r → is_new ns marks n ≡ false) →
      each (visit (suc k) ds) (row_names ns i e) (going seen out) ≡ each (visit (suc k) ds) (row_names ns r e) (going seen out)
  rows-skip i r x h s = skip-by (r - i) i r (omega arith) h s

-- ---- The walk
module _ (ds : List Definition) (entered : ℕ) {seen out : List ℕ} {w : Walk} (g : Goes ds entered seen out w) where
  -- Names seen are distinct and defined.
  pub goes-short : length seen ≤ length ds
  goes-short = rw (length-map ds defined_name) at (pigeonhole g.once (map defined_name ds) g.defined)

-- A name more is marked.
abbrev pub marked : Walk → ℕ → Walk
marked w n = record { seen = set w.seen n 1; listed = w.listed }

module _ {ds : List Definition} {entered : ℕ} {seen out : List ℕ} {w : Walk} (g : Goes ds entered seen out w) (n : ℕ) where
  pub goes-enter : n < 1024 → member n seen ≡ false → Defined ds n → Goes ds (entered + 1) (n ∷ seen) out (marked w n)
  goes-enter h new d =
      record {
        marks = agrees-set w.seen seen g.marks n (omega (arith, g.long));
        long = length-set w.seen n 1 ∙ g.long;
        listed = g.listed;
        once = more (λ m. subst T new ((member-says n seen).1 m)) g.once;
        defined = λ m i. ⊎_elim (λ (e : m ≡ n). subst (Defined ds) (sym e) d) (g.defined m) (Memᴰ.cases_cons i);
        slack = omega (arith, g.slack);
      }

-- The last name entered is listed.
pub goes-list : {ds : List Definition} (entered : ℕ) {seen out : List ℕ} {w : Walk} → Goes ds (entered + 1) seen out w → (n : ℕ) (x : Walk) →
    x.seen ≡ w.seen → x.listed.items ≡ w.listed.items ++ (n ∷ []) → Goes ds entered seen (out ++ (n ∷ [])) x
goes-list {ds} entered {seen} {out} {w} g n x s e =
    record {
      marks = subst (λ (l : List ℕ). Agrees l seen) (sym s) g.marks;
      long = ap length s ∙ g.long;
      listed = e ∙ ap (λ (l : List ℕ). l ++ (n ∷ [])) g.listed;
      once = g.once;
      defined = g.defined;
      slack = omega (arith, g.slack, ap length e ∙ length-append w.listed.items (n ∷ []));
    }
