-- The places of the types within a node. Assumes nothing.
--     Walk, walk                   trees beside each other, one after another
--     place-inside                 a place lies among the rows, with all of its tree
--     places-distinct              no place stands twice
--     one-holder                   a node is within no two
--     place-beside, beside-place   the places are those of the trees beside each other
use mathlib.Core.Path.{◌≡◌, refl, sym, ap, subst}
use mathlib.Core.Logic.{◌⊎◌, inl, inr}
use mathlib.Core.List.Memᴰ
use mathlib.Core.List.{List, [], ◌∷◌, Memᴰ}
use Prim.Native.Nat.{ℕ, zero, suc, ◌+◌, ◌≤◌, ◌<◌}
use native.Mathlib.Decide.{ℕ_discrete, dec_lt}
use native.Mathlib.Omega.{arith}
use Rattle.format.specs.Forest.{Forest, tree}
use Rattle.format.specs.Node as node
use Rattle.format.specs.Occurs.{Beside, first, later}
use Rattle.format.specs.Distinct.{Distinct, none, more}
use Rattle.format.specs.Layout.{row_at, node_of, siblings}
use Rattle.format.specs.Whole.{Whole, WholeAt}
use Rattle.format.proofs.Occurs.{beside-none}
use Rattle.format.proofs.Rows.{Opened, opens, none as no-rows, kids-whole, siblings-none, siblings-opens}
use Rattle.format.proofs.Stored.{node-whole}
use Rattle.inhabitants.specs.Waiting.{places, places_in, within}

-- ---- Trees beside each other
pub data Walk (ns : List ℕ) (until : ℕ) : ℕ → Type 0 where
  done : {at : ℕ} → until ≤ at → Walk ns until at
  on : {at : ℕ} → at < until → Opened ns at until → Walk ns until (at + (row_at ns at).size) → Walk ns until at

walk-in : {ns : List ℕ} (k : ℕ) {at until : ℕ} → Whole ns at until → until ≤ at + k → Walk ns until at
walk-in zero w h = done (omega arith)
walk-in {ns} (suc k) {at} {until} w h = go (dec_lt at until) (λ o. let one = o.here.one in walk-in k o.rest (omega arith))
  where
    go : Dec (at < until) → (Opened ns at until → Walk ns until (at + (row_at ns at).size)) → Walk ns until at
    go (no x) ih = done (omega arith)
    go (yes x) ih = let o = opens w x in on x o (ih o)

pub walk : {ns : List ℕ} {at until : ℕ} → Whole ns at until → Walk ns until at
walk {until = until} w = walk-in until w (omega arith)

-- One tree, and those after it.
pub places-on : {ns : List ℕ} {at until : ℕ} → Opened ns at until → places_in ns at until ≡ at ∷ places_in ns (at + (row_at ns at).size) until
unfolding places
places-on {at = at} o = ap (places at) o.opened

pub places-done : (ns : List ℕ) {at until : ℕ} → until ≤ at → places_in ns at until ≡ []
unfolding places
places-done ns {at} {until} h = ap (places at) (no-rows ns at until h)

-- The first of trees, or one of those after it.
beside-cases : {f n : node.Node} {lids kids next : Forest node.Node} → Beside f lids (tree n kids next) → ((n ≡ f) × (kids ≡ lids)) ⊎ Beside f lids next
beside-cases first = inl (refl, refl)
beside-cases (later b) = inr b

module _ {ns : List ℕ} {until : ℕ} where
  -- ---- Places lie among the rows
  inside-walk : {at : ℕ} → Walk ns until at → {c : ℕ} → Memᴰ c (places_in ns at until) → (at ≤ c) × (c < until)
  inside-walk {at} (done h) {c} i = absurd (Memᴰ.not-nil (subst (Memᴰ c) (places-done ns h) i))
  inside-walk {at} (on h o w) {c} i = go (Memᴰ.cases_cons (subst (Memᴰ c) (places-on o) i)) (λ j. inside-walk w j)
    where
      go : (c ≡ at) ⊎ Memᴰ c (places_in ns (at + (row_at ns at).size) until) → (Memᴰ c (places_in ns (at + (row_at ns at).size) until) → (at + (row_at ns at).size ≤ c) × (c < until))
          → (at ≤ c) × (c < until)
      go (inl e) ih = (omega arith, omega arith)
      go (inr j) ih = let r = ih j in (omega (arith, r.0), r.1)

  distinct-walk : {at : ℕ} → Walk ns until at → Distinct (places_in ns at until)
  distinct-walk (done h) = rw (places-done ns h) none
  distinct-walk {at} (on h o w) =
      rw (places-on o) (more {a = at} (λ i. let r = inside-walk w i in let one = o.here.one in omega (arith, r.0)) (distinct-walk w))

  -- ---- They are those of the trees
  beside-walk : {at : ℕ} → Walk ns until at → {f : node.Node} {lids : Forest node.Node} → Beside f lids (siblings ns at until) →
      (c : ℕ) × Memᴰ c (places_in ns at until) × (node_of (row_at ns c) ≡ f) × (siblings ns (c + 1) (c + (row_at ns c).size) ≡ lids)
  beside-walk {at} (done h) {f} {lids} b = beside-none (subst (Beside f lids) (siblings-none ns at until h) b)
  beside-walk {at} (on h o w) {f} {lids} b = go (beside-cases (subst (Beside f lids) (siblings-opens o) b)) (λ d. beside-walk w d)
    where
      rest : ℕ
      rest = at + (row_at ns at).size

      Found : ℕ → Type 0
      Found from = (c : ℕ) × Memᴰ c (places_in ns from until) × (node_of (row_at ns c) ≡ f) × (siblings ns (c + 1) (c + (row_at ns c).size) ≡ lids)

      go : ((node_of (row_at ns at) ≡ f) × (siblings ns (at + 1) rest ≡ lids)) ⊎ Beside f lids (siblings ns rest until) →
          (Beside f lids (siblings ns rest until) → Found rest) → Found at
      go (inl e) ih = (at, subst (Memᴰ at) (sym (places-on o)) (Memᴰ.head refl), e.0, e.1)
      go (inr d) ih = let r = ih d in (r.0, subst (Memᴰ r.0) (sym (places-on o)) (Memᴰ.tail r.1), r.2, r.3)

  walk-beside : {at : ℕ} → Walk ns until at → {c : ℕ} → Memᴰ c (places_in ns at until) →
      Beside (node_of (row_at ns c)) (siblings ns (c + 1) (c + (row_at ns c).size)) (siblings ns at until)
  walk-beside (done h) {c} i = absurd (Memᴰ.not-nil (subst (Memᴰ c) (places-done ns h) i))
  walk-beside {at} (on h o w) {c} i = go (Memᴰ.cases_cons (subst (Memᴰ c) (places-on o) i)) (λ j. walk-beside w j)
    where
      tree-at : ℕ → Forest node.Node → Type 0
      tree-at n f = Beside (node_of (row_at ns n)) (siblings ns (n + 1) (n + (row_at ns n).size)) f

      rest : ℕ
      rest = at + (row_at ns at).size

      go : (c ≡ at) ⊎ Memᴰ c (places_in ns rest until) → (Memᴰ c (places_in ns rest until) → tree-at c (siblings ns rest until)) → tree-at c (siblings ns at until)
      go (inl e) ih = subst (λ (n : ℕ). tree-at n (siblings ns at until)) (sym e) (subst (tree-at at) (sym (siblings-opens o)) first)
      go (inr j) ih = subst (tree-at c) (sym (siblings-opens o)) (later (ih j))

-- ---- The types within a node
module _ {ns : List ℕ} {n : ℕ} (w : WholeAt ns n) where
  inner : Walk ns (n + (row_at ns n).size) (n + 1)
  inner = walk (kids-whole w)

  pub place-inside : {c : ℕ} → Memᴰ c (within ns n) → (n < c) × (c < n + (row_at ns n).size)
  place-inside i = let r = inside-walk inner i in (omega (arith, r.0), r.1)

  pub places-distinct : Distinct (within ns n)
  places-distinct = distinct-walk inner

  pub beside-place : {f : node.Node} {lids : Forest node.Node} → Beside f lids (siblings ns (n + 1) (n + (row_at ns n).size)) →
      (c : ℕ) × Memᴰ c (within ns n) × (node_of (row_at ns c) ≡ f) × (siblings ns (c + 1) (c + (row_at ns c).size) ≡ lids)
  beside-place = beside-walk inner

  pub place-beside : {c : ℕ} → Memᴰ c (within ns n) →
      Beside (node_of (row_at ns c)) (siblings ns (c + 1) (c + (row_at ns c).size)) (siblings ns (n + 1) (n + (row_at ns n).size))
  place-beside = walk-beside inner

-- Of two nodes within which a node is, that which comes later would lie in one of the trees within the other, behind its root, where no place is.
module _ {ns : List ℕ} {c m : ℕ} (above : m < c) where
  below-walk : {until at : ℕ} → Whole ns at until → Walk ns until at → at ≤ m → m < until → c < m + (row_at ns m).size → Memᴰ c (places_in ns at until) → ⊥
  below-walk x (done h) l u b i = omega arith
  below-walk {until} {at} x (on h o w) l u b i = go (Memᴰ.cases_cons (subst (Memᴰ c) (places-on o) i)) (dec_lt m (at + (row_at ns at).size)) (λ y j. below-walk o.rest w y u b j)
    where
      rest : ℕ
      rest = at + (row_at ns at).size

      -- in the first tree, all of node m lies there
      ends : m < rest → m + (row_at ns m).size ≤ rest
      ends y = go-in (ℕ_discrete m at)
        where
          go-in : Dec (m ≡ at) → m + (row_at ns m).size ≤ rest
          go-in (yes e) = rw e (omega arith)
          go-in (no d) = (node-whole (kids-whole o.here) m (omega arith) y).ends

      go : (c ≡ at) ⊎ Memᴰ c (places_in ns rest until) → Dec (m < rest) → (rest ≤ m → Memᴰ c (places_in ns rest until) → ⊥) → ⊥
      go (inl e) d ih = omega arith
      go (inr j) (yes y) ih = let r = inside-walk w j in omega (arith, r.0, ends y)
      go (inr j) (no y) ih = ih (omega arith) j

pub one-holder : {ns : List ℕ} {n m c : ℕ} → WholeAt ns n → WholeAt ns m → Memᴰ c (within ns n) → Memᴰ c (within ns m) → n ≡ m
one-holder {ns} {n} {m} {c} w v i j = go (dec_lt n m) (dec_lt m n)
  where
    p : (n < c) × (c < n + (row_at ns n).size)
    p = place-inside w i

    q : (m < c) × (c < m + (row_at ns m).size)
    q = place-inside v j

    go : Dec (n < m) → Dec (m < n) → n ≡ m
    go (yes x) d = absurd (below-walk q.0 (kids-whole w) (inner w) (omega arith) (omega (arith, q.0, p.1)) q.1 i)
    go (no x) (yes y) = absurd (below-walk p.0 (kids-whole v) (inner v) (omega arith) (omega (arith, p.0, q.1)) p.1 j)
    go (no x) (no y) = omega arith
