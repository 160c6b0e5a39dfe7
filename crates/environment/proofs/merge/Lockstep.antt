-- The walk over two forests in lockstep: what is left of both is the same just where all of both is. Assumes nothing.
use mathlib.Core.Path.{◌≡◌, sym, ap, ◌∙◌}
use mathlib.Core.Bool.{Bool, true, false, not, ◌&&◌}
use mathlib.Core.List.{List}
use Prim.Native.Nat.{ℕ, ◌+◌, ◌≤◌, ◌<◌}
use native.Mathlib.Omega.{arith}
use Rattle.format.specs.declared.Place.{Place}
use Rattle.format.specs.Encode.{Row}
use Rattle.format.specs.Fits.{place_below}
use Rattle.format.specs.Layout.{row_at, node_of, siblings}
use Rattle.format.specs.Rules.{below_kind}
use Rattle.format.specs.Whole.{Whole, RowFits}
use Rattle.format.proofs.Nodes.{place-below}
use Rattle.format.proofs.Rows.{opens, siblings-none, siblings-opens}
use Rattle.judgement.specs.Environment.{same_forest}
use Rattle.book.specs.Tables.{HashesAgree}
use Rattle.book.specs.declared.walks.Siblings.{Siblings}
use Rattle.book.specs.declared.read.Node.{Node}
use Rattle.book.specs.Reading.{as_row}
use Rattle.book.specs.Walks.{Over, NextTree, Walks}
use Rattle.book.proofs.Walking.{last, here, row, size, at, over-next}
use Rattle.std.specs.Prelude.{Option, Some, None, is_some}
use Rattle.environment.specs.Merging.{same_node, Compared}

-- What is answered of two forests, and of two nodes.
abbrev pub SameAs : List ℕ → List ℕ → Place → ℕ → ℕ → ℕ → ℕ → Bool → Type 0
SameAs ns hashes p a a-until b b-until r =
    (names : List (List ℕ)) → HashesAgree hashes names → r ≡ same_forest names p (siblings ns a a-until) (siblings ns b b-until)

-- Of all of two forests.
abbrev pub AllSame : List ℕ → List ℕ → Place → Siblings → Siblings → Bool → Type 0
AllSame ns hashes p a b r = SameAs ns hashes p a.at a.until b.at b.until r

pub all-same : {ns : List ℕ} {a b : Siblings} {i e j f : ℕ} → Over ns e a → a.at ≡ i → Over ns f b → b.at ≡ j →
    (hashes : List ℕ) (p : Place) {r : Bool} → AllSame ns hashes p a b r → SameAs ns hashes p i e j f r
all-same o x u y hashes p m = rw (← o.until, ← x, ← u.until, ← y) m

abbrev pub NodeAs : List ℕ → Place → Row → Row → Bool → Type 0
NodeAs hashes p r s b = (names : List (List ℕ)) → HashesAgree hashes names → b ≡ same_node names p (node_of r) (node_of s)

-- A row of a book is one of a book with 1,024 names.
pub more-names : {names : ℕ} {r : Row} → names ≤ 1024 → RowFits names r → RowFits 1024 r
more-names h f =
    record { kind = f.kind; lkind = f.lkind; name = λ e. omega (arith, f.name e); label = λ e. omega (arith, f.label e); same = f.same }

below-row : (r : Row) → r.kind < 27 → place_below (node_of r).kind ≡ below_kind r.kind
unfolding node_of
below-row r h = place-below r.kind r.value h

-- What is left of two forests, from node i and from node j on, is the same just where all of both is.
pub record SameLeft (ns hashes : List ℕ) (p : Place) (a b : Siblings) (i j : ℕ) : Type 0 where
  pub later : a.at ≤ i
  pub first : Whole ns i a.until
  pub second : Whole ns j b.until
  pub rest : (names : List (List ℕ)) → HashesAgree hashes names →
      same_forest names p (siblings ns i a.until) (siblings ns j b.until) ≡ same_forest names p (siblings ns a.at a.until) (siblings ns b.at b.until)

-- The walks over both have come so far.
pub record Walked (ns hashes : List ℕ) (p : Place) (a b s t : Siblings) : Type 0 where
  pub first : Over ns a.until s
  pub second : Over ns b.until t
  pub left : SameLeft ns hashes p a b s.at t.at

module _ {ns hashes : List ℕ} {p : Place} {a b : Siblings} where
  module _ {i j : ℕ} (l : SameLeft ns hashes p a b i j) where
    module _ (h : a.until ≤ i) where
      none-left : j ≡ b.until → AllSame ns hashes p a b true
      unfolding same_forest
      none-left k names agree = rw (← l.rest names agree, siblings-none ns i a.until h, siblings-none ns j b.until (omega arith))

      one-left : j < b.until → AllSame ns hashes p a b false
      unfolding same_forest
      one-left k names agree = rw (← l.rest names agree, siblings-none ns i a.until h, siblings-opens (opens l.second k))

    same-short : i < a.until → b.until ≤ j → AllSame ns hashes p a b false
    unfolding same_forest
    same-short h k names agree = rw (← l.rest names agree, siblings-opens (opens l.first h), siblings-none ns j b.until k)

  module _ {s t : Siblings} (w : Walked ns hashes p a b s t) where
    -- the second has no tree left, and the first has one
    pub ends-sooner : {i : ℕ} {n : Node} {s' t' : Siblings} → NextTree s i n s' → Walks t None t' → AllSame ns hashes p a b false
    ends-sooner x y = let end = last w.second y in same-short w.left (here w.first x) (omega arith)

    -- the first has no tree left
    pub same-end : {s' : Siblings} → Walks s None s' → (o : Option (ℕ × Node)) (t' : Siblings) → Walks t o t' → (r : Bool) → is_some o ≡ not r → AllSame ns hashes p a b r
    same-end x None t' y true e = let end = last w.first x in none-left w.left (omega arith) (last w.second y)
    same-end x None t' y false e = let z : ⊥ = cc in absurd z
    same-end x (Some k) t' y true e = let z : ⊥ = cc in absurd z
    same-end x (Some k) t' y false e = let end = last w.first x in one-left w.left (omega arith) (here w.second y)

-- Both have a tree left, whose rows are r and s.
pub record Turn (ns hashes : List ℕ) (p : Place) (a b : Siblings) (i j : ℕ) (r s : Row) : Type 0 where
  pub compared : Compared ns a b
  pub left : SameLeft ns hashes p a b i j
  pub more : i < a.until
  pub other : j < b.until
  pub is : r ≡ row_at ns i
  pub at : s ≡ row_at ns j

module _ {ns hashes : List ℕ} {p : Place} {a b : Siblings} {i j : ℕ} {r s : Row} (turn : Turn ns hashes p a b i j r s) where
  pub first-fits : RowFits 1024 r
  first-fits = rw turn.is (more-names turn.compared.nodes.few_names (turn.compared.nodes.row i (omega (arith, turn.more, turn.compared.first-in))))

  -- both open: their nodes, what is below these, and what is after them
  both-open : (names : List (List ℕ)) →
      same_forest names p (siblings ns i a.until) (siblings ns j b.until)
      ≡ (same_node names p (node_of r) (node_of s)
      && same_forest names (below_kind r.kind) (siblings ns (i + 1) (i + r.size)) (siblings ns (j + 1) (j + s.size))
      && same_forest names p (siblings ns (i + r.size) a.until) (siblings ns (j + s.size) b.until))
  unfolding same_forest same_node
  both-open names =
      let q : place_below (node_of r).kind ≡ below_kind r.kind = below-row r first-fits.kind in
      rw (siblings-opens (opens turn.left.first turn.more), siblings-opens (opens turn.left.second turn.other), ← turn.is, ← turn.at, q)

  module _ {t : Bool} (n : NodeAs hashes p r s t) where
    pub same-node : t ≡ false → AllSame ns hashes p a b false
    same-node f names agree = rw (← turn.left.rest names agree, both-open names, ← n names agree, f)

    module _ (y : t ≡ true) (q : Place) (below : q ≡ below_kind r.kind) {u : Bool} (m : SameAs ns hashes q (i + 1) (i + r.size) (j + 1) (j + s.size) u) where
      pub same-kids : u ≡ false → AllSame ns hashes p a b false
      same-kids f names agree = rw (← turn.left.rest names agree, both-open names, ← n names agree, y, ← below, ← m names agree, f)

      pub same-on : u ≡ true → SameLeft ns hashes p a b (i + r.size) (j + s.size)
      same-on f =
          record {
            later = omega (arith, turn.left.later);
            first = rw turn.is (opens turn.left.first turn.more).rest;
            second = rw turn.at (opens turn.left.second turn.other).rest;
            rest = λ names agree. sym (rw (both-open names, ← n names agree, y, ← below, ← m names agree, f)) ∙ turn.left.rest names agree;
          }

-- The walks over both gave a tree each, and went on.
module _ {ns hashes : List ℕ} {p : Place} {a b : Siblings} {i j : ℕ} {s t s' t' : Siblings} {n m : Node}
    (w : Walked ns hashes p a b s t) (x : NextTree s i n s') (y : NextTree t j m t') where
  pub turn : Compared ns a b → Turn ns hashes p a b i j (as_row n) (as_row m)
  turn c =
      record {
        compared = c;
        left = rw (x.place, y.place) w.left;
        more = rw x.place (here w.first x);
        other = rw y.place (here w.second y);
        is = row w.first x ∙ ap (row_at ns) (sym x.place);
        at = row w.second y ∙ ap (row_at ns) (sym y.place);
      }

  pub walked-on : SameLeft ns hashes p a b (i + n.size) (j + m.size) → Walked ns hashes p a b s' t'
  walked-on l =
      let first-at : i + n.size ≡ s'.at = omega (arith, x.place, size w.first x, at w.first x) in
      let second-at : j + m.size ≡ t'.at = omega (arith, y.place, size w.second y, at w.second y) in
      record { first = over-next w.first x; second = over-next w.second y; left = rw (← first-at, ← second-at) l }
