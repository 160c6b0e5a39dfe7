-- The search over the nodes: no repeat below a node before node i is lower than the lowest so far. Assumes nothing.
--     below-none, below-first     what the children of one node give
--     searched-start, ..          the loop over the nodes
use mathlib.Core.Path.{◌≡◌, refl, sym, subst, ◌∙◌}
use mathlib.Core.Bool.{true, false, true≢false}
use mathlib.Core.List.{List}
use Rattle.std.specs.Iterator.{SkipsThenYields}
use Rattle.std.specs.Prelude.{Option, None, Some, MatchOption, IfSome}
use Prim.Native.Nat.{ℕ, ◌+◌, ◌≤◌, ◌<◌, min}
use native.Mathlib.Decide.{ℕ_discrete, dec_lt}
use native.Mathlib.Omega.{arith}
use Rattle.format.specs.Forest.{count}
use Rattle.format.specs.Node.{Labelled}
use Rattle.format.specs.Book.{Book, trees}
use Rattle.format.specs.Encode.{Row}
use Rattle.format.specs.Layout.{nodes_part, row_at, siblings, read}
use Rattle.format.specs.Whole.{Within}
use Rattle.format.specs.Repeats.{RepeatAt}
use Rattle.format.proofs.Numbered.{node-inside, tree-inside}
use Rattle.format.proofs.Admitted.{trees-whole}
use Rattle.format.specs.Rules.{below_kind}
use Rattle.format.specs.Distinct.{Distinct}
use Rattle.duplicates.specs.Duplicate.{FirstDuplicate}
use Rattle.book.specs.declared.admitted.AdmittedBook.{AdmittedBook}
use Rattle.book.specs.declared.walks.Siblings.{Siblings}
use Rattle.book.specs.declared.read.Node.{Node}
use Rattle.book.specs.Walks.{Over, Walks}
use Rattle.book.proofs.Walking.{nth-some, nth-none}
use Rattle.book.proofs.Named.{book-of}
use Rattle.repeats.proofs.Tables.{admitted-stands, admitted-nodes}
use Rattle.repeats.specs.Found.{FoundAs, FirstRepeat, NoneBelow, FirstBelow}
use Rattle.format.specs.Labels.{keys_of}
use Rattle.repeats.specs.Keys.{key_of, is_parent}
use Rattle.repeats.specs.Steps.{Stands, Between, LowerOf, Skipped}
use Rattle.repeats.proofs.Repeated.{keys_at, kids-between, repeat-parent, child-inside, child-repeat, child-least, none-below}

-- ---- The book's nodes
-- What an admitted book stands on, and how many nodes it has.
pub standing : (b : AdmittedBook) → Stands b.bytes.now (nodes_part b.bytes.now)
standing b = admitted-stands (book-of b.bytes.now b.contents b.laid) refl

pub nodes-are : (b : AdmittedBook) → b.contents.nodes ≡ count (trees (read b.bytes.now))
nodes-are b = admitted-nodes (book-of b.bytes.now b.contents b.laid)

module _ {bs ns : List ℕ} (s : Stands bs ns) where
  pub all-within : Within ns (count (trees (read bs)))
  all-within = rw s.rows (trees-whole bs s.laid).within

  pub nodes-few : count (trees (read bs)) ≤ 4096
  nodes-few = omega (arith, all-within.held, all-within.few)

  pub row-within : (n : ℕ) → n < count (trees (read bs)) → Within ns (n + 1)
  row-within n h = record { held = omega (arith, all-within.held); few = all-within.few }

-- ---- The children of node i, by their keys
pub below : {bs ns : List ℕ} → Stands bs ns → (i : ℕ) → i < count (trees (read bs)) → (r : Row) → r ≡ row_at ns i → Between bs ns (i + 1) (i + r.size)
below {bs} {ns} s i h r e = subst (λ (q : Row). Between bs ns (i + 1) (i + q.size)) (sym e) (kids-between s i h)

pub keys-of : (bs ns : List ℕ) {keys : List ℕ} (i : ℕ) (r : Row) → r ≡ row_at ns i →
    keys ≡ keys_of (key_of (below_kind r.kind) (read bs).names) (siblings ns (i + 1) (i + r.size)) → keys ≡ keys_at bs ns i
keys-of bs ns {keys} i r e k = subst (λ (q : Row). keys ≡ keys_of (key_of (below_kind q.kind) (read bs).names) (siblings ns (i + 1) (i + q.size))) e k

module _ {bs ns : List ℕ} (s : Stands bs ns) {i : ℕ} (h : i < count (trees (read bs))) {keys : List ℕ} (are : keys ≡ keys_at bs ns i) where
  pub below-none : Distinct keys → NoneBelow (read bs) i
  below-none d = none-below s i h (rw are at d)

  -- the walk over the children finds that one
  module _ {d : ℕ} (f : FirstDuplicate keys d) {r : Row} (e : r ≡ row_at ns i) {u : Siblings} (o : Over ns (i + r.size) u) (start : u.at ≡ i + 1) where
    first : FirstDuplicate (keys_at bs ns i) d
    first = rw are at f

    pub below-first : {n : ℕ} {node : Node} {v : Siblings} → is_parent (row_at ns i) ≡ true → SkipsThenYields Walks u d (Some (n, node)) v → FirstBelow (read bs) i n
    below-first t x =
        let y = (nth-some o x).0 in
        let z = rw (start, e) at y in
        rw z (record { is = child-repeat s i h first t; least = child-least s i h first })

    pub below-there : {v : Siblings} → SkipsThenYields Walks u d None v → ⊥
    below-there x = let z = nth-none o x in omega (arith, rw (start, e) at z, child-inside s i h first)

-- ---- The loop
-- what is known of the lowest repeat below the nodes before node i
pub record Searched (b : Book) (i : ℕ) (lowest : Option ℕ) : Type 0 where
  pub is : IfSome lowest (λ r. (l : Labelled) × RepeatAt b.names (trees b) r l)
  pub least : (j : ℕ) (l : Labelled) (x : RepeatAt b.names (trees b) j l) → x.at < i → MatchOption lowest ⊥ (λ r. r ≤ j)

-- A node that `is_parent` does not tell has no repeat below it.
nothing-below : {bs ns : List ℕ} → Stands bs ns → (i : ℕ) → is_parent (row_at ns i) ≡ false → NoneBelow (read bs) i
nothing-below s i f j l x e = true≢false (sym (repeat-parent s i (omega (arith, node-inside x.stands)) x e) ∙ f)

pub searched-start : {bs ns : List ℕ} {first : ℕ} → Stands bs ns → Skipped ns first → Searched (read bs) first None
searched-start s k = record { is = tt; least = λ j l x q. nothing-below s x.at (k x.at q) j l x refl }

-- Node i has no repeat below it, or this one is the first.
searched-none : {b : Book} {i : ℕ} {lowest : Option ℕ} → Searched b i lowest → NoneBelow b i → Searched b (i + 1) lowest
searched-none {b} {i} {lowest} y none = record { is = y.is; least = λ j l x q. least' j l x q (ℕ_discrete x.at i) }
  where
    least' : (j : ℕ) (l : Labelled) (x : RepeatAt b.names (trees b) j l) → x.at < i + 1 → Dec (x.at ≡ i) → MatchOption lowest ⊥ (λ r. r ≤ j)
    least' j l x q (yes e) = absurd (none j l x e)
    least' j l x q (no e) = y.least j l x (omega arith)

searched-first : {b : Book} {i r : ℕ} → Searched b i None → FirstBelow b i r → Searched b (i + 1) (Some r)
searched-first {b} {i} {r} y first = record { is = first.is; least = λ j l x q. least' j l x q (ℕ_discrete x.at i) }
  where
    least' : (j : ℕ) (l : Labelled) (x : RepeatAt b.names (trees b) j l) → x.at < i + 1 → Dec (x.at ≡ i) → r ≤ j
    least' j l x q (yes e) = first.least j l x e
    least' j l x q (no e) = absurd (y.least j l x (omega arith))

searched-some : {b : Book} {i lowest r : ℕ} → Searched b i (Some lowest) → FirstBelow b i r → Searched b (i + 1) (Some (min lowest r))
searched-some {b} {i} {lowest} {r} y first = record { is = is' (dec_lt r lowest); least = λ j l x q. least' j l x q (ℕ_discrete x.at i) }
  where
    is' : Dec (r < lowest) → (l : Labelled) × RepeatAt b.names (trees b) (min lowest r) l
    is' (yes m) = let e : min lowest r ≡ r = omega arith in rw e first.is
    is' (no m) = let e : min lowest r ≡ lowest = omega arith in rw e y.is

    least' : (j : ℕ) (l : Labelled) (x : RepeatAt b.names (trees b) j l) → x.at < i + 1 → Dec (x.at ≡ i) → min lowest r ≤ j
    least' j l x q (yes e) = omega (arith, first.least j l x e)
    least' j l x q (no e) = omega (arith, y.least j l x (omega arith))

pub searched-on : {b : Book} {i : ℕ} (lowest below on : Option ℕ) → Searched b i lowest → MatchOption below (NoneBelow b i) (λ r. FirstBelow b i r) →
    LowerOf lowest below on → Searched b (i + 1) on
searched-on None None on y none e = rw e (searched-none y none)
searched-on (Some n) None on y none e = rw e (searched-none y none)
searched-on None (Some r) on y first e = rw e (searched-first y first)
searched-on (Some n) (Some r) on y first e = rw e (searched-some y first)

pub searched-skip : {bs ns : List ℕ} → Stands bs ns → {i : ℕ} {lowest : Option ℕ} → Searched (read bs) i lowest → is_parent (row_at ns i) ≡ false → Searched (read bs) (i + 1) lowest
searched-skip s {i} y f = searched-none y (nothing-below s i f)

-- at the lowest so far, and after all nodes
found : {b : Book} {i r : ℕ} → Searched b i (Some r) → ((j : ℕ) (l : Labelled) (x : RepeatAt b.names (trees b) j l) → (x.at < i → ⊥) → r ≤ j) → FirstRepeat b r
found {b} {i} {r} y later = record { inside = inside y.is.1; found = (y.is.0, record { is = y.is.1; lowest = λ j l x. lower j l x (dec_lt x.at i) }) }
  where
    inside : {l : Labelled} → RepeatAt b.names (trees b) r l → r < count (trees b)
    inside x = omega (arith, node-inside x.stands, tree-inside x.other, x.node)

    lower : (j : ℕ) (l : Labelled) (x : RepeatAt b.names (trees b) j l) → Dec (x.at < i) → r ≤ j
    lower j l x (yes m) = y.least j l x m
    lower j l x (no m) = later j l x m

pub searched-at : {b : Book} {i : ℕ} (lowest : Option ℕ) → Searched b i lowest → MatchOption lowest (true ≡ false) (λ r. true ≡ true → r ≤ i) → FoundAs b lowest
searched-at None y h = absurd (true≢false h)
searched-at (Some r) y h = let below = h refl in found y (λ j l x m. omega (arith, x.node))

pub searched-all : {b : Book} {i : ℕ} (lowest : Option ℕ) → Searched b i lowest → count (trees b) ≤ i → FoundAs b lowest
searched-all None y h = λ j l x. y.least j l x (omega (arith, node-inside x.stands))
searched-all (Some r) y h = found y (λ j l x m. absurd (omega (arith, node-inside x.stands)))
