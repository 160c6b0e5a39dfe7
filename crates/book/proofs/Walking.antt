-- A walk over sibling trees, `for (n, node) in Siblings::new(rows, from, until)`. Assumes nothing.
-- A loop's invariant has `Over l.rows l.until l.n-iterator`, beside what is known at the place `l.n-iterator.at`. In the loop, with that as `o`
-- and x = c.in-Some.ensures.steps:
--     whole o                     whole trees are left
--     here o x                    a tree is left
--     x.place, row o x, size o x  its root's number and row, and its size
--     at o x, over-next o x       the place that the walk goes on to, and the invariant there
-- After it, with x = c.in-None.ensures.steps:
--     last o x                    it came to the end
-- Where the walk's nth tree is asked for, with x = c.in-Some.ensures.ran or c.in-None.ensures.ran:
--     nth-some o x                how many trees and nodes stand before that tree
--     nth-none o x                there are no more trees than n
-- A walk over entries, `for e in Entries::new(entries, from, until)`: a loop's invariant has `OverEntries l.entries l.until l.e-iterator`, beside
-- what is known at the place `l.e-iterator.at`. In the loop, with that as `o` and x = c.in-Some.ensures.steps:
--     entry-left o x              an entry is left
--     entry-is o x                the entry at the walk's place
--     x.at, entry-next o x        the place that the walk goes on to, one further, and the invariant there
-- After it, with x = c.in-None.ensures.steps:
--     entry-last o x              it came to the end
-- In a chain:
--     entries-yield o             what it yields, `run (entry_at es) s.at (until - s.at)`
--     entries-serve o             what its closure is asked, if that holds of each entry from the walk's place up to its end
use mathlib.Core.Path.{◌≡◌, refl, sym, ap, ◌∙◌, subst}
use mathlib.Core.List.{List, [], ◌∷◌}
use Prim.Native.Nat.{ℕ, suc, ◌+◌, ◌-◌, ◌≤◌, ◌<◌, min}
use native.Mathlib.Nat.{add-zero}
use native.Mathlib.Omega.{arith}
use Rattle.format.specs.Encode.{Row}
use Rattle.std.proofs.lemmas.Iterator.{YieldsList}
use Rattle.std.proofs.lemmas.Iterator.Consumers.{YieldsList-from_shown}
use Rattle.std.proofs.lemmas.List.{take_min, drop_min, length-drop}
use lib.ListN.{length, take, drop}
use Rattle.format.specs.Forest.{breadth}
use Rattle.format.specs.Layout.{row_at, entry_at, run, siblings, names_of}
use Rattle.format.proofs.Lists.{run-none, run-cons}
use Rattle.format.proofs.Names.{names-fuel}
use Rattle.format.proofs.Rows.{opens, siblings-none, siblings-opens, count-siblings}
use Rattle.format.proofs.Numbered.{nodes_before}
use Rattle.format.specs.Whole.{Whole}
use Rattle.std.specs.Prelude.{None, Some}
use Rattle.std.specs.List.{FoldsTo}
use Rattle.std.specs.Iterator.{Yields, SkipsThenYields, CallableAtEachTurn}
use Rattle.book.specs.declared.read.Node.{Node}
use Rattle.book.specs.declared.walks.Siblings.{Siblings}
use Rattle.book.specs.declared.walks.Entries.{Entries}
use Rattle.book.specs.declared.read.Entry.{Entry}
use Rattle.book.specs.Reading.{as_row, as_entry}
use Rattle.book.specs.Walks.{Over, NextTree, Walks, OverEntries, NextEntry, WalksEntries, entries_left}

module _ {ns : List ℕ} {e : ℕ} {s : Siblings} (o : Over ns e s) where
  -- what is known of its own rows and its own end
  pub there : (P : List ℕ → ℕ → Type 0) → P s.rows.now s.until → P ns e
  there P p = subst (P ns) o.until (subst (λ l. P l s.until) o.rows p)

  pub over-over : {t : Siblings} → Over s.rows.now s.until t → Over ns e t
  over-over p = record { rows = p.rows ∙ o.rows; until = p.until ∙ o.until }

  -- what is left are whole trees
  pub whole : Whole ns s.at e
  whole = there (λ l n. Whole l s.at n) s.whole

  pub last : {t : Siblings} → Walks s None t → s.at ≡ e
  last x = x.0 ∙ o.until

  module _ {n : ℕ} {node : Node} {t : Siblings} (x : NextTree s n node t) where
    pub here : s.at < e
    here = omega (arith, x.left, o.until)

    pub row : as_row node ≡ row_at ns s.at
    row = x.row ∙ ap (λ l. row_at l s.at) o.rows

    pub size : node.size ≡ (row_at ns s.at).size
    size = ap (λ (r : Row). r.size) row

    pub at : t.at ≡ s.at + (row_at ns s.at).size
    at = x.at ∙ ap (λ l. s.at + (row_at l s.at).size) o.rows

    pub over-next : Over ns e t
    over-next = record { rows = ap (λ r. r.now) x.rows ∙ o.rows; until = x.until ∙ o.until }

-- ---- The nth tree of a walk
-- where n trees were walked, and how many are left
record Walked (ns : List ℕ) (e : ℕ) (s t : Siblings) (n : ℕ) : Type 0 where
  over : Over ns e t
  at : t.at ≡ s.at + nodes_before n (siblings ns s.at e)
  left : breadth (siblings ns s.at e) ≡ n + breadth (siblings ns t.at e)

walked : {ns : List ℕ} {e : ℕ} {s t : Siblings} (xs : List (ℕ × Node)) → Yields Walks s xs t → Over ns e s → Walked ns e s t (length xs)
unfolding breadth nodes_before
walked {ns} {e} {s} [] y o = subst (λ (t : Siblings). Walked ns e s t 0) y (record { over = o; at = sym (add-zero s.at); left = omega arith })
walked {ns} {e} {s} (x ∷ xs) (j, x', y) o =
    let rest = walked xs y (over-next o x') in
    let k = length xs in
    let first = opens (whole o) (here o x') in
    let size = count-siblings ns (s.at + 1) (s.at + (row_at ns s.at).size) in
    record {
      over = rest.over;
      at = rest.at ∙ ap (λ (i : ℕ). i + nodes_before k (siblings ns i e)) (at o x') ∙ rw (siblings-opens first) (omega (arith, first.here.one, size));
      left = rw (siblings-opens first) (omega (arith, rest.left, ap (λ (i : ℕ). breadth (siblings ns i e)) (at o x')));
    }

module _ {ns : List ℕ} {e : ℕ} {s : Siblings} (o : Over ns e s) {n : ℕ} where
  pub nth-some : {k : ℕ} {node : Node} {u : Siblings} → SkipsThenYields Walks s n (Some (k, node)) u →
      (k ≡ s.at + nodes_before n (siblings ns s.at e)) × (n < breadth (siblings ns s.at e))
  unfolding breadth
  nth-some (xs, (t, y, x), long) =
      let w = walked xs y o in
      let more = ap breadth (siblings-opens (opens (whole w.over) (here w.over x))) in
      (x.place ∙ subst (λ (m : ℕ). t.at ≡ s.at + nodes_before m (siblings ns s.at e)) long w.at, omega (arith, w.left, more, long))

  pub nth-none : {u : Siblings} → SkipsThenYields Walks s n None u → breadth (siblings ns s.at e) ≤ n
  unfolding breadth
  nth-none (xs, (t, y, x), long) =
      let w = walked xs y o in
      let none = ap breadth (siblings-none ns t.at e (omega (arith, last w.over x))) in
      omega (arith, w.left, none, long)

-- ---- A walk over entries
module _ {es : List ℕ} {e : ℕ} {s : Entries} (o : OverEntries es e s) where
  pub entry-last : {t : Entries} → WalksEntries s None t → e ≤ s.at
  entry-last x = omega (arith, x.0, o.until)

  module _ {r : Entry} {t : Entries} (x : NextEntry s r t) where
    pub entry-left : s.at < e
    entry-left = omega (arith, x.left, o.until)

    pub entry-is : as_entry r ≡ entry_at es s.at
    entry-is = x.entry ∙ ap (λ l. entry_at l s.at) o.bytes

    pub entry-next : OverEntries es e t
    entry-next = record { bytes = ap (λ r. r.now) x.bytes ∙ o.bytes; until = x.until ∙ o.until }

entries-first : (s : Entries) (r : Entry) (t : Entries) → NextEntry s r t → entries_left s ≡ as_entry r ∷ entries_left t
entries-first s r t x =
    let more : s.until - s.at ≡ suc (t.until - t.at) = omega (arith, x.left, x.until, x.at) in
    rw (more, x.entry, x.at, ap (λ q. q.now) x.bytes) (run-cons (entry_at s.bytes.now) s.at (t.until - (s.at + 1)))

pub entries-yield : {es : List ℕ} {e : ℕ} {s : Entries} → OverEntries es e s → YieldsList WalksEntries as_entry s (run (entry_at es) s.at (e - s.at))
entries-yield {es} {e} {s} o =
    subst (YieldsList WalksEntries as_entry s) (rw (o.bytes, o.until) refl)
    (YieldsList-from_shown WalksEntries as_entry entries_left (λ t u x. let z : t.until - t.at ≡ 0 = omega (arith, x.0) in rw (z, run-none (entry_at t.bytes.now) t.at) refl) entries-first s)

-- what a closure may be asked at each entry
stays : {P A : Type 0} (R : P → A → P → Type 0) {p : P} → ((x : A) (q : P) → R p x q → q ≡ p) → (xs : List A) (q : P) → FoldsTo R p xs q → q ≡ p
stays R h [] q c = sym c
stays R h (x ∷ xs) q c = stays R h xs q (subst (λ k. FoldsTo R k xs q) (h x c.0 c.1) c.2)

walked-entries : {es : List ℕ} {e : ℕ} {s t : Entries} (xs : List Entry) → OverEntries es e s → Yields WalksEntries s xs t → OverEntries es e t × (s.at ≤ t.at)
walked-entries {es} {e} {s} [] o y = subst (λ (u : Entries). OverEntries es e u × (s.at ≤ u.at)) y (o, omega arith)
walked-entries (x ∷ xs) o (j, n, y) = let r = walked-entries xs (entry-next o n) y in (r.0, omega (arith, r.1, n.at))

pub entries-serve : {P : Type 0} {R : P → Entry → P → Type 0} {Q : P → Entry → Type 0} {p : P} {es : List ℕ} {e : ℕ} {s : Entries} → OverEntries es e s →
    ((x : Entry) (q : P) → R p x q → q ≡ p) → ((k : ℕ) → s.at ≤ k → k < e → (x : Entry) → as_entry x ≡ entry_at es k → Q p x) → CallableAtEachTurn WalksEntries R Q s p
entries-serve {R = R} {Q = Q} o same h = record {
  at = λ xs t q x u y c n. let w = walked-entries xs o y in subst (λ k. Q k x) (sym (stays R same xs q c)) (h t.at w.1 (entry-left w.0 n) x (entry-is w.0 n));
}

-- ---- A walk over names
-- a name that begins the bytes, and those that are left after it
pub names-cons : (n : ℕ) (bs : List ℕ) → names_of (length (n ∷ bs)) (n ∷ bs) ≡ take n bs ∷ names_of (length (drop n bs)) (drop n bs)
unfolding names_of
names-cons n bs = ap (λ (ns : List (List ℕ)). take n bs ∷ ns) (names-fuel (length bs) (length (drop n bs)) (drop n bs) (omega (arith, length-drop n bs)) (omega arith))

pub names-first : {n m : ℕ} {bs all name rest : List ℕ} → all ≡ n ∷ bs → m ≡ min n (length bs) → name ≡ take m bs → rest ≡ drop m bs →
    names_of (length all) all ≡ name ∷ names_of (length rest) rest
names-first {n} {m} {bs} a e f r = rw (a, f, r, e, take_min n bs, drop_min n bs) (names-cons n bs)

pub names-empty : (bs : List ℕ) → length bs ≡ 0 → names_of (length bs) bs ≡ []
unfolding names_of
names-empty [] h = refl
names-empty (b ∷ bs) h = absurd (omega arith)
