-- A tree is gone through by its rows, one after the other. Assumes nothing.
--     GoneThrough, NodeIn          what is said of a tree
--     agrees-set, agrees-again     one name more in a set, by its flag
--     tree-each                    a tree is gone through by its references
--     GoLeft, go-..                the loop over a definition's rows
use mathlib.Core.Path.{◌≡◌, refl, sym, ap, subst, ◌∙◌}
use mathlib.Core.Bool.{Bool, true, false, ◌||◌}
use mathlib.Core.List.{List, [], ◌∷◌}
use Prim.Native.Nat.{ℕ, ◌+◌, ◌≤◌, ◌<◌}
use native.Mathlib.Decide.{ℕ_discrete}
use native.Mathlib.Omega.{arith}
use borrow.Author.Tests.{eq-eqb, ne_eqb}
use lib.Dec.{eqb}
use Rattle.std.proofs.Common.{Ok}
use lib.ListN.{length, get_or, set, length-set, length-replicate}
use lib.Seq.{get_or-set_same, get_or-set_other}
use Rattle.format.specs.Encode.{Row}
use Rattle.format.specs.Forest.{Forest}
use Rattle.format.specs.Layout.{row_at}
use Rattle.format.specs.Node.{Node}
use Rattle.format.specs.References.{references}
use Rattle.format.specs.Whole.{tree_at}
use Rattle.format.proofs.References.{everywhere, references-siblings}
use Rattle.judgement.specs.Check.{member}
use Rattle.book.specs.Tables.{no_flags, is_set}
use Rattle.environment.specs.Trees.{AllTrees}
use Rattle.listing.specs.Recursive.{marking, unbound, note, note_name, go}
use Rattle.listing.specs.Recursive as listing
use Rattle.listing.proofs.Leaves.{each}
use Rattle.listing.proofs.Recursive.{go-each}
use Rattle.analysis.specs.declared.recursive.Marks.{Marks}
use Rattle.analysis.specs.Flags.{Agrees}
use Rattle.analysis.specs.Marking.{Flagged, MarksHold, nothing_marked}
use Rattle.analysis.proofs.BookNodes.{untabled, here-leafy, row_names, names-none, names-name, names-other}

-- ---- What is said of a tree
-- From m, whatever it holds, a tree was gone through.
abbrev pub GoneThrough : Forest Node → Marks → Marks → Type 0
GoneThrough t m r = (s : listing.Marks) → MarksHold s (Ok m) → MarksHold (go t s) (Ok r)

-- A node of a book.
pub record NodeIn (ns : List ℕ) (node : ℕ) : Type 0 where
  pub names : ℕ
  pub count : ℕ
  pub all : AllTrees ns names count
  pub inside : node < count

-- ---- Flags
pub no-flags-length : length no_flags ≡ 1024
unfolding no_flags
no-flags-length = length-replicate {A = ℕ} 1024 0

pub no-flags-at : (n : ℕ) → is_set no_flags n ≡ false
unfolding no_flags
no-flags-at n = rw (everywhere {A = ℕ} 1024 n 0)

pub agrees-none : Agrees no_flags []
unfolding member
agrees-none n lt = no-flags-at n

module _ (flags l : List ℕ) (agrees : Agrees flags l) (n : ℕ) where
  pub agrees-set : n < length flags → Agrees (set flags n 1) (n ∷ l)
  unfolding member
  agrees-set h k lt = look (ℕ_discrete k n)
    where
      look : Dec (k ≡ n) → is_set (set flags n 1) k ≡ (eqb k n || member k l)
      look (yes e) = rw (e, get_or-set_same flags n 1 0 h, eq-eqb n n refl)
      look (no d) = rw (get_or-set_other flags n k 1 0 d, ne_eqb k n d) (agrees k lt)

  -- a name that is there already
  pub agrees-again : is_set flags n ≡ true → Agrees flags (n ∷ l)
  unfolding member
  agrees-again h k lt = look (ℕ_discrete k n)
    where
      look : Dec (k ≡ n) → is_set flags k ≡ (eqb k n || member k l)
      look (yes e) = rw (e, h, eq-eqb n n refl)
      look (no d) = rw (ne_eqb k n d) (agrees k lt)

-- from the start
pub nothing-held : Flagged [] [] nothing_marked
unfolding nothing_marked
nothing-held = record { seen-are = agrees-none; marked-are = agrees-none; seen-long = no-flags-length; long = no-flags-length }

-- ---- One name
pub note-again : (n : ℕ) (v : Marks) → n < 1024 → get_or v.seen n 0 ≡ 1 → (s : listing.Marks) → MarksHold s (Ok v) → MarksHold (note_name n s) (Ok v)
unfolding note_name note
note-again n v lt e (marking seen set') h =
    let is : member n seen ≡ true = sym (h.seen-are n lt) ∙ eq-eqb (get_or v.seen n 0) 1 e in
    subst (λ (b : Bool). MarksHold (note n b seen set') (Ok v)) (sym is) h
note-again n v lt e (unbound m) h = h

abbrev pub noted : ℕ → Marks → Marks
noted n v = record { seen = set v.seen n 1; marked = set v.marked n 1 }

pub note-anew : (n : ℕ) (v : Marks) → n < 1024 → (get_or v.seen n 0 ≡ 1 → ⊥) → (s : listing.Marks) → MarksHold s (Ok v) → MarksHold (note_name n s) (Ok (noted n v))
unfolding note_name note
note-anew n v lt e (marking seen set') h =
    let is : member n seen ≡ false = sym (h.seen-are n lt) ∙ ne_eqb (get_or v.seen n 0) 1 e in
    subst (λ (b : Bool). MarksHold (note n b seen set') (Ok (noted n v))) (sym is)
    (record {
      seen-are = agrees-set v.seen seen h.seen-are n (omega (arith, h.seen-long));
      marked-are = agrees-set v.marked set' h.marked-are n (omega (arith, h.long));
      seen-long = length-set v.seen n 1 ∙ h.seen-long;
      long = length-set v.marked n 1 ∙ h.long;
    })
note-anew n v lt e (unbound m) h = h

-- ---- A tree and its rows
module _ {ns : List ℕ} {n : ℕ} (i : NodeIn ns n) where
  pub tree-each : (s : listing.Marks) → go (tree_at ns n) s ≡ each note_name (references (tree_at ns n)) s
  tree-each = go-each (tree_at ns n) (here-leafy (untabled i.all) i.inside)

  tree-rows : (s : listing.Marks) (until : ℕ) → until ≡ n + (row_at ns n).size → go (tree_at ns n) s ≡ each note_name (row_names ns n until) s
  tree-rows s until e =
      tree-each s ∙ ap (λ (l : List ℕ). each note_name l s) (references-siblings ns n (n + (row_at ns n).size) ∙ ap (row_names ns n) (sym e))

  pub ends-in : n + (row_at ns n).size ≤ i.count
  ends-in = (i.all.nodes.tree n i.inside).ends

  pub small : (k until : ℕ) → until ≡ n + (row_at ns n).size → k < until → (r : Row) → r ≡ row_at ns k → r.kind ≡ 18 → r.value < 1024
  small k until e h r is q =
      let f = (i.all.nodes.row k (omega (arith, ends-in))).name (ap (λ (x : Row). x.kind) (sym is) ∙ q) in
      omega (arith, f, ap (λ (x : Row). x.value) is, i.all.nodes.few_names)

-- ---- The loop: what is noted, and then the rows that are left
pub record Noting (ns : List ℕ) (root until : ℕ) (v : Marks) (i : ℕ) (s : listing.Marks) : Type 0 where
  pub state : listing.Marks
  pub holds : MarksHold state (Ok v)
  pub rest : each note_name (row_names ns i until) state ≡ each note_name (row_names ns root until) s

pub record GoLeft (ns : List ℕ) (root until : ℕ) (m v : Marks) (i : ℕ) : Type 0 where
  pub ends : until ≡ root + (row_at ns root).size
  pub began : root ≤ i
  pub passed : i ≤ until
  pub noting : (s : listing.Marks) → MarksHold s (Ok m) → Noting ns root until v i s

module _ {ns : List ℕ} {root until : ℕ} {m : Marks} where
  module _ {v : Marks} {i : ℕ} (l : GoLeft ns root until m v i) where
    pub go-end : NodeIn ns root → until ≤ i → GoneThrough (tree_at ns root) m v
    go-end n h s k =
        let x = l.noting s k in
        subst (λ (t : listing.Marks). MarksHold t (Ok v))
        (sym (ap (λ (q : List ℕ). each note_name q x.state) (names-none ns i until h)) ∙ x.rest ∙ sym (tree-rows n s until l.ends))
        x.holds

    module _ (h : i < until) (r : Row) (is : r ≡ row_at ns i) where
      -- by what the row makes of the marks, and what is held then
      go-on : (f : listing.Marks → listing.Marks) → ((s : listing.Marks) → each note_name (row_names ns i until) s ≡ each note_name (row_names ns (i + 1) until) (f s)) →
          {w : Marks} → ((s : listing.Marks) → MarksHold s (Ok v) → MarksHold (f s) (Ok w)) → GoLeft ns root until m w (i + 1)
      go-on f step held =
          record {
            ends = l.ends;
            began = omega arith;
            passed = omega arith;
            noting = λ s k.
                let x = l.noting s k in
                record { state = f x.state; holds = held x.state x.holds; rest = sym (step x.state) ∙ x.rest };
          }

      pub go-other : (r.kind ≡ 18 → ⊥) → GoLeft ns root until m v (i + 1)
      go-other d = go-on (λ s. s) (λ s. ap (λ (q : List ℕ). each note_name q s) (names-other ns i until h (λ e. d (ap (λ (z : Row). z.kind) is ∙ e)))) (λ s k. k)

      go-name : r.kind ≡ 18 → {w : Marks} → ((s : listing.Marks) → MarksHold s (Ok v) → MarksHold (note_name r.value s) (Ok w)) → GoLeft ns root until m w (i + 1)
      go-name e =
          go-on (note_name r.value)
          (λ s. ap (λ (q : List ℕ). each note_name q s) (names-name ns i until h (ap (λ (z : Row). z.kind) (sym is) ∙ e) ∙ ap (λ (z : Row). z.value ∷ row_names ns (i + 1) until) (sym is)))

      module _ (n : NodeIn ns root) (e : r.kind ≡ 18) where
        lt : r.value < 1024
        lt = small n i until l.ends h r is e

        pub go-again : get_or v.seen r.value 0 ≡ 1 → GoLeft ns root until m v (i + 1)
        go-again q = go-name e (note-again r.value v lt q)

        pub go-anew : (get_or v.seen r.value 0 ≡ 1 → ⊥) → GoLeft ns root until m (noted r.value v) (i + 1)
        go-anew q = go-name e (note-anew r.value v lt q)
