-- A node of a book: its row, its tree, and those below it; the names of rows; the methods of services; and where chains end. Assumes nothing.
--     Rooted, Readable           a book's nodes with a table of roots, and trees of it; what a scope has
--     untabled                   a book's nodes, where no table is asked for
--     here-..                    a node
--     next-at                    where a walk over sibling trees goes on
--     row_names, names-name, ..   the names that rows refer to, one after the other
--     services-some, ..          the methods of services, by their nodes
--     ends-nowhere, end-below, ..   the end of a chain, by the table of alias ends
use mathlib.Core.Path.{◌≡◌, refl, sym, ap, subst, ◌∙◌}
use mathlib.Core.List.{List, [], ◌∷◌}
use Prim.Native.Nat.{ℕ, suc, ◌+◌, ◌-◌, ◌≤◌, ◌<◌}
use native.Mathlib.Numerals.{add-one}
use native.Mathlib.Omega.{arith}
use borrow.Author.Tests.{eq-eqb, ne_eqb}
use lib.ListN.{length, get_or, drop, drop_of_length-le}
use lib.Seq.{drop-cons}
use Rattle.std.specs.Prelude.{Option, Some, None, IfSome}
use Rattle.format.specs.Forest.{Forest, end, beside}
use Rattle.format.specs.Node.{Node}
use Rattle.format.specs.Book.{Definition}
use Rattle.format.specs.Encode.{Row}
use Rattle.format.specs.Layout.{row_at, run, siblings}
use Rattle.format.specs.Whole.{Whole, Within, WholeAt, WholeIn, tree_at}
use Rattle.format.proofs.References.{vars_of}
use Rattle.format.proofs.Rows.{kids-whole, node-within}
use Rattle.format.proofs.Stored.{tree-whole}
use Rattle.book.specs.declared.walks.Siblings.{Siblings}
use Rattle.book.specs.declared.read.Node as read
use Rattle.book.specs.Walks.{Over, NextTree}
use Rattle.book.proofs.Walking.{at, size}
use Rattle.book.specs.Tables.{blank_table, zero_table}
use Rattle.book.proofs.Blank.{blank-length, blank-at}
use Rattle.environment.specs.Trees.{Trees, AllTrees}
use Rattle.syntax.specs.Interfaces.{methods_in}
use Rattle.syntax.proofs.Stored.{tree-kids}
use Rattle.environment.proofs.Trees.{node-trees, node-some, no-ends}
use Rattle.listing.proofs.Leaves.{Leafy, fits-leafy}
use Rattle.judgement.specs.Aliases.{End, unbound, circle, ends, alias_end}
use Rattle.environment.specs.Tables.{Roots, EndAt, Chains, Ended, end_node}
use Rattle.environment.proofs.ChainEnds.{served-at, end-whole, end-at, end-inside}
use Rattle.environment.specs.declared.scope.BookScope.{BookScope}
use Rattle.analysis.specs.Entries.{OfferIn}

-- All nodes of a book, and a table of roots.
pub record Rooted (ns roots : List ℕ) : Type 0 where
  pub names : ℕ
  pub count : ℕ
  pub all : AllTrees ns names count
  pub bound : Roots roots count

-- The trees from node `from` up to node `until` are trees of that book.
pub record Readable (ns roots : List ℕ) (from until : ℕ) : Type 0 where
  pub rooted : Rooted ns roots
  pub whole : Whole ns from until
  pub inside : until ≤ rooted.count

-- A scope has them.
abbrev pub rooted : (b : BookScope) → Rooted b.scope.rows.now b.scope.roots.now
rooted b = record { names = b.scope.names; count = b.scope.nodes; all = b.trees; bound = b.scope.bound }

abbrev pub readable : (b : BookScope) {from until : ℕ} → Whole b.scope.rows.now from until → until ≤ b.scope.nodes → Readable b.scope.rows.now b.scope.roots.now from until
readable b w h = record { rooted = rooted b; whole = w; inside = h }

abbrev pub untabled : {ns : List ℕ} {names count : ℕ} → AllTrees ns names count → Rooted ns blank_table
untabled {names = names} {count = count} a =
    record { names = names; count = count; all = a; bound = record { long = blank-length; node = λ n h. absurd (h (blank-at n)) } }

module _ {ns roots : List ℕ} (b : Rooted ns roots) {n : ℕ} (h : n < b.count) where
  here-in : WholeIn ns n b.count
  here-in = b.all.nodes.tree n h

  pub here-whole : WholeAt ns n
  here-whole = here-in.whole

  pub here-within : Within ns (n + 1)
  here-within = node-within here-whole

  -- the tree of a book needs no table of alias ends: one that has nothing stands for it
  pub here-trees : Trees ns roots zero_table n (n + (row_at ns n).size)
  here-trees = node-trees b.all b.bound (no-ends b.count zero_table refl) h

  pub here-some : n < n + (row_at ns n).size
  here-some = node-some b.all b.bound (no-ends b.count zero_table refl) h

  pub here-leafy : Leafy (tree_at ns n)
  here-leafy = let t = here-trees in fits-leafy t.walk.names t.place (tree_at ns n) t.fits

  module _ {size : ℕ} (is : size ≡ (row_at ns n).size) where
    pub here-ends : n + size ≤ b.count
    here-ends = rw is here-in.ends

    pub here-small : n + size ≤ 4096
    here-small = omega (arith, here-ends, b.all.nodes.few_nodes)

    abbrev pub here-readable : Readable ns roots n (n + size)
    here-readable = record { rooted = b; whole = rw is (tree-whole here-whole); inside = here-ends }

    abbrev pub kids-readable : Readable ns roots (n + 1) (n + size)
    kids-readable = record { rooted = b; whole = rw is (kids-whole here-whole); inside = here-ends }

-- ---- The names of rows
abbrev pub row_names : List ℕ → ℕ → ℕ → List ℕ
row_names ns i e = vars_of (run (row_at ns) i (e - i))

module _ (ns : List ℕ) (i e : ℕ) where
  pub names-none : e ≤ i → row_names ns i e ≡ []
  unfolding vars_of run
  names-none h = let z : e - i ≡ 0 = omega arith in rw z

  names-open : i < e → row_names ns i e ≡ vars_of (row_at ns i ∷ run (row_at ns) (i + 1) (e - (i + 1)))
  unfolding run
  names-open h =
      let z : e - i ≡ suc (e - (i + 1)) = omega arith in
      ap (λ (k : ℕ). vars_of (run (row_at ns) i k)) z ∙ ap (λ (m : ℕ). vars_of (row_at ns i ∷ run (row_at ns) m (e - (i + 1)))) (sym (add-one i))

  pub names-name : i < e → (row_at ns i).kind ≡ 18 → row_names ns i e ≡ (row_at ns i).value ∷ row_names ns (i + 1) e
  unfolding vars_of
  names-name h k = names-open h ∙ rw (eq-eqb (row_at ns i).kind 18 k)

  pub names-other : i < e → ((row_at ns i).kind ≡ 18 → ⊥) → row_names ns i e ≡ row_names ns (i + 1) e
  unfolding vars_of
  names-other h k = names-open h ∙ rw (ne_eqb (row_at ns i).kind 18 k)

-- ---- The methods of services, one service after the other
module _ (ns services : List ℕ) {k : ℕ} where
  pub services-none : length services ≤ k → methods_in ns (drop k services) ≡ end
  unfolding methods_in
  services-none h = ap (methods_in ns) (drop_of_length-le services {i = k} h)

  pub services-some : k < length services → WholeAt ns (get_or services k 0) → {r : Row} → r ≡ row_at ns (get_or services k 0) →
      methods_in ns (drop k services) ≡ beside (siblings ns (get_or services k 0 + 1) (get_or services k 0 + r.size)) (methods_in ns (drop (k + 1) services))
  unfolding methods_in
  services-some h w is =
      let s : ℕ = get_or services k 0 in
      ap (methods_in ns) (drop-cons services k 0 h ∙ ap (λ (j : ℕ). s ∷ drop j services) (sym (add-one k)))
      ∙ ap (λ (f : Forest Node). beside f (methods_in ns (drop (k + 1) services))) (tree-kids w ∙ ap (λ (z : Row). siblings ns (s + 1) (s + z.size)) (sym is))

-- the service of an interface
abbrev pub offer-ended : {ns ends' services : List ℕ} {nodes from until : ℕ} (x : OfferIn ns ends' nodes from until services) {k : ℕ} → k < length services → Ended ns ends' (get_or services k 0)
offer-ended {nodes = nodes} x {k} h = record { names = x.names; count = nodes; nodes = x.book; table = x.table; inside = x.service k h }

-- ---- Where a chain ends
module _ (ns : List ℕ) where
  pub ends-nowhere : (x : End) → EndAt ns None x → (n : ℕ) × (x ≡ unbound n)
  ends-nowhere (unbound n) q = (n, refl)
  ends-nowhere circle q = absurd q
  ends-nowhere (ends t) q = let z = q.1 in cc

  pub ends-there : (e : ℕ) (x : End) → EndAt ns (Some e) x → x ≡ ends (tree_at ns e)
  ends-there e (unbound n) q = cc
  ends-there e circle q = absurd q
  ends-there e (ends t) q = let z = q.1 in let n : q.0 ≡ e = cc in ap ends (q.2 ∙ ap (tree_at ns) n)

-- by the table of alias ends, of the chain from a node
module _ {ns ends' : List ℕ} {service : ℕ} (s : Ended ns ends' service) {node : ℕ} (h : node < s.count) {e : Option ℕ} (is : e ≡ end_node ns ends' node) where
  end-all : (P : ℕ → Type 0) → ((f : ℕ) → Some f ≡ end_node ns ends' node → P f) → IfSome e P
  end-all P p = go e is
    where
      go : (o : Option ℕ) → o ≡ end_node ns ends' node → IfSome o P
      go None z = tt
      go (Some f) z = p f z

  pub end-whole-at : IfSome e (λ f. WholeAt ns f)
  end-whole-at = end-all (WholeAt ns) (λ f z. end-whole (served-at s node h) z)

  pub end-below : {n : ℕ} → s.count ≤ n → IfSome e (λ f. f < n)
  unfolding served-at
  end-below {n} u = end-all (λ f. f < n) (λ f z. omega (arith, end-inside (served-at s node h) z))

  pub end-reached : (ds : List Definition) → Chains ns ends' s.names ds → EndAt ns e (alias_end ds (tree_at ns node))
  unfolding served-at
  end-reached ds c = subst (λ (z : Option ℕ). EndAt ns z (alias_end ds (tree_at ns node))) (sym is) (end-at (served-at s node h) ds c)

-- ---- A walk over sibling trees goes on to the node after the one that it gave
pub next-at : {ns : List ℕ} {e : ℕ} {s : Siblings} → Over ns e s → {n : ℕ} {node : read.Node} {t : Siblings} → NextTree s n node t → t.at ≡ s.at + node.size
next-at {s = s} o x = at o x ∙ ap (λ (n : ℕ). s.at + n) (sym (size o x))
