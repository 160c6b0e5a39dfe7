-- The names of methods, one after the other: `add_names` and `method_names`. Assumes nothing.
use mathlib.Core.Path.{◌≡◌, refl, sym, ap, ap₂, subst, ◌∙◌}
use mathlib.Core.List.{List, [], ◌∷◌, ◌++◌, append_assoc}
use Prim.Native.Nat.{ℕ, ◌+◌, ◌≤◌, ◌<◌}
use native.Mathlib.Omega.{arith}
use lib.ListN.{length, get_or, drop, length-append}
use Rattle.std.proofs.Common.{append-nil}
use Rattle.format.specs.Forest.{Forest, end, tree, breadth, beside}
use Rattle.format.specs.Node.{Node, label_value}
use Rattle.format.specs.Labels.{keys_of, method_names}
use Rattle.format.specs.Encode.{Row}
use Rattle.format.specs.Layout.{row_at, siblings}
use Rattle.format.proofs.Rows.{siblings-none, siblings-opens}
use Rattle.environment.specs.Trees.{Methods}
use Rattle.environment.proofs.Trees.{opened, method-label, rest-methods}
use Rattle.syntax.specs.Interfaces.{methods_in}
use Rattle.book.specs.declared.walks.Siblings.{Siblings}
use Rattle.book.specs.declared.read.Node as read
use Rattle.book.specs.Reading.{as_row}
use Rattle.book.specs.Walks.{Over, NextTree}
use Rattle.book.proofs.Walking as walks
use Rattle.listing.proofs.Methods.{names-long}
use Rattle.analysis.specs.Projecting.{Services}
use Rattle.analysis.proofs.BookNodes.{next-at, services-none, services-some}
use Rattle.analysis.proofs.project.Laws.{service-inside}

names-beside : (f g : Forest Node) → method_names (beside f g) ≡ method_names f ++ method_names g
unfolding keys_of beside
names-beside end g = refl
names-beside (tree n kids next) g = ap (λ (l : List ℕ). label_value n.label ∷ l) (names-beside next g)

-- ---- The loop of `add_names`, at node i: what is left to add completes all
pub record NamesLeft (ns : List ℕ) (from until : ℕ) (old mid : List ℕ) (i : ℕ) : Type 0 where
  pub roots : List ℕ
  pub ends' : List ℕ
  pub methods : Methods ns roots ends' i until
  pub left : mid ++ method_names (siblings ns i until) ≡ old ++ method_names (siblings ns from until)

pub names-start : {ns roots ends' : List ℕ} {from until : ℕ} {old : List ℕ} → Methods ns roots ends' from until → {i : ℕ} → i ≡ from → NamesLeft ns from until old old i
names-start {ns} {roots} {ends'} {from} {until} {old} m is =
    subst (NamesLeft ns from until old old) (sym is) record { roots = roots; ends' = ends'; methods = m; left = refl }

module _ {ns : List ℕ} {from until : ℕ} {old mid : List ℕ} {i : ℕ} (l : NamesLeft ns from until old mid i) where
  pub names-end : until ≤ i → mid ≡ old ++ method_names (siblings ns from until)
  unfolding keys_of
  names-end h = sym (append-nil mid) ∙ ap (λ (f : Forest Node). mid ++ method_names f) (sym (siblings-none ns i until h)) ∙ l.left

  module _ (h : i < until) (r : Row) (is : r ≡ row_at ns i) where
    named : r.label < 1024
    named = rw is (method-label l.methods.trees h l.methods.methods).0

    opens-name : method_names (siblings ns i until) ≡ r.label ∷ method_names (siblings ns (i + r.size) until)
    unfolding keys_of
    opens-name =
        ap method_names (siblings-opens (opened l.methods.trees h))
        ∙ ap₂ (λ (n e : ℕ). n ∷ method_names (siblings ns e until)) ((method-label l.methods.trees h l.methods.methods).1 ∙ ap (λ (z : Row). z.label) (sym is)) (ap (λ (z : Row). i + z.size) (sym is))

    room : length old + breadth (siblings ns from until) ≤ 4096 → length mid < 4096
    room few =
        let e = ap length (sym l.left) ∙ ap (λ (k : List ℕ). length (mid ++ k)) opens-name in
        omega (
          arith,
          e,
          length-append mid (r.label ∷ method_names (siblings ns (i + r.size) until)),
          length-append old (method_names (siblings ns from until)),
          names-long (siblings ns from until),
        )

    names-step : {mid' : List ℕ} → mid' ≡ mid ++ r.label ∷ [] → NamesLeft ns from until old mid' (i + r.size)
    names-step {mid'} put =
        record {
          roots = l.roots;
          ends' = l.ends';
          methods = subst (λ (z : Row). Methods ns l.roots l.ends' (i + z.size) until) (sym is) (rest-methods l.methods h);
          left =
              let rest = method_names (siblings ns (i + r.size) until) in
              ap (λ (k : List ℕ). k ++ rest) put ∙ append_assoc mid (r.label ∷ []) rest ∙ ap (λ (k : List ℕ). mid ++ k) (sym opens-name) ∙ l.left;
        }

-- the walk has given a method
module _ {ns : List ℕ} {from until : ℕ} {old mid : List ℕ} {s : Siblings} (o : Over ns until s) (l : NamesLeft ns from until old mid s.at) {i : ℕ} {node : read.Node} {t : Siblings} (x : NextTree s i node t) where
  pub name-small : node.label < 1024
  name-small = named l (walks.here o x) (as_row node) (walks.row o x)

  pub name-room : length old + breadth (siblings ns from until) ≤ 4096 → length mid < 4096
  name-room = room l (walks.here o x) (as_row node) (walks.row o x)

  pub names-on : {mid' : List ℕ} → mid' ≡ mid ++ node.label ∷ [] → NamesLeft ns from until old mid' t.at
  names-on {mid'} put = subst (NamesLeft ns from until old mid') (sym (next-at o x)) (names-step l (walks.here o x) (as_row node) (walks.row o x) put)

-- ---- The loop of `method_names`, at service s
pub record ServiceNames (ns services mid : List ℕ) (s : ℕ) : Type 0 where
  pub left : mid ++ method_names (methods_in ns (drop s services)) ≡ method_names (methods_in ns services)

pub service-names-start : (ns services : List ℕ) {mid : List ℕ} → mid ≡ [] → ServiceNames ns services mid 0
service-names-start ns services e = record { left = ap (λ (k : List ℕ). k ++ method_names (methods_in ns services)) e }

module _ {ns services mid : List ℕ} {s : ℕ} (l : ServiceNames ns services mid s) where
  pub service-names-end : length services ≤ s → mid ≡ method_names (methods_in ns services)
  unfolding keys_of
  service-names-end h = sym (append-nil mid) ∙ ap (λ (f : Forest Node). mid ++ method_names f) (sym (services-none ns services h)) ∙ l.left

  module _ (y : Services ns services) (h : s < length services) (r : Row) (is : r ≡ row_at ns (get_or services s 0)) where
    abbrev under : Forest Node
    under = siblings ns (get_or services s 0 + 1) (get_or services s 0 + r.size)

    abbrev following : Forest Node
    following = methods_in ns (drop (s + 1) services)

    opens-service : method_names (methods_in ns (drop s services)) ≡ method_names under ++ method_names following
    opens-service =
        ap method_names (services-some ns services h (y.all.nodes.tree (get_or services s 0) (service-inside y h)).whole is) ∙ names-beside under following

    pub service-names-room : breadth (methods_in ns services) ≤ 4096 → length mid + breadth under ≤ 4096
    service-names-room few =
        let e = ap length (sym l.left) ∙ ap (λ (k : List ℕ). length (mid ++ k)) opens-service in
        omega (
          arith,
          e,
          length-append mid (method_names under ++ method_names following),
          length-append (method_names under) (method_names following),
          names-long (methods_in ns services),
          names-long under,
        )

    pub service-names-on : {mid' : List ℕ} → mid' ≡ mid ++ method_names under → ServiceNames ns services mid' (s + 1)
    service-names-on put =
        record {
          left =
              ap (λ (k : List ℕ). k ++ method_names following) put ∙ append_assoc mid (method_names under) (method_names following)
              ∙ ap (λ (k : List ℕ). mid ++ k) (sym opens-service) ∙ l.left;
        }
