-- The positions of the methods whose functions pass a test, by rows and the table of alias ends: `is_used_at`, `add_methods` and `methods`. Assumes
-- nothing.
--     end-none, end-func, end-other             the function at a chain's end, if one stands there
--     by-beside                                 methods of two services
--     methods-start, methods-on, methods-end    the methods of a service
--     services-start, services-on, services-end the services
use mathlib.Core.Path.{◌≡◌, refl, sym, ap, ap₂, subst, ◌∙◌}
use mathlib.Core.Bool.{Bool, true, false, cond, ◌&&◌}
use mathlib.Core.List.{List, [], ◌∷◌, ◌++◌, append_assoc}
use Prim.Native.Nat.{ℕ, suc, ◌+◌, ◌≤◌, ◌<◌}
use native.Mathlib.Nat.{add-zero}
use native.Mathlib.Numerals.{add-one}
use native.Mathlib.Omega.{arith}
use borrow.Author.Tests.{eq-eqb, ne_eqb}
use lib.Dec.{eqb, ltb}
use lib.ListN.{length, get_or, drop, length-append}
use Rattle.std.proofs.Common.{append-nil}
use Rattle.std.specs.Prelude.{Option, Some, None, IfSome}
use Rattle.format.specs.Forest.{Forest, end, tree, breadth, beside}
use Rattle.format.specs.Node.{Node, Kind}
use Rattle.format.specs.Book.{Definition}
use Rattle.format.specs.Encode.{Row}
use Rattle.format.specs.Layout.{row_at, siblings, node_of, kind_of, kinds}
use Rattle.format.specs.Whole.{Whole, WholeAt, tree_at}
use Rattle.format.proofs.Trees.{breadth-beside}
use Rattle.format.proofs.References.{kind-alone}
use Rattle.format.proofs.Rows.{Opened, opens, kids-whole, siblings-none, siblings-opens}
use Rattle.format.proofs.Stored.{tree-opens}
use Rattle.judgement.specs.Environment.{is_func_kind}
use Rattle.judgement.specs.Aliases.{ends, alias_end}
use Rattle.environment.specs.Tables.{EndAt, end_node}
use Rattle.syntax.specs.Interfaces.{methods_in}
use Rattle.book.specs.declared.walks.Siblings.{Siblings}
use Rattle.book.specs.declared.read.Node as read
use Rattle.book.specs.Reading.{as_row}
use Rattle.book.specs.Walks.{Over, NextTree}
use Rattle.book.proofs.Walking as walks
use Rattle.analysis.specs.Entries.{Test, hit, EndTested, Served, Offered}
use Rattle.analysis.specs.Methods.{end_passes, positions_by}
use Rattle.analysis.proofs.BookNodes.{next-at, services-none, services-some, ends-nowhere, ends-there}
use Rattle.analysis.proofs.def_use.Methods.{end-tested, offered-service}

-- ---- The end of a chain
pub end-none : (ns : List ℕ) {o : Option ℕ} → o ≡ None → {near : List ℕ} (x : EndTested ns near o) → false ≡ end_passes x.used x.reached
unfolding end_passes
end-none ns z x = sym (ap (end_passes x.used) (ends-nowhere ns x.reached (subst (λ (q : Option ℕ). EndAt ns q x.reached) z x.is)).1)

passes-kind : (k v : ℕ) (b : Bool) → is_func_kind (kind_of k v) && b ≡ cond (eqb k 23) b false
unfolding is_func_kind kinds
passes-kind k v b = kind-alone (λ (κ : Kind). is_func_kind κ && b) false b 23 v (omega arith) refl refl k

module _ {ns near : List ℕ} {o : Option ℕ} {f : ℕ} (z : o ≡ Some f) (h : IfSome o (λ f. WholeAt ns f)) (r : Row) (is : r ≡ row_at ns f) (x : EndTested ns near o) where
  here : WholeAt ns f
  here = subst (λ (q : Option ℕ). IfSome q (λ f. WholeAt ns f)) z h

  -- the tree there is tested as a whole
  passes-node : (t : Forest Node) {n : Node} {kids : Forest Node} → t ≡ tree n kids end → end_passes x.used (ends t) ≡ is_func_kind n.kind && x.used t
  unfolding end_passes
  passes-node t e = rw e refl

  passes-is : end_passes x.used x.reached ≡ cond (eqb (row_at ns f).kind 23) (hit near f (f + (row_at ns f).size)) false
  unfolding node_of
  passes-is =
      let t = tree_at ns f in
      let some = here.one in
      ap (end_passes x.used) (ends-there ns f x.reached (subst (λ (q : Option ℕ). EndAt ns q x.reached) z x.is))
      ∙ passes-node t (tree-opens here)
      ∙ passes-kind (row_at ns f).kind (row_at ns f).value (x.used t)
      ∙ ap (λ (b : Bool). cond (eqb (row_at ns f).kind 23) b false) ((x.hits f z).agrees f (omega arith) (omega arith))

  pub end-func : r.kind ≡ 23 → ltb (get_or near f 0) (f + r.size) ≡ end_passes x.used x.reached
  unfolding hit
  end-func k = rw (passes-is, is, eq-eqb (row_at ns f).kind 23 (sym (ap (λ (q : Row). q.kind) is) ∙ k)) refl

  pub end-other : (r.kind ≡ 23 → ⊥) → eqb r.kind 23 ≡ end_passes x.used x.reached
  end-other k = rw (passes-is, is, ne_eqb (row_at ns f).kind 23 (λ q. k (ap (λ (q : Row). q.kind) is ∙ q))) refl

-- ---- The positions of methods
module _ (used : Test) (ds : List Definition) where
  by-none : (m : ℕ) (ns : List ℕ) (i until : ℕ) → until ≤ i → positions_by used ds m (siblings ns i until) ≡ []
  unfolding positions_by
  by-none m ns i until h = ap (positions_by used ds m) (siblings-none ns i until h)

  -- that of the first method, or none
  abbrev own : Bool → ℕ → List ℕ
  own b m = cond b (m ∷ []) []

  by-first : (b : Bool) (m : ℕ) (l : List ℕ) → cond b (m ∷ l) l ≡ own b m ++ l
  by-first true m l = refl
  by-first false m l = refl

  by-open : (m : ℕ) {ns : List ℕ} {i until : ℕ} → Opened ns i until →
      positions_by used ds m (siblings ns i until) ≡ own (end_passes used (alias_end ds (tree_at ns i))) m ++ positions_by used ds (m + 1) (siblings ns (i + (row_at ns i).size) until)
  unfolding positions_by
  by-open m {ns} {i} {until} o =
      let rest = siblings ns (i + (row_at ns i).size) until in
      ap (positions_by used ds m) (siblings-opens o)
      ∙ by-first _ m (positions_by used ds (suc m) rest)
      ∙ ap₂ (λ (t : Forest Node) (j : ℕ). own (end_passes used (alias_end ds t)) m ++ positions_by used ds j rest) (sym (tree-opens o.here)) (sym (add-one m))

  by-beside : (m : ℕ) (f g : Forest Node) → positions_by used ds m (beside f g) ≡ positions_by used ds m f ++ positions_by used ds (m + breadth f) g
  unfolding positions_by beside breadth
  by-beside m end g = ap (λ (j : ℕ). positions_by used ds j g) (sym (add-zero m))
  by-beside m (tree n k f) g =
      let b = end_passes used (alias_end ds (tree n k end)) in
      let on : suc m + breadth f ≡ m + suc (breadth f) = omega arith in
      let front = positions_by used ds (suc m) f in
      let back = positions_by used ds (m + suc (breadth f)) g in
      by-first b m (positions_by used ds (suc m) (beside f g))
      ∙ ap (λ (l : List ℕ). own b m ++ l) (by-beside (suc m) f g ∙ ap (λ (j : ℕ). front ++ positions_by used ds j g) on)
      ∙ sym (append_assoc (own b m) front back)
      ∙ ap (λ (l : List ℕ). l ++ back) (sym (by-first b m front))

-- ---- The loop of `add_methods`, at node i and position m: what is left to add completes all
pub record MethodsLeft (ns ends' near : List ℕ) (service until first : ℕ) (old mid : List ℕ) (i m : ℕ) : Type 0 where
  pub trees : Whole ns i until
  pub position : m + breadth (siblings ns i until) ≡ first + breadth (siblings ns (service + 1) until)
  pub few : length mid ≤ m
  pub left : (x : Served ns ends' near service) → until ≤ x.ended.count →
      mid ++ positions_by x.used x.definitions m (siblings ns i until) ≡ old ++ positions_by x.used x.definitions first (siblings ns (service + 1) until)

pub methods-start : {ns : List ℕ} {service first : ℕ} {old : List ℕ} (ends' near : List ℕ) → WholeAt ns service → length old ≤ first → {i : ℕ} → i ≡ service + 1 →
    MethodsLeft ns ends' near service (service + (row_at ns service).size) first old old i first
methods-start {ns} {service} {first} {old} ends' near w few {i} is =
    subst (λ (j : ℕ). MethodsLeft ns ends' near service (service + (row_at ns service).size) first old old j first) (sym is)
    record { trees = kids-whole w; position = refl; few = few; left = λ x h. refl }

module _ {ns ends' near : List ℕ} {service until first : ℕ} {old mid : List ℕ} {i m : ℕ} (l : MethodsLeft ns ends' near service until first old mid i m) where
  module _ (h : until ≤ i) where
    pub methods-counted : m ≡ first + breadth (siblings ns (service + 1) until)
    unfolding breadth
    methods-counted = sym (add-zero m) ∙ ap (λ (f : Forest Node). m + breadth f) (sym (siblings-none ns i until h)) ∙ l.position

    pub methods-end : (x : Served ns ends' near service) → until ≤ x.ended.count → mid ≡ old ++ positions_by x.used x.definitions first (siblings ns (service + 1) until)
    methods-end x u =
        sym (append-nil mid) ∙ ap (λ (k : List ℕ). mid ++ k) (sym (by-none x.used x.definitions m ns i until h)) ∙ l.left x u

  module _ (h : i < until) where
    method-here : Opened ns i until
    method-here = opens l.trees h

    one-more : breadth (siblings ns i until) ≡ suc (breadth (siblings ns (i + (row_at ns i).size) until))
    unfolding breadth
    one-more = ap breadth (siblings-opens method-here)

    -- there is room for its position
    pub method-room : m < first + breadth (siblings ns (service + 1) until)
    method-room = omega (arith, l.position, one-more)

    module _ (q : Row) (is : q ≡ row_at ns i) where
      methods-step : (e : Option ℕ) → e ≡ end_node ns ends' i → (b : Bool) → ((x : EndTested ns near e) → b ≡ end_passes x.used x.reached) → {mid' : List ℕ} → mid' ≡ mid ++ cond b (m ∷ []) [] →
          MethodsLeft ns ends' near service until first old mid' (i + q.size) (m + 1)
      methods-step e ends_at b says {mid'} put =
          record {
            trees = rw is method-here.rest;
            position = rw is (omega (arith, l.position, one-more));
            few = omega (arith, l.few, ap length put, length-append mid (cond b (m ∷ []) []), short b);
            left = λ x u.
                let rest = positions_by x.used x.definitions (m + 1) (siblings ns (i + (row_at ns i).size) until) in
                let same : b ≡ end_passes x.used (alias_end x.definitions (tree_at ns i)) = says (end-tested x (omega arith) ends_at) in
                rw is
                (ap (λ (k : List ℕ). k ++ rest) put
                ∙ append_assoc mid (cond b (m ∷ []) []) rest
                ∙ ap (λ (c : Bool). mid ++ (cond c (m ∷ []) [] ++ rest)) same
                ∙ ap (λ (k : List ℕ). mid ++ k) (sym (by-open x.used x.definitions m method-here))
                ∙ l.left x u);
          }
        where
          short : (b : Bool) → length (cond b (m ∷ []) []) ≤ 1
          short true = omega arith
          short false = omega arith

-- the walk has given a method
module _ {ns ends' near : List ℕ} {service until first : ℕ} {old mid : List ℕ} {s : Siblings} {m : ℕ} (o : Over ns until s) (l : MethodsLeft ns ends' near service until first old mid s.at m)
    {i : ℕ} {node : read.Node} {t : Siblings} (x : NextTree s i node t) where
  pub methods-on : {e : Option ℕ} → e ≡ end_node ns ends' i → (b : Bool) → ((x : EndTested ns near e) → b ≡ end_passes x.used x.reached) → {mid' : List ℕ} → mid' ≡ mid ++ cond b (m ∷ []) [] →
      MethodsLeft ns ends' near service until first old mid' t.at (m + 1)
  methods-on {e} ends_at b says {mid'} put =
      subst (λ (n : ℕ). MethodsLeft ns ends' near service until first old mid' n (m + 1)) (sym (next-at o x))
      (methods-step l (walks.here o x) (as_row node) (walks.row o x) e (ends_at ∙ ap (end_node ns ends') x.place) b says put)

-- ---- The loop of `methods`, at service s: the methods before position m are done
pub record ServicesLeft (ns ends' near services : List ℕ) (from until : ℕ) (mid : List ℕ) (m s : ℕ) : Type 0 where
  pub passed : s ≤ length services
  pub position : m + breadth (methods_in ns (drop s services)) ≡ breadth (methods_in ns services)
  pub few : length mid ≤ m
  pub left : (x : Offered ns ends' near from until services) →
      mid ++ positions_by x.used x.definitions m (methods_in ns (drop s services)) ≡ positions_by x.used x.definitions 0 (methods_in ns services)

pub services-start : (ns ends' near services : List ℕ) (from until : ℕ) {mid : List ℕ} → mid ≡ [] → ServicesLeft ns ends' near services from until mid 0 0
services-start ns ends' near services from until {mid} e =
    subst (λ (l : List ℕ). ServicesLeft ns ends' near services from until l 0 0) (sym e)
    record { passed = omega arith; position = omega arith; few = omega arith; left = λ x. refl }

module _ {ns ends' near services : List ℕ} {from until : ℕ} {mid : List ℕ} {m s : ℕ} (l : ServicesLeft ns ends' near services from until mid m s) where
  -- for a caller's own list of services
  pub services-end : length services ≤ s → {own : List ℕ} → services ≡ own → (x : Offered ns ends' near from until own) → mid ≡ positions_by x.used x.definitions 0 (methods_in ns own)
  unfolding positions_by
  services-end h e = subst (λ (k : List ℕ). (x : Offered ns ends' near from until k) → mid ≡ positions_by x.used x.definitions 0 (methods_in ns k)) e all
    where
      all : (x : Offered ns ends' near from until services) → mid ≡ positions_by x.used x.definitions 0 (methods_in ns services)
      all x =
          sym (append-nil mid)
          ∙ ap (λ (f : Forest Node). mid ++ positions_by x.used x.definitions m f) (sym (services-none ns services h))
          ∙ l.left x

  module _ (h : s < length services) (w : WholeAt ns (get_or services s 0)) where
    abbrev under : Forest Node
    under = siblings ns (get_or services s 0 + 1) (get_or services s 0 + (row_at ns (get_or services s 0)).size)

    abbrev following : Forest Node
    following = methods_in ns (drop (s + 1) services)

    opened : methods_in ns (drop s services) ≡ beside under following
    opened = services-some ns services h w refl

    pub service-room : m + breadth under ≤ breadth (methods_in ns services)
    service-room = omega (arith, l.position, ap breadth opened, breadth-beside under following)

    pub services-on : {m' : ℕ} {mid' : List ℕ} → m' ≡ m + breadth under → length mid' ≤ m' →
        ((x : Served ns ends' near (get_or services s 0)) → mid' ≡ mid ++ positions_by x.used x.definitions m under) →
        ServicesLeft ns ends' near services from until mid' m' (s + 1)
    services-on {m'} {mid'} position few adds =
        record {
          passed = omega arith;
          position = omega (arith, l.position, position, ap breadth opened, breadth-beside under following);
          few = few;
          left = λ x.
              let front = positions_by x.used x.definitions m under in
              let back : ℕ → List ℕ = λ j. positions_by x.used x.definitions j following in
              ap (λ (k : List ℕ). k ++ back m') (adds (offered-service x h))
              ∙ append_assoc mid front (back m')
              ∙ ap (λ (j : ℕ). mid ++ (front ++ back j)) position
              ∙ ap (λ (k : List ℕ). mid ++ k) (sym (by-beside x.used x.definitions m under following) ∙ ap (positions_by x.used x.definitions m) (sym opened))
              ∙ l.left x;
        }
