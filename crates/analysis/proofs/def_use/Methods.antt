-- The arguments and results of functions and of methods, by rows and the table of alias ends: `put_func`, `end_of`, `put_end`,
-- `put_methods` and `put_uses`. Assumes nothing.
use mathlib.Core.Path.{◌≡◌, refl, sym, ap, ap₂, subst, ◌∙◌}
use mathlib.Core.Bool.{cond}
use mathlib.Core.List.{List, [], ◌++◌, append_assoc}
use Prim.Native.Nat.{ℕ, zero, suc, ◌+◌, ◌*◌, ◌/◌, ◌%◌, ◌≤◌, ◌<◌}
use native.Mathlib.Nat.{add-zero}
use native.Mathlib.Numerals.{add-one}
use native.Mathlib.Decide.{dec_lt}
use native.Mathlib.Omega.{arith}
use borrow.Author.Tests.{eq-eqb, ne_eqb}
use lib.Dec.{eqb}
use lib.ListN.{length, get_or, drop}
use Rattle.std.specs.Prelude.{Option, Some, None, IfSome}
use Rattle.format.specs.Forest.{Forest, end, tree, breadth, beside, other_trees, after_trees}
use Rattle.format.specs.Node.{Node, Kind}
use Rattle.format.specs.Book.{Definition}
use Rattle.format.specs.Encode.{Row}
use Rattle.format.specs.Layout.{row_at, siblings, node_of, kind_of, kinds}
use Rattle.format.specs.Whole.{Whole, WholeAt, tree_at}
use Rattle.format.proofs.Trees.{beside-end, breadth-count, after-beside}
use Rattle.format.proofs.References.{kind-alone}
use Rattle.format.proofs.Rows.{Opened, opens, kids-whole, siblings-none, siblings-opens, count-siblings}
use Rattle.format.proofs.Stored.{tree-opens}
use Rattle.judgement.specs.Aliases.{End, ends, alias_end}
use Rattle.environment.specs.Tables.{EndAt, end_node}
use Rattle.syntax.specs.Interfaces.{methods_in}
use Rattle.syntax.proofs.Stored.{siblings-join}
use Rattle.refusals.specs.Handed.{Use}
use Rattle.listing.specs.Sites.{Site, class_sites, func_sites, kind_sites, end_sites, method_sites}
use Rattle.listing.specs.Offers.{first_trees, function_sites, indexed}
use Rattle.listing.proofs.Sites.{class-indexed, function-indexed}
use Rattle.analysis.specs.Entries.{Test, uses_by, Puts, AtMost, HitsIn, Tested, SkipsTo, EndTested, Served, Offered}
use Rattle.book.specs.declared.walks.Siblings.{Siblings}
use Rattle.book.specs.declared.read.Node as read
use Rattle.book.specs.Reading.{as_row}
use Rattle.book.specs.Walks.{Over, NextTree}
use Rattle.book.proofs.Walking as walks
use Rattle.analysis.proofs.BookNodes.{next-at, services-none, services-some, ends-nowhere, ends-there, end-reached, offer-ended}
use Rattle.environment.proofs.ChainEnds.{served-at, end-inside}
use Rattle.analysis.proofs.def_use.Entries.{puts-none, puts-long, puts-places, puts-then, Leads, leads-start, leads-on, leads-end, uses-none, uses-append}

-- ---- Parts
pub hits-in : {used : Test} {ns near : List ℕ} {from until i e : ℕ} → HitsIn used ns near from until → from ≤ i → e ≤ until → HitsIn used ns near i e
hits-in h l m = record { agrees = λ n a b. h.agrees n (omega arith) (omega arith) }

-- ---- A function: its first trees are arguments, and the others results
-- the first c trees: those before others, or all of them
first-beside : (f g : Forest Node) → first_trees (breadth f) (beside f g) ≡ f
unfolding first_trees breadth beside
first-beside end g = refl
first-beside (tree n k next) g = ap (tree n k) (first-beside next g)

first-all : (c : ℕ) (f : Forest Node) → breadth f ≤ c → (first_trees c f ≡ f) × (after_trees c f ≡ end)
unfolding first_trees after_trees other_trees breadth
first-all zero end h = (refl, refl)
first-all zero (tree n k next) h = absurd (omega arith)
first-all (suc c) end h = (refl, (first-all c end (omega arith)).1)
first-all (suc c) (tree n k next) h = let p = first-all c next (omega arith) in (ap (tree n k) p.0, p.1)

module _ (m : ℕ) where
  abbrev both : Forest Node → Forest Node → List Site
  both f g = indexed m 0 0 f ++ indexed m 1 0 g

  function-sites : {ns : List ℕ} {from until c at : ℕ} → SkipsTo ns from until c at → func_sites m c 0 (siblings ns from until) ≡ both (siblings ns from at) (siblings ns at until)
  function-sites {ns} {from} {until} {c} {at} s =
      ap (func_sites m c 0) (siblings-join s.before s.after) ∙ function-indexed m c (beside (siblings ns from at) (siblings ns at until)) ∙ go (dec_lt at until)
    where
      go : Dec (at < until) → function_sites m c (beside (siblings ns from at) (siblings ns at until)) ≡ both (siblings ns from at) (siblings ns at until)
      go (yes h) =
          let front = siblings ns from at in
          let rest = siblings ns at until in
          ap (λ (k : ℕ). function_sites m k (beside front rest)) (sym (s.enough h)) ∙ ap₂ both (first-beside front rest) (after-beside front rest)
      go (no h) =
          let p = first-all c (siblings ns from at) s.least in
          rw (siblings-none ns at until (omega arith), beside-end (siblings ns from at)) (ap₂ both p.0 p.1)

module _ {ns : List ℕ} {f : ℕ} (w : WholeAt ns f) (q : Row) (is : q ≡ row_at ns f) {results : ℕ}
    (s : SkipsTo ns (f + 1) (f + q.size) (q.value % 65536) results) where
  -- the test of the function is one of its arguments, and of its results
  module _ {near : List ℕ} (x : Tested ns near f (f + (row_at ns f).size)) where
    pub func-hits : HitsIn x.used ns near f (f + q.size)
    func-hits = subst (λ (z : Row). HitsIn x.used ns near f (f + z.size)) (sym is) x.hits

    abbrev pub func-first : Tested ns near (f + 1) results
    func-first = record { used = x.used; hits = hits-in func-hits (omega arith) s.after.ordered }

    abbrev pub func-then : Tested ns near results (f + q.size)
    func-then = record { used = x.used; hits = hits-in func-hits (omega (arith, s.before.ordered)) (omega arith) }

  pub func-puts : (near : List ℕ) (m k : ℕ) {at next : ℕ} {old mid new : List ℕ} →
      ((x : Tested ns near (f + 1) results) → Puts (length old / 3) k (uses_by x.used (indexed m 0 0 (siblings ns (f + 1) results))) old mid at) →
      ((x : Tested ns near results (f + q.size)) → Puts (length mid / 3) at (uses_by x.used (indexed m 1 0 (siblings ns results (f + q.size)))) mid new next) →
      (x : Tested ns near f (f + (row_at ns f).size)) →
      Puts (length old / 3) k (uses_by x.used (func_sites m ((row_at ns f).value % 65536) 0 (siblings ns (f + 1) (f + (row_at ns f).size)))) old new next
  func-puts near m k {at} {next} {old} {mid} {new} p r x =
      let used = x.used in
      let first = p (func-first x) in
      let arguments = indexed m 0 0 (siblings ns (f + 1) results) in
      let others = indexed m 1 0 (siblings ns results (f + q.size)) in
      let es : uses_by used arguments ++ uses_by used others ≡ uses_by used (func_sites m (q.value % 65536) 0 (siblings ns (f + 1) (f + q.size))) =
      sym (ap (uses_by used) (function-sites m s) ∙ uses-append used arguments others) in
      subst (λ (z : Row). Puts (length old / 3) k (uses_by used (func_sites m (z.value % 65536) 0 (siblings ns (f + 1) (f + z.size)))) old new next) is
      (subst (λ (l : List Use). Puts (length old / 3) k l old new next) es
      (puts-then first (puts-places _ _ (puts-long first) (r (func-then x)))))

-- ---- The sites at a chain's end
kind-sites : (m k v : ℕ) (kids : Forest Node) → kind_sites m (kind_of k v) kids ≡ cond (eqb k 23) (func_sites m (v % 65536) 0 kids) []
unfolding kind_sites kinds
kind-sites m k v kids = kind-alone (λ (κ : Kind). kind_sites m κ kids) [] (func_sites m (v % 65536) 0 kids) 23 v (omega arith) refl refl k

node-sites : (m : ℕ) {ns : List ℕ} {e : ℕ} → WholeAt ns e →
    end_sites m (ends (tree_at ns e)) ≡ cond (eqb (row_at ns e).kind 23) (func_sites m ((row_at ns e).value % 65536) 0 (siblings ns (e + 1) (e + (row_at ns e).size))) []
unfolding end_sites node_of
node-sites m {ns} {e} w = rw (tree-opens w) (kind-sites m (row_at ns e).kind (row_at ns e).value (siblings ns (e + 1) (e + (row_at ns e).size)))

module _ (ns : List ℕ) (m : ℕ) where
  end-none : (x : End) → EndAt ns None x → end_sites m x ≡ []
  unfolding end_sites
  end-none x q = ap (end_sites m) (ends-nowhere ns x q).1

  module _ (places k : ℕ) (old : List ℕ) where
    pub end-puts-none : {e : Option ℕ} → e ≡ None → {near : List ℕ} (x : EndTested ns near e) → Puts places k (uses_by x.used (end_sites m x.reached)) old old k
    end-puts-none z x = rw (end-none x.reached (subst (λ (o : Option ℕ). EndAt ns o x.reached) z x.is), uses-none x.used) (puts-none places k old)

    module _ {o : Option ℕ} {e : ℕ} (z : o ≡ Some e) (h : IfSome o (λ f. WholeAt ns f)) (r : Row) (is : r ≡ row_at ns e) where
      whole-here : WholeAt ns e
      whole-here = subst (λ (q : Option ℕ). IfSome q (λ f. WholeAt ns f)) z h

      reaches : {near : List ℕ} (x : EndTested ns near o) → x.reached ≡ ends (tree_at ns e)
      reaches x = ends-there ns e x.reached (subst (λ (q : Option ℕ). EndAt ns q x.reached) z x.is)

      pub end-puts-other : (r.kind ≡ 23 → ⊥) → {near : List ℕ} (x : EndTested ns near o) → Puts places k (uses_by x.used (end_sites m x.reached)) old old k
      end-puts-other n x =
          let k' : (row_at ns e).kind ≡ 23 → ⊥ = λ h. n (ap (λ (z : Row). z.kind) is ∙ h) in
          rw (reaches x, node-sites m whole-here, ne_eqb (row_at ns e).kind 23 k', uses-none x.used) (puts-none places k old)

      pub end-puts : {near new : List ℕ} {next : ℕ} → r.kind ≡ 23 →
          ((x : Tested ns near e (e + (row_at ns e).size)) → Puts places k (uses_by x.used (func_sites m ((row_at ns e).value % 65536) 0 (siblings ns (e + 1) (e + (row_at ns e).size)))) old new next) →
          (x : EndTested ns near o) → Puts places k (uses_by x.used (end_sites m x.reached)) old new next
      end-puts n p x =
          rw (reaches x, node-sites m whole-here, eq-eqb (row_at ns e).kind 23 (sym (ap (λ (z : Row). z.kind) is) ∙ n)) (p record { used = x.used; hits = x.hits e z })

-- ---- At the end of a chain
module _ {ns ends' near : List ℕ} {service : ℕ} (x : Served ns ends' near service) {node : ℕ} (h : node < x.ended.count) {e : Option ℕ} (is : e ≡ end_node ns ends' node) where
  pub end-hits : (f : ℕ) → e ≡ Some f → HitsIn x.used ns near f (f + (row_at ns f).size)
  unfolding served-at
  end-hits f z = hits-in x.known.hits (omega arith) (x.ended.nodes.tree f (end-inside (served-at x.ended node h) (sym z ∙ is))).ends

  abbrev pub end-tested : EndTested ns near e
  end-tested = record { reached = alias_end x.definitions (tree_at ns node); is = end-reached x.ended h is x.definitions x.known.chains; used = x.used; hits = end-hits }

-- ---- The sites of methods
module _ (ds : List Definition) where
  methods-none : (m : ℕ) (ns : List ℕ) (i until : ℕ) → until ≤ i → method_sites ds m (siblings ns i until) ≡ []
  unfolding method_sites
  methods-none m ns i until h = ap (method_sites ds m) (siblings-none ns i until h)

  methods-open : (m : ℕ) {ns : List ℕ} {i until : ℕ} → Opened ns i until →
      method_sites ds m (siblings ns i until) ≡ end_sites m (alias_end ds (tree_at ns i)) ++ method_sites ds (m + 1) (siblings ns (i + (row_at ns i).size) until)
  unfolding method_sites
  methods-open m {ns} {i} {until} o =
      ap (method_sites ds m) (siblings-opens o)
      ∙ ap₂ (λ (t : Forest Node) (j : ℕ). end_sites m (alias_end ds t) ++ method_sites ds j (siblings ns (i + (row_at ns i).size) until)) (sym (tree-opens o.here)) (sym (add-one m))

  methods-beside : (m : ℕ) (f g : Forest Node) → method_sites ds m (beside f g) ≡ method_sites ds m f ++ method_sites ds (m + breadth f) g
  unfolding method_sites beside breadth
  methods-beside m end g = ap (λ (j : ℕ). method_sites ds j g) (sym (add-zero m))
  methods-beside m (tree n k f) g =
      let here = end_sites m (alias_end ds (tree n k end)) in
      let on : suc m + breadth f ≡ m + suc (breadth f) = omega arith in
      ap (λ (l : List Site). here ++ l) (methods-beside (suc m) f g ∙ ap (λ (j : ℕ). method_sites ds (suc m) f ++ method_sites ds j g) on)
      ∙ sym (append_assoc here (method_sites ds (suc m) f) (method_sites ds (m + suc (breadth f)) g))

-- ---- The loop of `put_methods`, at node i and position m
pub record MethodsLeft (ns ends' near : List ℕ) (service until first k : ℕ) (old mid : List ℕ) (i m at : ℕ) : Type 0 where
  pub trees : Whole ns i until
  pub later : service + 1 + m ≤ i + first
  pub few : at + 4096 * (service + 1) ≤ k + 4096 * i
  pub long : length mid ≡ length old
  pub position : m + breadth (siblings ns i until) ≡ first + breadth (siblings ns (service + 1) until)
  pub left : (x : Served ns ends' near service) → until ≤ x.ended.count →
      Leads (length old / 3) k old (uses_by x.used (method_sites x.definitions first (siblings ns (service + 1) until))) at mid (uses_by x.used (method_sites x.definitions m (siblings ns i until)))

pub methods-start : {ns : List ℕ} {service : ℕ} (ends' near : List ℕ) (first k : ℕ) (old : List ℕ) → WholeAt ns service → {i : ℕ} → i ≡ service + 1 →
    MethodsLeft ns ends' near service (service + (row_at ns service).size) first k old old i first k
methods-start {ns} {service} ends' near first k old w {i} is =
    subst (λ (j : ℕ). MethodsLeft ns ends' near service (service + (row_at ns service).size) first k old old j first k) (sym is)
    record {
      trees = kids-whole w;
      later = omega arith;
      few = omega arith;
      long = refl;
      position = refl;
      left = λ x h. leads-start (length old / 3) k old (uses_by x.used (method_sites x.definitions first (siblings ns (service + 1) (service + (row_at ns service).size))));
    }

module _ {ns ends' near : List ℕ} {service until first k : ℕ} {old mid : List ℕ} {i m at : ℕ} (l : MethodsLeft ns ends' near service until first k old mid i m at) where
  pub methods-few : until ≤ 4096
  methods-few = omega (arith, l.trees.within.held, l.trees.within.few)

  module _ (h : until ≤ i) where
    pub methods-counted : m ≡ first + breadth (siblings ns (service + 1) until)
    unfolding breadth
    methods-counted = sym (add-zero m) ∙ ap (λ (f : Forest Node). m + breadth f) (sym (siblings-none ns i until h)) ∙ l.position

    pub methods-puts : (x : Served ns ends' near service) → until ≤ x.ended.count →
        Puts (length old / 3) k (uses_by x.used (method_sites x.definitions first (siblings ns (service + 1) until))) old mid at
    methods-puts x u = leads-end (l.left x u) (ap (uses_by x.used) (methods-none x.definitions m ns i until h) ∙ uses-none x.used)

  module _ (h : i < until) where
    method-here : Opened ns i until
    method-here = opens l.trees h

    module _ (q : Row) (is : q ≡ row_at ns i) where
      method-next : (i < i + q.size) × (i + q.size ≤ until)
      method-next = rw is (omega (arith, method-here.here.one), method-here.rest.ordered)

      methods-step : (e : Option ℕ) → e ≡ end_node ns ends' i → {mid' : List ℕ} {at' : ℕ} → AtMost 4096 at mid mid' at' →
          ((x : EndTested ns near e) → Puts (length mid / 3) at (uses_by x.used (end_sites m x.reached)) mid mid' at') →
          MethodsLeft ns ends' near service until first k old mid' (i + q.size) (m + 1) at'
      unfolding breadth
      methods-step e ends_at {mid'} {at'} most p =
          let one = method-next.0 in
          record {
            trees = rw is method-here.rest;
            later = omega (arith, l.later, one);
            few = omega (arith, l.few, most.few, one);
            long = most.long ∙ l.long;
            position =
                rw is
                (let b : breadth (siblings ns i until) ≡ suc (breadth (siblings ns (i + (row_at ns i).size) until)) = ap breadth (siblings-opens method-here) in
                omega (arith, l.position, b));
            left = λ x u.
                let ds = x.definitions in
                let used = x.used in
                let own = end_sites m (alias_end ds (tree_at ns i)) in
                let rest = method_sites ds (m + 1) (siblings ns (i + (row_at ns i).size) until) in
                subst (λ (z : Row). Leads (length old / 3) k old (uses_by used (method_sites ds first (siblings ns (service + 1) until))) at' mid' (uses_by used (method_sites ds (m + 1) (siblings ns (i + z.size) until)))) (sym is)
                (leads-on (l.left x u) (uses_by used own) (uses_by used rest)
                (ap (uses_by used) (methods-open ds m method-here) ∙ uses-append used own rest)
                (puts-places _ _ l.long (p (end-tested x (omega arith) ends_at))));
          }

-- the walk has given a method, and its entries are put
module _ {ns ends' near : List ℕ} {service until first k : ℕ} {old mid : List ℕ} {s : Siblings} {m at : ℕ} (o : Over ns until s) (l : MethodsLeft ns ends' near service until first k old mid s.at m at)
    {i : ℕ} {node : read.Node} {t : Siblings} (x : NextTree s i node t) where
  pub methods-on : {e : Option ℕ} → e ≡ end_node ns ends' i → {mid' : List ℕ} {at' : ℕ} → AtMost 4096 at mid mid' at' →
      ((x : EndTested ns near e) → Puts (length mid / 3) at (uses_by x.used (end_sites m x.reached)) mid mid' at') →
      MethodsLeft ns ends' near service until first k old mid' t.at (m + 1) at'
  methods-on {e} ends_at {mid'} {at'} most p =
      subst (λ (n : ℕ). MethodsLeft ns ends' near service until first k old mid' n (m + 1) at') (sym (next-at o x))
      (methods-step l (walks.here o x) (as_row node) (walks.row o x) e (ends_at ∙ ap (end_node ns ends') x.place) most p)

-- ---- The loop of `put_uses`, at service s: the methods before position m are put
module _ {ns ends' near services : List ℕ} {from until : ℕ} (x : Offered ns ends' near from until services) where
  abbrev offered-arguments : Tested ns near from until
  offered-arguments = record { used = x.used; hits = hits-in x.known.hits (omega arith) x.offer.inside }

  abbrev pub offered-service : {s : ℕ} → s < length services → Served ns ends' near (get_or services s 0)
  offered-service h = record { ended = offer-ended x.offer h; definitions = x.definitions; used = x.used; known = x.known }

pub record ServicesLeft (ns ends' near services : List ℕ) (from until k : ℕ) (old mid : List ℕ) (at m s : ℕ) : Type 0 where
  pub passed : s ≤ length services
  pub position : m ≤ 4096 * s
  pub few : at ≤ k + 16777216 * s
  pub long : length mid ≡ length old
  pub left : (x : Offered ns ends' near from until services) →
      Leads (length old / 3) k old (uses_by x.used (method_sites x.definitions 0 (methods_in ns services))) at mid
      (uses_by x.used (method_sites x.definitions m (methods_in ns (drop s services))))

pub services-start : (ns ends' near services : List ℕ) (from until k : ℕ) (old : List ℕ) → ServicesLeft ns ends' near services from until k old old k 0 0
services-start ns ends' near services from until k old =
    record {
      passed = omega arith;
      position = omega arith;
      few = omega arith;
      long = refl;
      left = λ x. leads-start (length old / 3) k old (uses_by x.used (method_sites x.definitions 0 (methods_in ns services)));
    }

module _ {ns ends' near services : List ℕ} {from until k : ℕ} {old mid : List ℕ} {at m s : ℕ} (l : ServicesLeft ns ends' near services from until k old mid at m s) where
  services-end : length services ≤ s → (x : Offered ns ends' near from until services) →
      Puts (length old / 3) k (uses_by x.used (method_sites x.definitions 0 (methods_in ns services))) old mid at
  unfolding method_sites
  services-end h x =
      leads-end (l.left x) (ap (λ (f : Forest Node). uses_by x.used (method_sites x.definitions m f)) (services-none ns services h) ∙ uses-none x.used)

  module _ (h : s < length services) (w : WholeAt ns (get_or services s 0)) where
    few-methods : breadth (siblings ns (get_or services s 0 + 1) (get_or services s 0 + (row_at ns (get_or services s 0)).size)) ≤ 4096
    few-methods =
        let service = get_or services s 0 in
        let until = service + (row_at ns service).size in
        omega (arith, breadth-count (siblings ns (service + 1) until), count-siblings ns (service + 1) until, w.within.held, w.within.few)

    pub services-on : {m' at' : ℕ} {mid' : List ℕ} → m' ≡ m + breadth (siblings ns (get_or services s 0 + 1) (get_or services s 0 + (row_at ns (get_or services s 0)).size)) → AtMost 16777216 at mid mid' at' →
        ((x : Served ns ends' near (get_or services s 0)) →
        Puts (length mid / 3) at (uses_by x.used (method_sites x.definitions m (siblings ns (get_or services s 0 + 1) (get_or services s 0 + (row_at ns (get_or services s 0)).size)))) mid mid' at') →
        ServicesLeft ns ends' near services from until k old mid' at' m' (s + 1)
    services-on {m'} {at'} {mid'} position most p =
        let service = get_or services s 0 in
        let under = siblings ns (service + 1) (service + (row_at ns service).size) in
        record {
          passed = omega arith;
          position = omega (arith, l.position, position, few-methods);
          few = omega (arith, l.few, most.few);
          long = most.long ∙ l.long;
          left = λ x.
              let ds = x.definitions in
              let used = x.used in
              let own = method_sites ds m under in
              let rest = methods_in ns (drop (s + 1) services) in
              let opens : method_sites ds m (methods_in ns (drop s services)) ≡ own ++ method_sites ds m' rest =
              ap (method_sites ds m) (services-some ns services h w refl) ∙ methods-beside ds m under rest
              ∙ ap (λ (j : ℕ). own ++ method_sites ds j rest) (sym position) in
              leads-on (l.left x) (uses_by used own) (uses_by used (method_sites ds m' rest)) (ap (uses_by used) opens ∙ uses-append used own (method_sites ds m' rest))
              (puts-places _ _ l.long (p (offered-service x h)));
        }

  -- ---- and before them the class's arguments, for a caller's own list of services
  uses-all : length services ≤ s → {first : List ℕ} →
      ((x : Tested ns near from until) → Puts (length first / 3) 0 (uses_by x.used (indexed 65535 0 0 (siblings ns from until))) first old k) →
      (x : Offered ns ends' near from until services) →
      Puts (length first / 3) 0 (uses_by x.used (class_sites 0 (siblings ns from until) ++ method_sites x.definitions 0 (methods_in ns services))) first mid at
  uses-all h {first} p x =
      let used = x.used in
      let arguments = class_sites 0 (siblings ns from until) in
      let methods = method_sites x.definitions 0 (methods_in ns services) in
      let before = subst (λ (q : List Site). Puts (length first / 3) 0 (uses_by used q) first old k) (sym (class-indexed 0 (siblings ns from until))) (p (offered-arguments x)) in
      subst (λ (es : List Use). Puts (length first / 3) 0 es first mid at) (sym (uses-append used arguments methods))
      (puts-then before (puts-places _ _ (puts-long before) (services-end h x)))

  pub uses-end : length services ≤ s → {own : List ℕ} → services ≡ own → {first : List ℕ} →
      ((x : Tested ns near from until) → Puts (length first / 3) 0 (uses_by x.used (indexed 65535 0 0 (siblings ns from until))) first old k) →
      (x : Offered ns ends' near from until own) →
      Puts (length first / 3) 0 (uses_by x.used (class_sites 0 (siblings ns from until) ++ method_sites x.definitions 0 (methods_in ns own))) first mid at
  uses-end h {own} e {first} p =
      subst
      (λ (l : List ℕ). (x : Offered ns ends' near from until l) →
      Puts (length first / 3) 0 (uses_by x.used (class_sites 0 (siblings ns from until) ++ method_sites x.definitions 0 (methods_in ns l))) first mid at)
      e (uses-all h p)
