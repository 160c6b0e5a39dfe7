-- The methods of a service, for each node how many there are whose chains end at it: `count_methods`. Assumes nothing.
use mathlib.Core.Path.{◌≡◌, sym, ap, subst, ◌∙◌}
use mathlib.Core.List.{List}
use Prim.Native.Nat.{ℕ, ◌+◌, ◌≤◌, ◌<◌}
use native.Mathlib.Omega.{arith}
use lib.ListN.{length, get_or}
use Rattle.std.specs.Prelude.{Option, IfSome}
use Rattle.format.specs.Book.{Definition}
use Rattle.format.specs.Layout.{row_at, siblings}
use Rattle.format.specs.Whole.{Whole, tree_at}
use Rattle.format.proofs.Rows.{opens}
use Rattle.judgement.specs.Aliases.{alias_end}
use Rattle.environment.specs.Tables.{Chains, Ended, end_node}
use Rattle.book.specs.declared.walks.Siblings.{Siblings}
use Rattle.book.specs.declared.read.Node as read
use Rattle.book.specs.Walks.{Over, NextTree}
use Rattle.book.proofs.Walking as walks
use Rattle.analysis.specs.Reaching.{KeptFrom}
use Rattle.analysis.specs.Tallies.{Amount, of_method, method_tally, node_tally, weighed}
use Rattle.analysis.proofs.BookNodes.{end-below, end-reached}
use Rattle.analysis.proofs.use_counts.Types.{tally-none, tally-open}
use Rattle.analysis.proofs.use_counts.Weights.{raised, raised-length, raised-most, raised-kept, weighed-raised}

-- The node after the last method of a service.
abbrev after : List ℕ → ℕ → ℕ
after ns service = service + (row_at ns service).size

-- ---- The loop of `count_methods`, at node i
pub record MethodsLeft (ns ends' : List ℕ) (service : ℕ) (old mid : List ℕ) (i : ℕ) : Type 0 where
  pub trees : Whole ns i (after ns service)
  pub long : length mid ≡ 4096
  pub few : (f : ℕ) → get_or mid f 0 + (service + 1) ≤ get_or old f 0 + i
  pub kept : (x : Ended ns ends' service) → KeptFrom x.count old mid
  pub left : (x : Ended ns ends' service) (ds : List Definition) → Chains ns ends' x.names ds → (g : Amount) →
      weighed (node_tally ns) 0 mid g + method_tally g ds (siblings ns i (after ns service)) ≡ weighed (node_tally ns) 0 old g + method_tally g ds (siblings ns (service + 1) (after ns service))

module _ {ns ends' : List ℕ} {service : ℕ} {old mid : List ℕ} where
  pub methods-all : {i : ℕ} → MethodsLeft ns ends' service old mid i → after ns service ≤ i → (x : Ended ns ends' service) (ds : List Definition) → Chains ns ends' x.names ds → (g : Amount) →
      weighed (node_tally ns) 0 mid g ≡ weighed (node_tally ns) 0 old g + method_tally g ds (siblings ns (service + 1) (after ns service))
  methods-all {i} l h x ds c g = omega (arith, l.left x ds c g, tally-none (of_method g ds) ns i (after ns service) h)

  -- the walk has given a method, and it is counted where its chain ends
  module _ {s : Siblings} (o : Over ns (after ns service) s) (l : MethodsLeft ns ends' service old mid s.at) {i : ℕ} {node : read.Node} {t : Siblings} (x : NextTree s i node t) (e : Option ℕ)
      (is : e ≡ end_node ns ends' i) where
    here : e ≡ end_node ns ends' s.at
    here = is ∙ ap (end_node ns ends') x.place

    inside : (b : Ended ns ends' service) → s.at < b.count
    inside b = omega (arith, walks.here o x, (b.nodes.tree service b.inside).ends)

    pub method-inside : Ended ns ends' service → IfSome e (λ f. f < 4096)
    method-inside b = end-below b (inside b) here b.nodes.few_nodes

    pub methods-on : Ended ns ends' service → MethodsLeft ns ends' service old (raised e mid) t.at
    methods-on b =
        let tree = opens l.trees (walks.here o x) in
        let next = walks.at o x in
        let within = subst (λ (n : ℕ). IfSome e (λ f. f < n)) (sym l.long) (method-inside b) in
        record {
          trees = rw next tree.rest;
          long = raised-length e mid ∙ l.long;
          few = λ f. omega (arith, raised-most e mid within f, l.few f, next, tree.here.one);
          kept = λ y. let k = raised-kept e mid y.count (end-below y (inside y) here (omega arith)) in record { kept = λ j n. k.kept j n ∙ (l.kept y).kept j n };
          left = λ y ds c g.
              let one = weighed-raised ns g e (alias_end ds (tree_at ns s.at)) (end-reached y (inside y) here ds c) mid within in
              rw next (omega (arith, l.left y ds c g, one, tally-open (of_method g ds) tree));
        }
