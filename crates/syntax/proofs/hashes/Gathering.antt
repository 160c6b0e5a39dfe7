-- The methods of a merged actor, gathered. Assumes nothing.
--     service-methods                  below a service stand methods
--     services-in                      the services of a resolved actor
--     MethodsLeft                      the loop over methods
--     ServiceLeft                      the same inside a service
use mathlib.Core.Path.{◌≡◌, refl, sym, ap, subst, ◌∙◌}
use mathlib.Core.List.{List, [], ◌∷◌, ◌++◌, append_assoc}
use mathlib.Core.Logic.{inl}
use Prim.Native.Nat.{ℕ, suc, ◌+◌, ◌≤◌, ◌<◌}
use native.Mathlib.Omega.{arith}
use lib.ListN.{length, get_or, drop, drop_of_length-le}
use lib.Seq.{drop-cons}
use Rattle.std.specs.Prelude.{All}
use Rattle.std.proofs.lemmas.List.Elements.{All-push}
use Rattle.format.specs.Forest.{Forest, end, tree, beside}
use Rattle.format.specs.Node.{Node, label_value}
use Rattle.format.specs.Encode.{Row}
use Rattle.format.specs.Layout.{row_at, siblings, node_of}
use Rattle.format.specs.Whole.{Within, tree_at}
use Rattle.format.proofs.Rows.{node-within, siblings-none, siblings-opens}
use Rattle.format.proofs.Stored.{tree-opens}
use Rattle.judgement.specs.Environment.{kids_of}
use Rattle.book.specs.Tables.{blank_table, zero_table}
use Rattle.environment.specs.Trees.{Methods as Listed, AllTrees}
use Rattle.environment.proofs.Trees.{opened, method-label, kids-methods, rest-methods, blank-nodes, no-ends, node-trees, node-some}
use Rattle.syntax.specs.Interfaces.{IsService, methods_in}
use Rattle.syntax.specs.Hashed.{ServicesIn, labels_of}
use Rattle.syntax.specs.Gathering.{GathersAs}

-- ---- The methods of a service
module _ {ns : List ℕ} {names nodes : ℕ} (a : AllTrees ns names nodes) where
  pub service-within : (n : ℕ) → IsService ns nodes n → Within ns (n + 1)
  service-within n s = node-within (a.nodes.tree n s.0).whole

  pub service-ends : (n : ℕ) → IsService ns nodes n → n + (row_at ns n).size ≤ nodes
  service-ends n s = (a.nodes.tree n s.0).ends

  pub service-methods : (n : ℕ) → IsService ns nodes n → Listed ns blank_table zero_table (n + 1) (n + (row_at ns n).size)
  service-methods n s =
      let z = blank-nodes nodes blank_table refl in
      let e = no-ends nodes zero_table refl in
      kids-methods (node-trees a z e s.0) (node-some a z e s.0) s.1

  service-kids : (n : ℕ) → IsService ns nodes n → kids_of (tree_at ns n) ≡ siblings ns (n + 1) (n + (row_at ns n).size)
  unfolding kids_of
  service-kids n s = rw (tree-opens (a.nodes.tree n s.0).whole)

pub services-in : {ns services : List ℕ} {names nodes : ℕ} → AllTrees ns names nodes → All (IsService ns nodes) services → ServicesIn ns services
services-in {names = names} {nodes = nodes} t s = record { names = names; nodes = nodes; all = t; service = s }

-- ---- The loop over methods: those before `left` are gathered
pub record MethodsLeft (all left : Forest Node) (names : List ℕ) : Type 0 where
  pub parts : names ++ labels_of left ≡ labels_of all
  pub small : All (λ v. v < 1024) names

module _ {all left : Forest Node} {names : List ℕ} (l : MethodsLeft all left names) where
  pub methods-end : left ≡ end → GathersAs (labels_of all) names
  unfolding labels_of
  methods-end z = record { rest = []; parts = ap (λ (q : Forest Node). names ++ labels_of q) (sym z) ∙ l.parts; most = inl refl; small = l.small }

  module _ (n : Node) (kids next : Forest Node) (is : left ≡ tree n kids next) (v : ℕ) (named : label_value n.label ≡ v) (small : v < 1024) where
    pub method-on : MethodsLeft all next (names ++ v ∷ [])
    unfolding labels_of
    method-on =
        record {
          parts = append_assoc names (v ∷ []) (labels_of next) ∙ ap (λ (w : ℕ). names ++ w ∷ labels_of next) (sym named) ∙ ap (λ (q : Forest Node). names ++ labels_of q) (sym is) ∙ l.parts;
          small = All-push (λ v. v < 1024) names v l.small small;
        }

-- ---- The methods of a service, from node i on, and then other methods
pub record ServiceLeft (ns : List ℕ) (all next : Forest Node) (names : List ℕ) (i until : ℕ) : Type 0 where
  pub methods : Listed ns blank_table zero_table i until
  pub left : MethodsLeft all (beside (siblings ns i until) next) names

-- ---- The loop over services
module _ {ns services : List ℕ} (x : ServicesIn ns services) {all : Forest Node} {names : List ℕ} {s : ℕ}
    (l : MethodsLeft all (methods_in ns (drop s services)) names) where
  pub services-end : length services ≤ s → GathersAs (labels_of all) names
  unfolding methods_in
  services-end h = methods-end l (ap (methods_in ns) (drop_of_length-le services {i = s} h))

  module _ (h : s < length services) (d : ℕ) (r : Row) (is : r ≡ row_at ns (get_or services s d)) where
    abbrev node : ℕ
    node = get_or services s d

    pub service-start : ServiceLeft ns all (methods_in ns (drop (s + 1) services)) names (node + 1) (node + r.size)
    unfolding methods_in
    service-start =
        let one : suc s ≡ s + 1 = omega arith in
        rw is
        record {
          methods = service-methods x.all node (x.service s d h);
          left =
              subst (λ (q : Forest Node). MethodsLeft all q names)
              (ap (methods_in ns) (drop-cons services s d h ∙ ap (λ (j : ℕ). node ∷ drop j services) one)
              ∙ ap (λ (q : Forest Node). beside q (methods_in ns (drop (s + 1) services))) (service-kids x.all node (x.service s d h))) l;
        }

module _ {ns : List ℕ} {all next : Forest Node} {names : List ℕ} {i until : ℕ} (l : ServiceLeft ns all next names i until) where
  pub service-end : until ≤ i → MethodsLeft all next names
  unfolding beside
  service-end h = subst (λ (q : Forest Node). MethodsLeft all (beside q next) names) (siblings-none ns i until h) l.left

  module _ (h : i < until) (r : Row) (is : r ≡ row_at ns i) where
    pub name-small : r.label < 1024
    name-small = rw is (method-label l.methods.trees h l.methods.methods).0

    opened-as : beside (siblings ns i until) next ≡ tree (node_of (row_at ns i)) (siblings ns (i + 1) (i + (row_at ns i).size)) (beside (siblings ns (i + (row_at ns i).size) until) next)
    unfolding beside
    opened-as = ap (λ (q : Forest Node). beside q next) (siblings-opens (opened l.methods.trees h))

    named-as : label_value (node_of (row_at ns i)).label ≡ r.label
    named-as = (method-label l.methods.trees h l.methods.methods).1 ∙ ap (λ (q : Row). q.label) (sym is)

    pub service-on : ServiceLeft ns all next (names ++ r.label ∷ []) (i + (row_at ns i).size) until
    service-on = record { methods = rest-methods l.methods h; left = method-on l.left _ _ _ opened-as r.label named-as name-small }
