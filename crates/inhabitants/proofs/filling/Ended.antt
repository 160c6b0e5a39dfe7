-- Just the nodes that wait for nothing in the end fill. Assumes nothing.
--     waits_of, FillsOf         what the nodes of a scope wait for, and what is known of one that is done
--     settled-fills             a node that has settled fills
--     ended                     and in the end what fills has settled, by the rules
use mathlib.Core.Path.{◌≡◌, refl, sym, ap, subst, ◌∙◌}
use mathlib.Core.List.{List, Memᴰ}
use Prim.Native.Nat.{ℕ, ◌+◌, ◌≤◌, ◌<◌}
use native.Mathlib.Decide.{ℕ_discrete}
use native.Mathlib.Omega.{arith}
use lib.ListN.{length, get_or}
use Rattle.format.specs.Forest.{Forest, tree}
use Rattle.format.specs.Node.{Kind, VarT, RecordT, VariantT, Node, kind_number}
use Rattle.format.specs.Book.{Definition}
use Rattle.format.specs.Layout.{row_at, node_of, siblings}
use Rattle.format.specs.Occurs.{Beside}
use Rattle.format.proofs.Occurs.{EachTree}
use Rattle.format.proofs.References.{node-var, var-node}
use Rattle.format.proofs.Stored.{tree-opens}
use Rattle.judgement.specs.Environment.{find_type, body}
use Rattle.judgement.proofs.Lookup.{not-both-found}
use Rattle.listing.proofs.Filling.{Closed, OfNode, SomeTree, DefinitionIs, fills-least}
use Rattle.environment.specs.Tables.{Nodes, Roots, Binds, found_at}
use Rattle.environment.specs.declared.scope.Scope.{Scope}
use Rattle.environment.proofs.Links.{found-none, found-some}
use Rattle.inhabitants.specs.declared.waiting.Wait.{Wait}
use Rattle.inhabitants.specs.declared.waiting.Waiting.{Waiting}
use Rattle.inhabitants.specs.Waiting.{within, kind_at, root_at}
use Rattle.inhabitants.specs.Filling.{filling_wait, FillsAt, FillingOf}
use Rattle.inhabitants.proofs.waiting.Places.{place-inside, beside-place, place-beside}
use Rattle.inhabitants.proofs.waiting.Known.{KnownOf, AllDone, Ready, ready-has}
use Rattle.inhabitants.proofs.waiting.Ended.{Settles, settles}
use Rattle.inhabitants.proofs.filling.Nodes.{node-record, node-variant, node-empty, kind-of, leaf-fills, fields-fill, case-fills, root-fills, waits-name, waits-record, waits-variant, waits-empty, waits-leaf}

-- What the nodes of a scope wait for, and what is known of one that is done.
abbrev pub waits_of : Scope → ℕ → Wait
waits_of s n = filling_wait (kind_at s.rows.now n)

abbrev pub FillsOf : Scope → ℕ → Type 0
FillsOf s n = FillsAt s.rows.now s.roots.now n

module _ (s : Scope) where
  ready-fills : (n : ℕ) → n < s.nodes → Ready (waits_of s) (FillsOf s) s.rows.now s.roots.now n → FillsOf s n
  ready-fills n h r = go (ℕ_discrete kind 16) (ℕ_discrete kind 18) (ℕ_discrete kind 21) (ℕ_discrete kind 22)
    where
      kind : ℕ
      kind = kind_at s.rows.now n

      go : Dec (kind ≡ 16) → Dec (kind ≡ 18) → Dec (kind ≡ 21) → Dec (kind ≡ 22) → FillsOf s n
      go (yes a) b c d = absurd (r.not-ever (waits-empty kind a))
      go (no a) (yes b) c d =
          let root = r.name (waits-name kind b) in
          root-fills s.whole s.roots.now h b root.0 (s.bound.node (row_at s.rows.now n).value root.0) root.1
      go (no a) (no b) (yes c) d = fields-fill s.whole s.roots.now h c (r.all (waits-record kind c))
      go (no a) (no b) (no c) (yes d) = let case = r.one (waits-variant kind d) in case-fills s.whole s.roots.now h d case.1 case.2
      go (no a) (no b) (no c) (no d) = leaf-fills s.whole s.roots.now h a b c d

module _ {s : Scope} where
  pub settled-fills : {from told n : ℕ} {f : Waiting} → KnownOf s (waits_of s) (FillsOf s) from told f → from ≤ n → n < s.nodes →
      get_or f.left n 0 ≡ 0 → FillsOf s n
  settled-fills {n = n} k l h z = ready-fills s n h (ready-has k l h z)

  pub all-fill : {from told : ℕ} {f : Waiting} → KnownOf s (waits_of s) (FillsOf s) from told f → AllDone s (FillsOf s) from f
  all-fill k m l h z = settled-fills k l h z

-- ---- What fills waits for nothing, by the rules
module _ {ns roots left : List ℕ} {table nodes : ℕ} (x : Nodes ns table nodes) (bound : Roots roots nodes)
    (told : (n : ℕ) → n < nodes → Settles (λ n. filling_wait (kind_at ns n)) ns roots left n) (ds : List Definition) (binds : Binds ns roots ds) where
  Told : Kind → Forest Node → Type 0
  Told kind kids = (n : ℕ) → n < nodes → (node_of (row_at ns n)).kind ≡ kind → siblings ns (n + 1) (n + (row_at ns n).size) ≡ kids → get_or left n 0 ≡ 0

  rules : Closed (DefinitionIs ds Told) Told
  unfolding Told kind_number
  rules =
      record {
        fields = λ each n h e q. (told n h).all (waits-record (kind_at ns n) (kind-of x h RecordT e)) (λ c i. field n h q each c i);
        cases = λ s n h e q. case n h (kind-of x h VariantT e) q s;
        names = λ d n h e q. name n h e d;
        others = λ a n h e q.
            (told n h).nothing
            (waits-leaf (kind_at ns n) (λ z. a.no_empty (sym e ∙ node-empty (row_at ns n) z))
            (λ z. a.no_name (row_at ns n).value (sym e ∙ node-var (row_at ns n) z))
            (λ z. a.no_record (sym e ∙ node-record (row_at ns n) z)) (λ z. a.no_variant (sym e ∙ node-variant (row_at ns n) z)));
      }
    where
      field : (n : ℕ) → n < nodes → {f : Forest Node} → siblings ns (n + 1) (n + (row_at ns n).size) ≡ f → EachTree (OfNode Told) f →
          (c : ℕ) → Memᴰ c (within ns n) → get_or left c 0 ≡ 0
      field n h q each c i =
          let w = (x.tree n h).whole in
          let r = place-inside w i in
          let kids = siblings ns (c + 1) (c + (row_at ns c).size) in
          each (node_of (row_at ns c)) kids (subst (Beside (node_of (row_at ns c)) kids) q (place-beside w i)) c (omega (arith, r.1, (x.tree n h).ends)) refl refl

      case : (n : ℕ) → n < nodes → kind_at ns n ≡ 22 → {f : Forest Node} → siblings ns (n + 1) (n + (row_at ns n).size) ≡ f →
          SomeTree (OfNode Told) f → get_or left n 0 ≡ 0
      case n h e q (t, kids, i, z) =
          let w = (x.tree n h).whole in
          let r = beside-place w (subst (Beside t kids) (sym q) i) in
          let p = place-inside w r.1 in
          (told n h).one (waits-variant (kind_at ns n) e) r.0 r.1 (z r.0 (omega (arith, p.1, (x.tree n h).ends)) (ap (λ (g : Node). g.kind) r.2) r.3)

      name : (n : ℕ) → n < nodes → {m : ℕ} → (node_of (row_at ns n)).kind ≡ VarT m → DefinitionIs ds Told m → get_or left n 0 ≡ 0
      name n h {m} e (t, kids, next, found, z) =
          let v = var-node (row_at ns n) e in
          let is : found_at ns (root_at ns roots n) ≡ body (tree t kids next) = sym (binds (row_at ns n).value) ∙ ap (find_type ds) v.1 ∙ found in
          let some = λ (z : root_at ns roots n ≡ 65535). not-both-found (found-none ns (root_at ns roots n) z) is in
          (told n h).name (waits-name (kind_at ns n) v.0) some (root some is)
        where
          root : (root_at ns roots n ≡ 65535 → ⊥) → found_at ns (root_at ns roots n) ≡ body (tree t kids next) → get_or left (root_at ns roots n) 0 ≡ 0
          root some is =
              let l : root_at ns roots n < nodes = bound.node (row_at ns n).value some in
              let o = sym (ap body (tree-opens (x.tree (root_at ns roots n) l).whole)) ∙ sym (found-some ns (root_at ns roots n) some) ∙ is in
              let p : node_of (row_at ns (root_at ns roots n)) ≡ t = cc in
              let q : siblings ns (root_at ns roots n + 1) (root_at ns roots n + (row_at ns (root_at ns roots n)).size) ≡ kids = cc in
              z (root_at ns roots n) l (ap (λ (g : Node). g.kind) p) q

pub ended : {s : Scope} {told : ℕ} {f : Waiting} → KnownOf s (waits_of s) (FillsOf s) 0 told f → length f.ready.items ≤ told → FillingOf s f
unfolding Told
ended {s} k all n h ds b = (λ z. settled-fills k (omega arith) h z ds b, λ fill. fills-least (rules s.whole s.bound (settles k all) ds b) fill n h refl refl)
