-- The kind of the type at the end of a chain, by the table of alias ends; so that says what `as_func` and `as_service` say. Assumes nothing.
--     func-kind, serv-kind        a function and a service by their kind
--     ends-func, ends-service     for a table without circles, whatever the definitions are that it was made of
use mathlib.Core.Path.{◌≡◌, refl, sym, ◌∙◌}
use mathlib.Core.Bool.{Bool, true, false, cond}
use mathlib.Core.List.{List}
use Prim.Native.Nat.{ℕ, ◌<◌}
use native.Mathlib.Omega.{arith}
use Rattle.std.specs.Prelude.{Option, Some}
use lib.Dec.{eqb}
use lib.ListN.{length}
use Rattle.format.specs.Node.{Kind}
use Rattle.format.specs.Book.{Definition}
use Rattle.format.specs.Layout.{row_at, kinds, kind_of, node_of}
use Rattle.format.specs.Whole.{WholeAt, tree_at}
use Rattle.format.proofs.References.{kind-alone}
use Rattle.format.proofs.Stored.{tree-opens}
use Rattle.refusals.specs.Verdict.{passes}
use Rattle.judgement.specs.Environment.{is_func_kind, is_serv_kind}
use Rattle.judgement.specs.Aliases.{End, unbound, circle, ends, alias_end, root_passes, as_func, as_service}
use Rattle.environment.specs.Tables.{Nodes, Binds, EndAt, Chains, AliasEndsAs, Ended, is_kind, end_node, end_is}
use Rattle.environment.proofs.ChainEnds.{end-at, end-whole}
pub use Rattle.environment.proofs.Names.{stays}

-- ---- the kind at the end
module _ (test : Kind → Bool) (kind : ℕ) (says : (k v : ℕ) → test (kind_of k v) ≡ eqb k kind) where
  root-kind : {ns : List ℕ} {n : ℕ} → WholeAt ns n → eqb (row_at ns n).kind kind ≡ root_passes test (ends (tree_at ns n))
  unfolding root_passes node_of
  root-kind {ns} {n} w = rw (tree-opens w) (sym (says (row_at ns n).kind (row_at ns n).value))

  kind-passes : (ns : List ℕ) (o : Option ℕ) (x : End) → ((e : ℕ) → o ≡ Some e → WholeAt ns e) → EndAt ns o x → is_kind kind ns o ≡ root_passes test x
  unfolding root_passes
  kind-passes ns o (unbound m) w q = rw q
  kind-passes ns o circle w q = absurd q
  kind-passes ns o (ends t) w (e, i, j) = rw (i, j) (root-kind (w e i))

  ends-pass : {ns ends' : List ℕ} {node : ℕ} (s : Ended ns ends' node) (ds : List Definition) → Chains ns ends' s.names ds →
      end_is kind ns ends' node ≡ root_passes test (alias_end ds (tree_at ns node))
  unfolding end_is
  ends-pass {ns} {ends'} {node} s ds c = kind-passes ns (end_node ns ends' node) _ (λ e i. end-whole s (sym i)) (end-at s ds c)

pub as-test : (b : Bool) → cond b true false ≡ b
as-test true = refl
as-test false = refl

func-kind : (k v : ℕ) → is_func_kind (kind_of k v) ≡ eqb k 23
unfolding is_func_kind kinds
func-kind k v = kind-alone is_func_kind false true 23 v (omega arith) refl refl k ∙ as-test (eqb k 23)

module _ {ns roots ends' : List ℕ} {names count definitions : ℕ} (x : Nodes ns names count) (a : AliasEndsAs ns roots names count definitions ends' passes)
    (ds : List Definition) (b : Binds ns roots ds) (l : length ds ≡ definitions) (n : ℕ) (h : n < count) where
  pub ends-func : end_is 23 ns ends' n ≡ as_func ds (tree_at ns n)
  unfolding as_func
  ends-func = ends-pass is_func_kind 23 func-kind (record { names = names; count = count; nodes = x; table = a.nodes; inside = h }) ds (a.all ds b l)

pub serv-kind : (k v : ℕ) → is_serv_kind (kind_of k v) ≡ eqb k 24
unfolding is_serv_kind kinds
serv-kind k v = kind-alone is_serv_kind false true 24 v (omega arith) refl refl k ∙ as-test (eqb k 24)

pub ends-service : {ns ends' : List ℕ} {node : ℕ} (s : Ended ns ends' node) (ds : List Definition) → Chains ns ends' s.names ds →
    end_is 24 ns ends' node ≡ as_service ds (tree_at ns node)
unfolding as_service
ends-service s ds c = ends-pass is_serv_kind 24 serv-kind s ds c
