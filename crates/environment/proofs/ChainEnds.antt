-- Where the chain of the type at a node ends, by the table of alias ends. Assumes nothing.
--     end-other, end-named,
--     crossed-other, ..        `end_of`
--     served-whole, served-at  the node, and another
--     end-at, end-inside       what stands at the end, and that it is a node of the book
--     name-ended               a name that the table has is on no circle
--     length-at, reached       how many names are crossed
use mathlib.Core.Path.{◌≡◌, refl, sym, ap, subst, ◌∙◌}
use mathlib.Core.List.{List}
use Prim.Native.Nat.{ℕ, ◌<◌}
use native.Mathlib.Decide.{ℕ_discrete}
use native.Mathlib.Omega.{arith}
use borrow.Author.Tests.{ne_eqb}
use lib.ListN.{length}
use Rattle.std.specs.Prelude.{Option, Some}
use Rattle.format.specs.Book.{Definition}
use Rattle.format.specs.Encode.{Row}
use Rattle.format.specs.Layout.{row_at}
use Rattle.format.specs.Whole.{WholeAt, tree_at}
use Rattle.judgement.specs.Environment.{find_type}
use Rattle.judgement.specs.Aliases.{End, circle, ends, chain, alias_end, alias_length, name_type}
use Rattle.judgement.proofs.Lengths.{crossed-same, crossed-most}
use Rattle.judgement.proofs.Lengths as chains
use Rattle.environment.specs.Tables.{name_end, end_of, end_in, crossed_in, EndAt, ChainAt, Chains, Ended, end_node, end_crossed, ReachedAs}
use Rattle.environment.proofs.Links.{head-var, head-other}
use Rattle.environment.proofs.Names.{is-named, to-name, node-ends, name-ends}

pub end-other : (ns ends' : List ℕ) (node : ℕ) (r : Row) → r ≡ row_at ns node → (r.kind ≡ 18 → ⊥) → Some node ≡ end_node ns ends' node
unfolding end_node
end-other ns ends' node r is h = rw (← is, ne_eqb r.kind 18 h)

pub end-named : (ns ends' : List ℕ) (node : ℕ) (r : Row) → r ≡ row_at ns node → r.kind ≡ 18 → end_in ends' r.value ≡ end_node ns ends' node
unfolding end_node
end-named ns ends' node r is h = rw (← is, h)

pub crossed-other : (ns ends' : List ℕ) (node : ℕ) (r : Row) → r ≡ row_at ns node → (r.kind ≡ 18 → ⊥) → 0 ≡ end_crossed ns ends' node
unfolding end_crossed
crossed-other ns ends' node r is h = rw (← is, ne_eqb r.kind 18 h)

pub crossed-named : (ns ends' : List ℕ) (node : ℕ) (r : Row) → r ≡ row_at ns node → r.kind ≡ 18 → crossed_in ends' r.value ≡ end_crossed ns ends' node
unfolding end_crossed
crossed-named ns ends' node r is h = rw (← is, h)

module _ {ns ends' : List ℕ} {node : ℕ} (s : Ended ns ends' node) where
  pub served-whole : WholeAt ns node
  served-whole = (s.nodes.tree node s.inside).whole

  -- another node of the book
  unfoldable pub served-at : (i : ℕ) → i < s.count → Ended ns ends' i
  served-at i h = record { names = s.names; count = s.count; nodes = s.nodes; table = s.table; inside = h }

  -- The table says where the chain of the type at a node ends.
  pub end-at : (ds : List Definition) → Chains ns ends' s.names ds → EndAt ns (end_node ns ends' node) (alias_end ds (tree_at ns node))
  end-at ds c = go (ℕ_discrete (row_at ns node).kind 18)
    where
      go : Dec ((row_at ns node).kind ≡ 18) → EndAt ns (end_node ns ends' node) (alias_end ds (tree_at ns node))
      go (yes k) =
          let v = (row_at ns node).value in
          subst (λ (x : End). EndAt ns (end_node ns ends' node) x) (sym (name-ends s.nodes ds s.inside k))
          (subst (λ (o : Option ℕ). EndAt ns o (name_end ds v (find_type ds v))) (end-named ns ends' node (row_at ns node) refl k) (c v ((s.nodes.row node s.inside).name k)).end)
      go (no k) =
          subst (λ (x : End). EndAt ns (end_node ns ends' node) x) (sym (node-ends s.nodes ds s.inside k))
          (subst (λ (o : Option ℕ). EndAt ns o (ends (tree_at ns node))) (end-other ns ends' node (row_at ns node) refl k) (node, refl, refl))

  -- and how many names it crosses
  pub length-at : (ds : List Definition) → Chains ns ends' s.names ds → end_crossed ns ends' node ≡ alias_length ds (tree_at ns node)
  unfolding alias_length
  length-at ds c = go (ℕ_discrete (row_at ns node).kind 18)
    where
      t : WholeAt ns node
      t = served-whole

      go : Dec ((row_at ns node).kind ≡ 18) → end_crossed ns ends' node ≡ length (chain ds (tree_at ns node)).crossed
      go (yes k) =
          let v = (row_at ns node).value in
          sym (crossed-named ns ends' node (row_at ns node) refl k) ∙ (c v ((s.nodes.row node s.inside).name k)).crossed
          ∙ ap length (crossed-same ds (name_type v) (tree_at ns node) v (is-named v) (head-var t (row_at ns node) refl k))
      go (no k) =
          sym (crossed-other ns ends' node (row_at ns node) refl k) ∙ sym (ap length (chains.crossed-other ds (tree_at ns node) (head-other t (row_at ns node) refl k)))

  module _ {e : ℕ} (is : Some e ≡ end_node ns ends' node) where
    pub end-inside : e < s.count
    end-inside = go (ℕ_discrete (row_at ns node).kind 18)
      where
        go : Dec ((row_at ns node).kind ≡ 18) → e < s.count
        go (yes k) = s.table.node (row_at ns node).value e (end-named ns ends' node (row_at ns node) refl k ∙ sym is)
        go (no k) =
            let same : e ≡ node = let other = end-other ns ends' node (row_at ns node) refl k in cc in
            omega (arith, same, s.inside)

    pub end-whole : WholeAt ns e
    end-whole = (s.nodes.tree e end-inside).whole

-- a name whose chain the table has is on no circle
pub name-ended : {ns : List ℕ} (ds : List Definition) (n e : ℕ) → ChainAt ns ds n e → alias_end ds (name_type n) ≡ circle → ⊥
name-ended {ns} ds n e c z = subst (EndAt ns (end_of e)) (sym (to-name ds (name_type n) n (is-named n)) ∙ z) c.end

-- so `end_of` says what it is to say
pub reached : {ns ends' : List ℕ} {node crossed : ℕ} {e : Option ℕ} → e ≡ end_node ns ends' node → crossed ≡ end_crossed ns ends' node → ReachedAs ns ends' node e crossed
reached {ns} {ends'} {node} {crossed} i j =
    record { node-is = i; crossed-is = j; length-is = long; few = λ s ds c. omega (arith, long s ds c, crossed-most ds (tree_at ns node)) }
  where
    long : (s : Ended ns ends' node) (ds : List Definition) → Chains ns ends' s.names ds → crossed ≡ alias_length ds (tree_at ns node)
    long s ds c = j ∙ length-at s ds c
