-- In the end all numbers are right: a node that is never counted has a part that is not, and so has values without end. Assumes nothing.
--     beside-content                 the one type that an opt holds
--     Uncounted, uncounted-onward    a node that is not counted, and its part
--     all-right                      the numbers of all nodes
use mathlib.Core.Path.{◌≡◌, refl, sym, ap, subst, ◌∙◌}
use mathlib.Core.Logic.{◌⊎◌, inl, inr}
use mathlib.Core.List.Memᴰ
use mathlib.Core.List.{List, [], ◌∷◌, Memᴰ}
use Prim.Native.Nat.{ℕ, ◌+◌, ◌≤◌, ◌<◌}
use native.Mathlib.Decide.{ℕ_discrete}
use native.Mathlib.Omega.{arith}
use borrow.Author.Tests.{eq-eqb, ne_eqb}
use lib.ListN.{length, get_or, drop}
use Rattle.format.specs.Forest.{Forest, end, tree, breadth}
use Rattle.format.specs.Node.{Kind, VarT, OptT, RecordT, VariantT}
use Rattle.format.specs.Node as node
use Rattle.format.specs.Book.{Definition}
use Rattle.format.specs.Layout.{row_at, node_of, siblings}
use Rattle.format.specs.Occurs.{Beside, first, later}
use Rattle.format.proofs.Occurs.{beside-none}
use Rattle.format.proofs.References.{node-var}
use Rattle.format.proofs.Stored.{tree-opens}
use Rattle.judgement.specs.Environment.{missing, find_type, body}
use Rattle.judgement.proofs.Lookup.{not-both-found}
use Rattle.listing.specs.Empty.{Fills, of_name, of_else}
use Rattle.listing.proofs.Sizes.{Part, size-unique, content, a_field, a_case, definition}
use Rattle.listing.proofs.Endless.{Onward, endless}
use Rattle.listing.proofs.Values.{type-values-size}
use Rattle.environment.specs.Tables.{Binds}
use Rattle.environment.specs.declared.scope.Scope.{Scope}
use Rattle.environment.proofs.Links.{found-none, found-some}
use Rattle.inhabitants.specs.declared.waiting.Waiting.{Waiting}
use Rattle.inhabitants.specs.Waiting.{within, kind_at, root_at}
use Rattle.inhabitants.specs.Filling.{NodeFills, FillingOf}
use Rattle.inhabitants.specs.Counting.{counted_after, OneType, node_values}
use Rattle.inhabitants.proofs.waiting.Ended.{none-left, Settles, settles}
use Rattle.inhabitants.proofs.filling.Nodes.{node-opt, node-record, node-variant}
use Rattle.inhabitants.proofs.waiting.Places.{place-inside, place-beside}
use Rattle.inhabitants.proofs.counting.Waits.{wait-none, wait-by, after-name, after-parts, after-none, OfParts}
use Rattle.inhabitants.proofs.counting.Counted.{WaitFor, Right, Telling}

-- A type that stands alone is the first.
pub beside-content : {ds : List Definition} {t : node.Node} {kids : Forest node.Node} (types : Forest node.Node) → breadth types ≡ 1 → Beside t kids types → Part ds OptT types t.kind kids
unfolding breadth
beside-content end e b = beside-none b
beside-content (tree u lids next) e first = content
beside-content (tree u lids end) e (later b) = beside-none b
beside-content (tree u lids (tree v mids next)) e (later b) = absurd (omega (arith, e))

-- A name that fills has a definition.
name-defined : (ds : List Definition) (m : ℕ) (kids : Forest node.Node) → Fills ds (VarT m) kids → find_type ds m ≡ missing → ⊥
name-defined ds m kids (of_name e x) z = not-both-found z e
name-defined ds m kids (of_else a) z = a.no_name m refl

-- one of some nodes waits, or none does
some-waits : (left l : List ℕ) → ((c : ℕ) → Memᴰ c l → get_or left c 0 ≡ 0) ⊎ ((c : ℕ) × Memᴰ c l × (get_or left c 0 ≡ 0 → ⊥))
some-waits left [] = inl (λ c i. absurd (Memᴰ.not-nil i))
some-waits left (n ∷ l) = go (ℕ_discrete (get_or left n 0) 0) (some-waits left l)
  where
    go : Dec (get_or left n 0 ≡ 0) → ((c : ℕ) → Memᴰ c l → get_or left c 0 ≡ 0) ⊎ ((c : ℕ) × Memᴰ c l × (get_or left c 0 ≡ 0 → ⊥)) →
        ((c : ℕ) → Memᴰ c (n ∷ l) → get_or left c 0 ≡ 0) ⊎ ((c : ℕ) × Memᴰ c (n ∷ l) × (get_or left c 0 ≡ 0 → ⊥))
    go (no d) r = inr (n, Memᴰ.head refl, d)
    go (yes z) (inr r) = inr (r.0, Memᴰ.tail r.1, r.2)
    go (yes z) (inl all) = inl (λ c i. each c (Memᴰ.cases_cons i))
      where
        each : (c : ℕ) → (c ≡ n) ⊎ Memᴰ c l → get_or left c 0 ≡ 0
        each c (inl e) = ap (λ (m : ℕ). get_or left m 0) e ∙ z
        each c (inr i) = all c i

module _ (s : Scope) (f : Waiting) (fills : FillingOf s f) (one : OneType s.rows.now s.nodes) {told : ℕ} {g : Waiting} {numbers : List ℕ}
    (t : Telling s f told g numbers) (all : length g.ready.items ≤ told) (ds : List Definition) (b : Binds s.rows.now s.roots.now ds) where
  abbrev kind-of : ℕ → Kind
  kind-of n = (node_of (row_at s.rows.now n)).kind

  abbrev kids-of : ℕ → Forest node.Node
  kids-of n = siblings s.rows.now (n + 1) (n + (row_at s.rows.now n).size)

  -- A type at a node that is not counted.
  record Uncounted (k : Kind) (kids : Forest node.Node) : Type 0 where
    at : ℕ
    inside : at < s.nodes
    open' : get_or g.left at 0 ≡ 0 → ⊥
    kind : kind-of at ≡ k
    types : kids-of at ≡ kids

  ends : (n : ℕ) → n < s.nodes → Settles (WaitFor s f) s.rows.now s.roots.now g.left n
  ends = settles t.known all

  module _ (n : ℕ) (inside : n < s.nodes) (open' : get_or g.left n 0 ≡ 0 → ⊥) where
    fills-here : NodeFills s.rows.now ds n
    fills-here = go (ℕ_discrete (get_or f.left n 0) 0)
      where
        go : Dec (get_or f.left n 0 ≡ 0) → NodeFills s.rows.now ds n
        go (yes z) = (fills n inside ds b).0 z
        go (no d) = absurd (open' ((ends n inside).nothing (wait-none f.left s.rows.now n (ne_eqb (get_or f.left n 0) 0 d))))

    waits-by : WaitFor s f n ≡ counted_after (kind_at s.rows.now n)
    waits-by = go (ℕ_discrete (get_or f.left n 0) 0)
      where
        go : Dec (get_or f.left n 0 ≡ 0) → WaitFor s f n ≡ counted_after (kind_at s.rows.now n)
        go (yes z) = wait-by f.left s.rows.now n (eq-eqb (get_or f.left n 0) 0 z)
        go (no d) = absurd (d ((fills n inside ds b).1 fills-here))

    abbrev Next : Kind → Type 0
    Next k = (part : Kind) × (within : Forest node.Node) × Part ds k (kids-of n) part within × Uncounted part within

    -- a name goes on to its definition,
    name-onward : kind_at s.rows.now n ≡ 18 → Next (kind-of n)
    name-onward k =
        let m = (row_at s.rows.now n).value in
        let root = root_at s.rows.now s.roots.now n in
        let is : kind-of n ≡ VarT m = node-var (row_at s.rows.now n) k in
        let some : root ≡ 65535 → ⊥ = λ e. name-defined ds m (kids-of n) (subst (λ (k : Kind). Fills ds k (kids-of n)) is fills-here) (b m ∙ found-none s.rows.now root e) in
        let at-root = s.bound.node m some in (
          kind-of root,
          kids-of root,
          subst (λ (k : Kind). Part ds k (kids-of n) (kind-of root) (kids-of root)) (sym is)
              (definition (b m ∙ found-some s.rows.now root some ∙ ap body (tree-opens (s.whole.tree root at-root).whole))),
          record {
            at = root;
            inside = at-root;
            open' = λ z. open' ((ends n inside).name (waits-by ∙ after-name k) some z);
            kind = refl;
            types = refl;
          },
        )

    -- another type to one of those within it.
    type-onward : OfParts (kind_at s.rows.now n) →
        ((t : node.Node) (lids : Forest node.Node) → Beside t lids (kids-of n) → Part ds (kind-of n) (kids-of n) t.kind lids) → Next (kind-of n)
    type-onward p part = go (some-waits g.left (within s.rows.now n))
      where
        go : ((c : ℕ) → Memᴰ c (within s.rows.now n) → get_or g.left c 0 ≡ 0) ⊎ ((c : ℕ) × Memᴰ c (within s.rows.now n) × (get_or g.left c 0 ≡ 0 → ⊥)) → Next (kind-of n)
        go (inl settled) = absurd (open' ((ends n inside).all (waits-by ∙ after-parts p) settled))
        go (inr r) =
            let w = s.whole.tree n inside in
            let q = place-inside w.whole r.1 in (
              kind-of r.0,
              kids-of r.0,
              part _ _ (place-beside w.whole r.1),
              record { at = r.0; inside = omega (arith, q.1, w.ends); open' = r.2; kind = refl; types = refl },
            )

    onward-here : Next (kind-of n)
    onward-here = go (ℕ_discrete (kind_at s.rows.now n) 18) (ℕ_discrete (kind_at s.rows.now n) 19) (ℕ_discrete (kind_at s.rows.now n) 21) (ℕ_discrete (kind_at s.rows.now n) 22)
      where
        go : Dec (kind_at s.rows.now n ≡ 18) → Dec (kind_at s.rows.now n ≡ 19) → Dec (kind_at s.rows.now n ≡ 21) → Dec (kind_at s.rows.now n ≡ 22) → Next (kind-of n)
        go (yes k) x y z = name-onward k
        go (no a) (yes k) y z = type-onward (inl k) (λ t lids i. rw (node-opt (row_at s.rows.now n) k) (beside-content (kids-of n) (one n inside k) i))
        go (no a) (no c) (yes k) z = type-onward (inr (inl k)) (λ t lids i. rw (node-record (row_at s.rows.now n) k) (a_field i))
        go (no a) (no c) (no d) (yes k) = type-onward (inr (inr k)) (λ t lids i. rw (node-variant (row_at s.rows.now n) k) (a_case i))
        go (no a) (no c) (no d) (no e) =
            absurd (open' ((ends n inside).nothing (waits-by ∙ after-none a (λ p. elim p [ inl k ↦ c k | inr q ↦ elim q [ inl k ↦ d k | inr k ↦ e k ] ]))))

  uncounted-onward : (k : Kind) (kids : Forest node.Node) → Uncounted k kids → Onward ds Uncounted k kids
  uncounted-onward k kids u =
      rw (← u.kind, ← u.types) (fills-here u.at u.inside u.open', inr (onward-here u.at u.inside u.open'))

  -- its number is many
  uncounted-many : (n : ℕ) → n < s.nodes → (get_or g.left n 0 ≡ 0 → ⊥) → node_values s.rows.now ds n ≡ 4294967296
  uncounted-many n inside open' =
      let more = endless ds Uncounted uncounted-onward (kind-of n) (kids-of n) (record { at = n; inside = inside; open' = open'; kind = refl; types = refl }) in
      size-unique (type-values-size ds (kind-of n) (kids-of n)) (record { exact = λ h. absurd (omega arith); many = λ h. more; most = omega arith })

  pub all-right : (n : ℕ) → n < s.nodes → get_or numbers n 0 ≡ node_values s.rows.now ds n
  all-right n inside = go (ℕ_discrete (get_or g.left n 0) 0)
    where
      settled : Right s numbers n ⊎ Memᴰ n (drop told g.ready.items) → get_or numbers n 0 ≡ node_values s.rows.now ds n
      settled (inl r) = r.right ds b
      settled (inr i) = absurd (none-left told g.ready.items all i)

      open-node : (get_or g.left n 0 ≡ 0 → ⊥) → Right s numbers n ⊎ ((get_or numbers n 0 ≡ 4294967296) × (get_or f.left n 0 ≡ 0)) → get_or numbers n 0 ≡ node_values s.rows.now ds n
      open-node d (inl r) = r.right ds b
      open-node d (inr x) = x.0 ∙ sym (uncounted-many n inside d)

      go : Dec (get_or g.left n 0 ≡ 0) → get_or numbers n 0 ≡ node_values s.rows.now ds n
      go (yes z) = settled (t.right-or n inside z)
      go (no d) = open-node d (t.table.state n (omega arith) inside)
