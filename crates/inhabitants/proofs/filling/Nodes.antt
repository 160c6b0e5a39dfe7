-- When the type at a node fills, by its kind, and what it waits for. Assumes nothing.
--     node-opt, .. node-empty, kind-of                    a kind by its number, and its number
--     leaf-fills, fields-fill, case-fills, root-fills     a leaf, a record, a variant, and a name by its definition
--     waits-name, .. waits-leaf                           what it waits for
use mathlib.Core.Path.{◌≡◌, refl, sym, ap, subst, ◌∙◌}
use mathlib.Core.List.{List, Memᴰ}
use Prim.Native.Nat.{ℕ, ◌+◌, ◌<◌}
use borrow.Author.Tests.{ne_eqb}
use Rattle.format.specs.Forest.{Forest}
use Rattle.format.specs.Node.{PrimType, Kind, PrimT, OptT, RecordT, VariantT, kind_number}
use Rattle.format.specs.Node as node
use Rattle.format.specs.Book.{Definition}
use Rattle.format.specs.Occurs.{Beside}
use Rattle.format.specs.Encode.{Row}
use Rattle.format.specs.Layout.{row_at, node_of, siblings, kind_of, kinds}
use Rattle.format.proofs.Nodes.{kind-number}
use Rattle.format.proofs.References.{node-var}
use Rattle.format.proofs.Stored.{tree-opens}
use Rattle.judgement.specs.Environment.{body}
use Rattle.listing.specs.Empty.{AllElse, Fills, of_fields, of_case, of_else}
use Rattle.listing.proofs.Filling.{name-fills}
use Rattle.environment.specs.Tables.{Nodes, Binds}
use Rattle.environment.proofs.Links.{found-some}
use Rattle.inhabitants.specs.declared.waiting.Wait.TheVariants.{Nothing, Ever, All, One, Definition as OfName}
use Rattle.inhabitants.specs.Waiting.{within, kind_at, root_at}
use Rattle.inhabitants.specs.Filling.{filling_wait, FillsAt}
use Rattle.inhabitants.proofs.waiting.Places.{beside-place, place-beside}

-- ---- Kinds
pub node-opt : (r : Row) → r.kind ≡ 19 → (node_of r).kind ≡ OptT
unfolding node_of kind_of kinds
node-opt r e = rw e refl

pub node-record : (r : Row) → r.kind ≡ 21 → (node_of r).kind ≡ RecordT
unfolding node_of kind_of kinds
node-record r e = rw e refl

pub node-variant : (r : Row) → r.kind ≡ 22 → (node_of r).kind ≡ VariantT
unfolding node_of kind_of kinds
node-variant r e = rw e refl

pub node-empty : (r : Row) → r.kind ≡ 16 → (node_of r).kind ≡ PrimT PrimType.Empty
unfolding node_of kind_of kinds
node-empty r e = rw e refl

-- and the number of a kind
pub kind-of : {names nodes n : ℕ} {ns : List ℕ} → Nodes ns names nodes → n < nodes → (k : Kind) → (node_of (row_at ns n)).kind ≡ k → kind_at ns n ≡ kind_number k
unfolding node_of
kind-of {n = n} {ns = ns} x h k e = let r = row_at ns n in sym (kind-number r.kind r.value (x.row n h).kind) ∙ ap kind_number e

node-leaf : (r : Row) → r.kind < 27 → (r.kind ≡ 16 → ⊥) → (r.kind ≡ 18 → ⊥) → (r.kind ≡ 21 → ⊥) → (r.kind ≡ 22 → ⊥) → AllElse (node_of r).kind
unfolding node_of kind_number node.prim_number
node-leaf r h a b c d =
    let is : kind_number (kind_of r.kind r.value) ≡ r.kind = kind-number r.kind r.value h in
    record {
      no_empty = λ e. a (sym is ∙ ap kind_number e);
      no_record = λ e. c (sym is ∙ ap kind_number e);
      no_variant = λ e. d (sym is ∙ ap kind_number e);
      no_name = λ m e. b (sym is ∙ ap kind_number e);
    }

module _ {ns : List ℕ} {names nodes : ℕ} (x : Nodes ns names nodes) (roots : List ℕ) {n : ℕ} (inside : n < nodes) where
  -- of a kind
  as-kind : {k : Kind} → (node_of (row_at ns n)).kind ≡ k →
      ((ds : List Definition) → Binds ns roots ds → Fills ds k (siblings ns (n + 1) (n + (row_at ns n).size))) → FillsAt ns roots n
  as-kind e f ds b = subst (λ (k : Kind). Fills ds k (siblings ns (n + 1) (n + (row_at ns n).size))) (sym e) (f ds b)

  pub leaf-fills : (kind_at ns n ≡ 16 → ⊥) → (kind_at ns n ≡ 18 → ⊥) → (kind_at ns n ≡ 21 → ⊥) → (kind_at ns n ≡ 22 → ⊥) → FillsAt ns roots n
  leaf-fills a b c d ds _ = of_else (node-leaf (row_at ns n) (x.row n inside).kind a b c d)

  pub fields-fill : kind_at ns n ≡ 21 → ((c : ℕ) → Memᴰ c (within ns n) → FillsAt ns roots c) → FillsAt ns roots n
  fields-fill e all = as-kind (node-record (row_at ns n) e) (λ ds b. of_fields (λ f kids i. each ds b f kids i))
    where
      each : (ds : List Definition) → Binds ns roots ds → (f : node.Node) (kids : Forest node.Node) →
          Beside f kids (siblings ns (n + 1) (n + (row_at ns n).size)) → Fills ds f.kind kids
      each ds b f kids i =
          let r = beside-place (x.tree n inside).whole i in
          subst (Fills ds f.kind) r.3 (subst (λ (g : node.Node). Fills ds g.kind (siblings ns (r.0 + 1) (r.0 + (row_at ns r.0).size))) r.2 (all r.0 r.1 ds b))

  pub case-fills : kind_at ns n ≡ 22 → {c : ℕ} → Memᴰ c (within ns n) → FillsAt ns roots c → FillsAt ns roots n
  case-fills e i f = as-kind (node-variant (row_at ns n) e) (λ ds b. of_case (place-beside (x.tree n inside).whole i) (f ds b))

  pub root-fills : kind_at ns n ≡ 18 → (root_at ns roots n ≡ 65535 → ⊥) → root_at ns roots n < nodes → FillsAt ns roots (root_at ns roots n) → FillsAt ns roots n
  root-fills k some l f =
      as-kind (node-var (row_at ns n) k) (λ ds b.
      (name-fills ds (siblings ns (n + 1) (n + (row_at ns n).size))
      (b (row_at ns n).value ∙ found-some ns (root_at ns roots n) some ∙ ap body (tree-opens (x.tree (root_at ns roots n) l).whole))).1 (f ds b))

-- ---- What a node waits for
module _ (k : ℕ) where
  pub waits-name : k ≡ 18 → filling_wait k ≡ OfName
  unfolding filling_wait
  waits-name e = rw e refl

  pub waits-record : k ≡ 21 → filling_wait k ≡ All
  unfolding filling_wait
  waits-record e = rw e refl

  pub waits-variant : k ≡ 22 → filling_wait k ≡ One
  unfolding filling_wait
  waits-variant e = rw e refl

  pub waits-empty : k ≡ 16 → filling_wait k ≡ Ever
  unfolding filling_wait
  waits-empty e = rw e refl

  pub waits-leaf : (k ≡ 16 → ⊥) → (k ≡ 18 → ⊥) → (k ≡ 21 → ⊥) → (k ≡ 22 → ⊥) → filling_wait k ≡ Nothing
  unfolding filling_wait
  waits-leaf a b c d = rw (ne_eqb k 18 b, ne_eqb k 21 c, ne_eqb k 22 d, ne_eqb k 16 a) refl
