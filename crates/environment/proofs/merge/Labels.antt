-- What label numbers by name number say of stored labels. Assumes nothing.
--     id-by                                   the number of a label
--     label-in, node-kind, node-same, ..      stored nodes
use mathlib.Core.Path.{◌≡◌, refl, sym, ap, ap₂, subst, ◌∙◌}
use mathlib.Core.Bool.{Bool, false, ◌&&◌}
use mathlib.Core.List.{List}
use Prim.Native.Nat.{ℕ, zero, suc, ◌<◌}
use borrow.Author.Tests.{eq-eqb, ne_eqb}
use lib.Dec.{eqb}
use Rattle.labels.specs.declared.Label.{Label}
use Rattle.labels.specs.declared.Label.TheVariants.{Id, Named, Unnamed}
use Rattle.labels.specs.Label.{id_by}
use Rattle.format.specs.declared.Place.{Place}
use Rattle.format.specs.declared.Place.TheVariants.{Root, Field, Method, Inner}
use Rattle.format.specs.Node.{Labelled, unlabelled, labelled, kind_number, value_number, label_value}
use Rattle.format.specs.Encode.{Row, row_of}
use Rattle.format.specs.Layout.{label_of, node_of}
use Rattle.format.specs.Whole.{RowFits}
use Rattle.judgement.specs.Environment.{same_kind}
use Rattle.format.specs.Labels.{label_id, same_label}
use Rattle.book.specs.Reading.{label_or}
use Rattle.book.specs.Tables.{HashesAgree}
use Rattle.environment.specs.Merging.{NameIn, hash_in, same_node}

-- ---- a label's number, by the table
pub id-by : (hashes : List ℕ) (names : List (List ℕ)) → HashesAgree hashes names → (l : Label) → id_by l (hash_in hashes l) ≡ label_id names (labelled l)
unfolding label_id
id-by hashes names agree (Id n) = refl
id-by hashes names agree (Named n) = agree n
id-by hashes names agree (Unnamed n) = refl

-- ---- a label as a row has it: where there is none, the number that stands there
id-or : (names : List (List ℕ)) (l : Labelled) (n : ℕ) → label_value l ≡ n → label_id names (labelled (label_or n l)) ≡ label_id names l
unfolding label_id label_value
id-or names unlabelled n e = sym e
id-or names (labelled l) n e = refl

value-or : (l : Labelled) (n : ℕ) → label_value l ≡ n → label_value (labelled (label_or n l)) ≡ label_value l
unfolding label_value
value-or unlabelled n e = sym e
value-or (labelled l) n e = refl

same-or : (names : List (List ℕ)) (p : Place) (l m : Labelled) {i j : ℕ} → label_value l ≡ i → label_value m ≡ j →
    same_label names p (labelled (label_or i l)) (labelled (label_or j m)) ≡ same_label names p l m
unfolding same_label
same-or names Root l m d e = refl
same-or names Field l m d e = ap₂ eqb (id-or names l _ d) (id-or names m _ e)
same-or names Method l m d e = ap₂ eqb (value-or l _ d) (value-or m _ e)
same-or names Inner l m d e = refl

name-or : (k v : ℕ) → (k ≡ 2 → v < 1024) → NameIn (label_or v (label_of k v))
unfolding label_of
name-or zero v h = tt
name-or (suc zero) v h = tt
name-or (suc (suc zero)) v h = h refl
name-or (suc (suc (suc k))) v h = tt

-- ---- a stored node
module _ {r : Row} (f : RowFits 1024 r) where
  row-kind : kind_number (node_of r).kind ≡ r.kind
  unfolding row_of
  row-kind = ap (λ (q : Row). q.kind) f.same

  row-value : value_number (node_of r).kind ≡ r.value
  unfolding row_of
  row-value = ap (λ (q : Row). q.value) f.same

  row-label : label_value (label_of r.lkind r.label) ≡ r.label
  unfolding row_of node_of
  row-label = ap (λ (q : Row). q.label) f.same

  pub label-in : {l : Label} → l ≡ label_or r.label (label_of r.lkind r.label) → NameIn l
  label-in e = subst NameIn (sym e) (name-or r.lkind r.label f.label)

module _ {r s : Row} (f : RowFits 1024 r) (g : RowFits 1024 s) (names : List (List ℕ)) (p : Place) where
  kinds-are : same_kind (node_of r).kind (node_of s).kind ≡ (eqb r.kind s.kind && eqb r.value s.value)
  unfolding same_kind
  kinds-are = rw (row-kind f, row-kind g, row-value f, row-value g)

  pub node-kind : (r.kind ≡ s.kind → ⊥) → false ≡ same_node names p (node_of r) (node_of s)
  unfolding same_node
  node-kind h = rw (kinds-are, ne_eqb r.kind s.kind h)

  pub node-value : r.kind ≡ s.kind → (r.value ≡ s.value → ⊥) → false ≡ same_node names p (node_of r) (node_of s)
  unfolding same_node
  node-value e h = rw (kinds-are, eq-eqb r.kind s.kind e, ne_eqb r.value s.value h)

  pub node-same : r.kind ≡ s.kind → r.value ≡ s.value → {l m : Label} →
      l ≡ label_or r.label (label_of r.lkind r.label) → m ≡ label_or s.label (label_of s.lkind s.label) →
      {b : Bool} → b ≡ same_label names p (labelled l) (labelled m) → b ≡ same_node names p (node_of r) (node_of s)
  unfolding same_node node_of
  node-same e h d c b =
      b ∙ ap₂ (λ (x y : Label). same_label names p (labelled x) (labelled y)) d c
      ∙ same-or names p (label_of r.lkind r.label) (label_of s.lkind s.label) (row-label f) (row-label g)
      ∙ rw (kinds-are, eq-eqb r.kind s.kind e, eq-eqb r.value s.value h)
