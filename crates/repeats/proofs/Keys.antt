-- The keys of rows, and of trees that stand beside each other. Assumes nothing.
--     method-key, field-key, name-key   what a row's key is
--     keys-length, keys-at              those of siblings, one for each
use mathlib.Core.Path.{◌≡◌, refl, sym, ap, ◌∙◌}
use mathlib.Core.List.{List}
use Prim.Native.Nat.{ℕ, zero, suc, ◌<◌}
use native.Mathlib.Omega.{arith}
use lib.ListN.{length, get_or}
use Rattle.labels.specs.Number.{label_number}
use Rattle.format.specs.declared.Place.{Place}
use Rattle.format.specs.declared.Place.TheVariants.{Root, Field, Method, Inner}
use Rattle.format.specs.Forest.{Forest, end, tree, breadth}
use Rattle.format.specs.Node.{Labelled, Node, label_value}
use Rattle.format.specs.Encode.{Row, row_of}
use Rattle.format.specs.Layout.{label_of, node_of, read, whole, layout, name_in}
use Rattle.format.specs.Whole.{RowFits}
use Rattle.format.specs.Labels.{label_id, keys_of}
use Rattle.format.proofs.Numbered.{roots}
use Rattle.repeats.specs.Keys.{key_of}

-- ---- Of a row
module _ {n : ℕ} {r : Row} (f : RowFits n r) where
  stored : label_value (node_of r).label ≡ r.label
  unfolding row_of
  stored = ap (λ (q : Row). q.label) f.same

  pub method-key : (names : List (List ℕ)) (p : Place) → (p ≡ Field → ⊥) → r.label ≡ key_of p names (node_of r).label
  method-key names Field h = absurd (h refl)
  method-key names Method h = sym stored
  method-key names Root h = sym stored
  method-key names Inner h = sym stored

  pub field-key : (names : List (List ℕ)) → (r.lkind ≡ 2 → ⊥) → r.label ≡ key_of Field names (node_of r).label
  unfolding node_of label_of label_id label_value
  field-key names h = sym (go r.lkind r.label f.lkind h ∙ stored)
    where
      go : (k v : ℕ) → k < 4 → (k ≡ 2 → ⊥) → label_id names (label_of k v) ≡ label_value (label_of k v)
      go zero v l h = refl
      go (suc zero) v l h = refl
      go (suc (suc zero)) v l h = absurd (h refl)
      go (suc (suc (suc zero))) v l h = refl
      go (suc (suc (suc (suc k)))) v l h = absurd (omega arith)

pub name-key : (bs : List ℕ) (r : Row) → layout bs ≡ whole (read bs) → r.lkind ≡ 2 →
    label_number (name_in bs r.label) ≡ key_of Field (read bs).names (node_of r).label
unfolding node_of label_of label_id name_in
name-key bs r w h = rw (w, h)

-- ---- Of siblings
pub keys-length : (key : Labelled → ℕ) (f : Forest Node) → length (keys_of key f) ≡ breadth f
unfolding keys_of breadth
keys-length key end = refl
keys-length key (tree n kids next) = ap suc (keys-length key next)

pub keys-at : (key : Labelled → ℕ) (f : Forest Node) (o : ℕ) (n : Node) → o < breadth f → get_or (roots f) o n ≡ n → get_or (keys_of key f) o 0 ≡ key n.label
unfolding keys_of roots breadth
keys-at key end o n h e = absurd (omega arith)
keys-at key (tree m kids next) zero n h e = ap (λ (q : Node). key q.label) e
keys-at key (tree m kids next) (suc o) n h e = keys-at key next o n (omega arith) e
