-- The loop that gathers the keys of siblings: those before node i stand in front, and those from it on are left. Assumes nothing.
use mathlib.Core.Path.{◌≡◌, refl, sym, ap, ◌∙◌}
use mathlib.Core.List.{List, [], ◌∷◌, ◌++◌, append_assoc, append-nil}
use Prim.Native.Nat.{ℕ, ◌+◌, ◌≤◌, ◌<◌}
use native.Mathlib.Omega.{arith}
use lib.ListN.{length, length-append}
use Rattle.format.specs.declared.Place.{Place}
use Rattle.format.specs.Forest.{Forest, count}
use Rattle.format.specs.Node.{Node}
use Rattle.format.specs.Book.{trees}
use Rattle.format.specs.Layout.{row_at, node_of, siblings, read}
use Rattle.format.specs.Whole.{RowFits}
use Rattle.format.proofs.Rows.{opens, siblings-none, siblings-opens}
use Rattle.format.proofs.Admitted.{node-stored}
use Rattle.format.specs.Labels.{keys_of}
use Rattle.repeats.specs.Keys.{key_of}
use Rattle.repeats.specs.Steps.{Stands, Between}

-- The row of a node of the book.
pub row-fits : {bs ns : List ℕ} → Stands bs ns → (n : ℕ) → n < count (trees (read bs)) → RowFits (length (read bs).names) (row_at ns n)
row-fits {bs} s n h = rw s.rows (node-stored bs s.laid n h).row

-- ---- The loop
pub record Left (bs ns keys : List ℕ) (place : Place) (from e i : ℕ) : Type 0 where
  pub between : Between bs ns i e
  pub few : length keys ≤ i
  pub are :
      keys ++ keys_of (key_of place (read bs).names) (siblings ns i e)
      ≡ keys_of (key_of place (read bs).names) (siblings ns from e)

pub left-start : {bs ns : List ℕ} {from e : ℕ} → Between bs ns from e → (place : Place) → Left bs ns [] place from e from
left-start b place = record { between = b; few = omega arith; are = refl }

module _ {bs ns keys : List ℕ} {place : Place} {from e i : ℕ} (l : Left bs ns keys place from e i) where
  pub left-end : i ≡ e → keys ≡ keys_of (key_of place (read bs).names) (siblings ns from e)
  unfolding keys_of
  left-end h =
      let key = key_of place (read bs).names in
      sym (append-nil keys) ∙ ap (λ (f : Forest Node). keys ++ keys_of key f) (sym (siblings-none ns i e (omega arith))) ∙ l.are

  module _ (h : i < e) where
    pub left-fits : Stands bs ns → RowFits (length (read bs).names) (row_at ns i)
    left-fits s = row-fits s i (omega (arith, l.between.inside))

    pub left-on : {v : ℕ} → v ≡ key_of place (read bs).names (node_of (row_at ns i)).label → Left bs ns (keys ++ (v ∷ [])) place from e (i + (row_at ns i).size)
    unfolding keys_of
    left-on {v = v} y =
        let key = key_of place (read bs).names in
        let o = opens l.between.whole h in
        let rest = keys_of key (siblings ns (i + (row_at ns i).size) e) in
        record {
          between = record { whole = o.rest; inside = l.between.inside };
          few = omega (arith, l.few, o.here.one, length-append keys (v ∷ []));
          are =
              rw (append_assoc keys (v ∷ []) rest)
              (ap (λ (x : ℕ). keys ++ (x ∷ rest)) y ∙ ap (λ (f : Forest Node). keys ++ keys_of key f) (sym (siblings-opens o)) ∙ l.are);
        }
