-- From the node that is found to the verdict of the book's labels. Assumes nothing.
use mathlib.Core.Path.{◌≡◌, refl, sym, ap, subst, ◌∙◌}
use mathlib.Core.List.{List}
use Prim.Native.Nat.{ℕ, zero, suc, ◌+◌, ◌<◌}
use native.Mathlib.Omega.{arith}
use lib.ListN.{length}
use Rattle.refusals.specs.declared.Refusal.TheVariants.{Repeated}
use Rattle.std.specs.Prelude.{Err}
use Rattle.refusals.specs.Verdict.{passes}
use Rattle.format.specs.Forest.{count}
use Rattle.format.specs.Node.{Labelled, Node}
use Rattle.format.specs.Book.{Book, trees}
use Rattle.format.specs.Encode.{Row}
use Rattle.format.specs.Layout.{row_at, label_of, node_of, nodes_part, read, whole, layout}
use Rattle.format.specs.Whole.{Within, RowFits}
use Rattle.format.specs.Repeats.{RepeatAt, spelling, labels_verdict}
use Rattle.format.proofs.Numbered.{RowStands, node-only, node-at}
use Rattle.format.proofs.Repeats.{repeat-node, apart-labels, labels-say, first-refused}
use Rattle.format.proofs.Admitted.{trees-are, trees-whole, node-stored}
use Rattle.book.proofs.Named.{names-are, names-few}
use Rattle.book.specs.declared.kinds.Contents.{Contents}
use Rattle.book.specs.declared.read.Node as stored
use Rattle.book.specs.Reading.{Admitted, as_row}
use Rattle.repeats.proofs.Tables.{read-is}
use Rattle.repeats.specs.Found.{NoRepeat, FirstRepeat}

-- ---- A label that is spelled, and one that is not
spelled : (v : ℕ) → spelling (label_of 2 v) ≡ v
unfolding spelling label_of
spelled v = refl

unspelled : (k v : ℕ) → (k ≡ 2 → ⊥) → spelling (label_of k v) ≡ 65535
unfolding spelling label_of
unspelled zero v n = refl
unspelled (suc zero) v n = refl
unspelled (suc (suc zero)) v n = absurd (n refl)
unspelled (suc (suc (suc k))) v n = refl

module _ {bs : List ℕ} {c : Contents} (o : Admitted bs c) where
  -- the layout has one book
  book-is : (b : Book) → layout bs ≡ whole b → o.book ≡ b
  book-is b w = one (sym o.laid ∙ w)
    where
      one : {a b : Book} → whole a ≡ whole b → a ≡ b
      one e = cc

  pub labels-pass : NoRepeat (read bs) → (b : Book) → layout bs ≡ whole b → passes ≡ labels_verdict b
  labels-pass none b w = sym ((labels-say b).1 (apart-labels b.names (trees b) (subst NoRepeat (read-is bs b w) none)))

  module _ {r : ℕ} (first : FirstRepeat (read bs) r) where
    found : FirstRepeat o.book r
    found = subst (λ (b : Book). FirstRepeat b r) (read-is bs o.book o.laid) first

    few : r < count (trees o.book)
    few = found.inside

    pub repeat-within : Within (nodes_part bs) (r + 1)
    repeat-within = let t = (trees-whole bs o.laid).within in record { held = omega (arith, t.held, few); few = t.few }

    pub repeat-fits : RowFits (length o.book.names) (row_at (nodes_part bs) r)
    repeat-fits = (node-stored bs o.laid r few).row

    -- the label is that of the row
    label-is : (l : Labelled) → RepeatAt o.book.names (trees o.book) r l → l ≡ (node_of (row_at (nodes_part bs) r)).label
    label-is l x =
        let n = subst (RowStands (nodes_part bs) r r) (trees-are bs o.laid) (node-at (trees-whole bs o.laid) r few) in
        x.label ∙ ap (λ (m : Node). m.label) (node-only (repeat-node o.book.names x) n).0

    refused : labels_verdict o.book ≡ Err (Repeated (spelling (node_of (row_at (nodes_part bs) r)).label))
    refused =
        let (l, first) = found.found in
        first-refused o.book (record { j = r; l = l; first = first; named = ap spelling (sym (label-is l first.is)) })

    module _ (n : stored.Node) (row : as_row n ≡ row_at (nodes_part bs) r) where
      at-label : (node_of (row_at (nodes_part bs) r)).label ≡ label_of n.label_kind n.label
      unfolding node_of
      at-label = ap (λ (q : Row). label_of q.lkind q.label) (sym row)

      name-few : n.label_kind ≡ 2 → n.label < length o.book.names
      name-few k = subst (λ (q : Row). q.lkind ≡ 2 → q.label < length o.book.names) (sym row) repeat-fits.label k

      pub spelling-fits : n.label_kind ≡ 2 → n.label < 1024
      spelling-fits k = omega (arith, name-few k, names-are o, names-few o)

      pub spelled-refused : n.label_kind ≡ 2 → (b : Book) → layout bs ≡ whole b → Err (Repeated n.label) ≡ labels_verdict b
      spelled-refused k b w =
          subst (λ (d : Book). Err (Repeated n.label) ≡ labels_verdict d) (book-is b w)
          (sym (refused ∙ ap (λ (s : ℕ). Err (Repeated s)) (ap spelling (at-label ∙ ap (λ (x : ℕ). label_of x n.label) k) ∙ spelled n.label)))

      pub unspelled-refused : (n.label_kind ≡ 2 → ⊥) → (b : Book) → layout bs ≡ whole b → Err (Repeated 65535) ≡ labels_verdict b
      unspelled-refused k b w =
          subst (λ (d : Book). Err (Repeated 65535) ≡ labels_verdict d) (book-is b w)
          (sym (refused ∙ ap (λ (s : ℕ). Err (Repeated s)) (ap spelling at-label ∙ unspelled n.label_kind n.label k)))
