-- The book that bytes are, and the tables of its names. Assumes nothing.
--     read-is               bytes that are a book are the one that is read from them
--     admitted-stands, ..   what an admitted book gives
--     hashed-none           no name is hashed
use mathlib.Core.Path.{◌≡◌, sym, ap, subst, ◌∙◌}
use mathlib.Core.Bool.{Bool, true, false, cond, ◌&&◌}
use mathlib.Core.List.{List}
use Rattle.std.specs.Prelude.{Option, Some, None}
use Prim.Native.Nat.{ℕ, ◌≤◌}
use native.Mathlib.Omega.{arith}
use lib.ListN.{length, replicate}
use Rattle.format.specs.Forest.{count}
use Rattle.format.specs.Book.{Book, trees}
use Rattle.format.specs.Encode.{encode}
use Rattle.format.specs.Fits.{fits}
use Rattle.format.specs.Layout.{nodes_part, same, read, broken, whole, layout}
use Rattle.format.proofs.References.{everywhere}
use Rattle.book.specs.declared.kinds.Contents.{Contents}
use Rattle.book.specs.Reading.{Admitted}
use Rattle.book.proofs.Named.{names-few}
use Rattle.book.proofs.Opened.{names-count, nodes-count}
use Rattle.repeats.specs.Steps.{Stands, Hashed}

pub read-is : (bs : List ℕ) (b : Book) → layout bs ≡ whole b → read bs ≡ b
unfolding layout
read-is bs b e = go (fits (read bs) && same (encode (read bs)) bs) e
  where
    go : (t : Bool) → cond t (whole (read bs)) broken ≡ whole b → read bs ≡ b
    go true e = cc
    go false e = let z : ◌≡◌ {A = ℕ} 0 1 = cc in let f : ⊥ = omega arith in absurd f

-- ---- An admitted book
module _ {bs : List ℕ} {c : Contents} (a : Admitted bs c) where
  is : read bs ≡ a.book
  is = read-is bs a.book a.laid

  pub admitted-stands : {ns : List ℕ} → ns ≡ nodes_part bs → Stands bs ns
  admitted-stands e = record { laid = a.laid ∙ ap whole (sym is); rows = e }

  pub admitted-nodes : c.nodes ≡ count (trees (read bs))
  admitted-nodes = nodes-count a ∙ ap (λ (b : Book). count (trees b)) (sym is)

  pub admitted-few : length (read bs).names ≤ 1024
  admitted-few = subst (λ (b : Book). length b.names ≤ 1024) (sym is) (omega (arith, names-count a, names-few a))

-- ---- Label numbers
pub hashed-none : (bs : List ℕ) → Hashed bs (replicate 1024 None)
hashed-none bs = record { right = λ n v e. let z : ◌≡◌ {A = Option ℕ} None (Some v) = sym (everywhere {A = Option ℕ} 1024 n None) ∙ e in cc }
