-- From what `layout` answers to the book, and its names. Assumes nothing.
use mathlib.Core.Path.{◌≡◌, refl, sym, ap, ◌∙◌}
use mathlib.Core.List.{List, []}
use Prim.Native.Nat.{ℕ, ◌≤◌}
use native.Mathlib.Omega.{arith}
use lib.ListN.{length, get_or, get_or-eq_default}
use Rattle.format.specs.Encode.{name_bytes, names_bytes}
use Rattle.refusals.specs.Lists.{flat}
use Rattle.format.specs.Layout.{names_of, part, names_part, Layout, broken, whole, layout, name_in}
use Rattle.format.proofs.Names.{names-all}
use Rattle.format.proofs.Encoded.{fit-parts, placed, names-part}
use Rattle.format.proofs.Theorems.{found}
use Rattle.book.specs.declared.kinds.Contents.{Contents}
use Rattle.std.specs.Prelude.{None, Some}
use Rattle.book.specs.Reading.{contents_of, as_reading, reading, Admitted}
use Rattle.book.specs.Tables.{NamesIn}

-- ---- the book of a reading
pub broken-of : (bs : List ℕ) → None ≡ reading bs → layout bs ≡ broken
unfolding reading
broken-of bs e = go (layout bs) e
  where
    go : (l : Layout) → None ≡ as_reading l → l ≡ broken
    go broken e = refl
    go (whole b) e = let z : ◌≡◌ {A = ℕ} 0 1 = cc in let f : ⊥ = omega arith in absurd f

pub name-broken : (bs : List ℕ) (n : ℕ) → None ≡ reading bs → [] ≡ name_in bs n
unfolding name_in
name-broken bs n e = rw (broken-of bs e)

pub book-of : (bs : List ℕ) (c : Contents) → Some c ≡ reading bs → Admitted bs c
unfolding reading
book-of bs c e = go (layout bs) refl e
  where
    go : (l : Layout) → layout bs ≡ l → Some c ≡ as_reading l → Admitted bs c
    go broken w e = let z : ◌≡◌ {A = ℕ} 0 1 = cc in let f : ⊥ = omega arith in absurd f
    go (whole b) w e = record { book = b; laid = w; table = cc }

-- and the reading of such a book
pub laid-of : {bs : List ℕ} {c : Contents} → Admitted bs c → Some c ≡ reading bs
unfolding reading
laid-of o = sym (rw (o.laid, o.table))

module _ {bs : List ℕ} {c : Contents} (o : Admitted bs c) where
  pub names-are : length o.book.names ≡ c.names
  unfolding contents_of
  names-are = ap (λ (d : Contents). d.names) o.table

  pub names-few : c.names ≤ 1024
  names-few = omega (arith, (fit-parts ((found bs o.book).0 o.laid).0).few_names, names-are)

  part-is : part 32 c.nodes_at bs ≡ names_bytes o.book
  unfolding contents_of names_part
  part-is =
      let f = (found bs o.book).0 o.laid in
      let p = fit-parts f.0 in
      let at = ap (λ (d : Contents). d.nodes_at) (sym o.table) ∙ (placed p).nodes_at in
      rw (at, ← f.1) (names-part p)

  names-listed : names_of (length (part 32 c.nodes_at bs)) (part 32 c.nodes_at bs) ≡ o.book.names
  unfolding names_bytes
  names-listed = rw part-is (names-all o.book.names)

  pub names-in : NamesIn (part 32 c.nodes_at bs) c.names
  unfolding names_bytes
  names-in = record { filled = ap (flat name_bytes) names-listed ∙ sym part-is; counted = ap length names-listed ∙ names-are; few = names-few }

  pub name-there : (n : ℕ) → get_or (names_of (length (part 32 c.nodes_at bs)) (part 32 c.nodes_at bs)) n [] ≡ name_in bs n
  unfolding name_in
  name-there n = rw (names-listed, o.laid)

  pub name-outside : (n : ℕ) → c.names ≤ n → [] ≡ name_in bs n
  unfolding name_in
  name-outside n h = rw o.laid (sym (get_or-eq_default o.book.names [] (omega (arith, names-are))))

  pub names-start : 32 ≤ c.nodes_at
  unfolding contents_of
  names-start = omega (arith, ap (λ (d : Contents). d.nodes_at) o.table)

  pub names-within : c.nodes_at ≤ length bs
  unfolding contents_of
  names-within =
      let f = (found bs o.book).0 o.laid in
      let p = placed (fit-parts f.0) in
      omega (arith, ap (λ (d : Contents). d.nodes_at) o.table, p.nodes_at, p.definitions_at, p.files_at, p.ends, ap length f.1)
