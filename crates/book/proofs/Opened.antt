-- The parts of an admitted book, where its table of contents says. Assumes nothing.
use mathlib.Core.Path.{◌≡◌, sym, ap, ◌∙◌}
use mathlib.Core.List.{List}
use Prim.Native.Nat.{ℕ, ◌+◌, ◌≤◌}
use native.Mathlib.Omega.{arith}
use lib.ListN.{length}
use Rattle.format.specs.Forest.{count}
use Rattle.format.specs.Book.{trees}
use Rattle.format.specs.Encode.{nodes_bytes, definitions_bytes}
use Rattle.format.specs.Layout.{le32, part, names_part, nodes_part, definitions_part, files_part}
use Rattle.format.proofs.Encoded.{Placed}
use Rattle.format.proofs.Admitted.{admitted-placed}
use Rattle.book.specs.declared.kinds.Contents.{Contents}
use Rattle.book.specs.Reading.{contents_of, Admitted}

module _ {bs : List ℕ} {c : Contents} (a : Admitted bs c) where
  placed : Placed bs a.book
  placed = admitted-placed bs a.laid

  pub names-count : c.names ≡ length a.book.names
  unfolding contents_of
  names-count = ap (λ (d : Contents). d.names) (sym a.table)

  pub nodes-count : c.nodes ≡ count (trees a.book)
  unfolding contents_of
  nodes-count = ap (λ (d : Contents). d.nodes) (sym a.table)

  pub definitions-count : c.definitions ≡ length a.book.definitions
  unfolding contents_of
  definitions-count = ap (λ (d : Contents). d.definitions) (sym a.table)

  pub files-count : c.files ≡ length a.book.files
  unfolding contents_of
  files-count = ap (λ (d : Contents). d.files) (sym a.table)

  nodes-at : c.nodes_at ≡ le32 bs 8
  unfolding contents_of
  nodes-at = ap (λ (d : Contents). d.nodes_at) (sym a.table) ∙ placed.nodes_at

  definitions-at : c.definitions_at ≡ le32 bs 16
  unfolding contents_of
  definitions-at = ap (λ (d : Contents). d.definitions_at) (sym a.table) ∙ ap (λ (n : ℕ). n + length (nodes_bytes a.book)) placed.nodes_at ∙ placed.definitions_at

  files-at : c.files_at ≡ le32 bs 24
  unfolding contents_of
  files-at =
      ap (λ (d : Contents). d.files_at) (sym a.table)
      ∙ ap (λ (n : ℕ). n + length (nodes_bytes a.book) + length (definitions_bytes a.book)) placed.nodes_at
      ∙ ap (λ (n : ℕ). n + length (definitions_bytes a.book)) placed.definitions_at
      ∙ placed.files_at

  pub names-here : part 32 c.nodes_at bs ≡ names_part bs
  unfolding names_part
  names-here = rw nodes-at

  pub nodes-here : part c.nodes_at c.definitions_at bs ≡ nodes_part bs
  unfolding nodes_part
  nodes-here = rw (nodes-at, definitions-at)

  pub definitions-here : part c.definitions_at c.files_at bs ≡ definitions_part bs
  unfolding definitions_part
  definitions-here = rw (definitions-at, files-at)

  pub files-here : part c.files_at (length bs) bs ≡ files_part bs
  unfolding files_part
  files-here = rw files-at

  pub record Bounds : Type 0 where
    pub one : 32 ≤ c.nodes_at
    pub two : c.nodes_at ≤ c.definitions_at
    pub three : c.definitions_at ≤ c.files_at
    pub four : c.files_at ≤ length bs

  pub bounds : Bounds
  bounds =
      record {
        one = omega (arith, nodes-at, placed.nodes_at);
        two = omega (arith, nodes-at, definitions-at, placed.definitions_at);
        three = omega (arith, definitions-at, files-at, placed.files_at);
        four = omega (arith, files-at, placed.ends);
      }
