-- A table that is filled with what stands for nothing has nothing. Assumes nothing.
use mathlib.Core.Path.{◌≡◌, ap, ◌∙◌}
use mathlib.Core.List.{List}
use Prim.Native.Nat.{ℕ}
use lib.ListN.{replicate}
use Rattle.book.specs.Tables.{blank_table, zero_table}

module _ {n : ℕ} {table : List ℕ} (long : n ≡ 1024) where
  pub blank-filled : table ≡ replicate n 65535 → table ≡ blank_table
  unfolding blank_table
  blank-filled is = is ∙ ap (λ (k : ℕ). replicate k 65535) long

  pub zero-filled : table ≡ replicate n 0 → table ≡ zero_table
  unfolding zero_table
  zero-filled is = is ∙ ap (λ (k : ℕ). replicate k 0) long
