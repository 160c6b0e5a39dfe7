-- The number of a name, given by its bytes. Assumes nothing: these are definitions.
use Rattle.std.specs.Prelude.{ℕ, ◌+◌, ◌*◌, ◌%◌, ◌^◌, List, [], ◌∷◌, length, fold}

-- A byte with n bytes after it counts as the byte times 223 to the power n.
unfoldable pub weighted_sum : List ℕ → ℕ
weighted_sum [] = 0
weighted_sum (b ∷ bs) = b * 223 ^ length bs + weighted_sum bs

-- Candid: the number of a name is the sum over its bytes of byte(i) · 223^(k − i), k the last index, modulo 2^32.
unfoldable pub label_number : List ℕ → ℕ
label_number bs = weighted_sum bs % 2 ^ 32

-- The same as a computation, from s on: for each byte, times 223 plus the byte, kept modulo 2^32.
unfoldable pub fold_from : ℕ → List ℕ → ℕ
fold_from s bs = fold (λ a b. (a * 223 + b) % 2 ^ 32) s bs

-- From 0 on. (Laws.antt: `label_fold bs ≡ label_number bs`.)
unfoldable pub label_fold : List ℕ → ℕ
label_fold bs = fold_from 0 bs
