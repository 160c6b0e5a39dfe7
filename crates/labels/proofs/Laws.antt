-- The laws of the label number, and that its two definitions agree. Assumes nothing.
use Rattle.std.proofs.Common.{◌≡◌, ℕ, ◌+◌, ◌*◌, ◌%◌, ◌^◌, ◌<◌, List, [], ◌∷◌, ◌++◌, length, sym, refl, ap, ◌∙◌, add-zero, add_assoc, mod-lt, mod-eq_of_lt, mul_assoc, add-mul, zero-add, zero-mul, mul-one, arith, length-append, pow_pos, pow-add}
use Rattle.std.proofs.lemmas.Nat.{mul-mod_first}
use native.Mathlib.Nat.{mod-add-mod, pow-succ', pow-zero}
use Rattle.labels.specs.Number.{weighted_sum, label_number, fold_from, label_fold}

-- A factor in a sum may be taken modulo m first.
mod-mul-add-mod : (a b c m : ℕ) → (a % m * b + c) % m ≡ (a * b + c) % m
mod-mul-add-mod a b c m = sym (mod-add-mod (a % m * b) m c) ∙ rw (mul-mod_first a b m) (mod-add-mod (a * b) m c)

-- A last byte more: all before it count 223 times as much.
weighted_sum-append : (bs : List ℕ) (b : ℕ) → weighted_sum (bs ++ (b ∷ [])) ≡ weighted_sum bs * 223 + b
unfolding weighted_sum
weighted_sum-append [] b = rw (pow-zero, mul-one) (omega arith)
weighted_sum-append (a ∷ bs) b =
    rw (weighted_sum-append bs b, length-append bs (b ∷ []), pow-add 223 (length bs) 1) (simp (add-mul, mul_assoc, add_assoc))

-- From s on, s counts as a byte before the others would.
fold_from-sum : (s : ℕ) (bs : List ℕ) → s < 2 ^ 32 → fold_from s bs ≡ (s * 223 ^ length bs + weighted_sum bs) % 2 ^ 32
unfolding fold_from weighted_sum
fold_from-sum s [] h = rw (pow-zero, mul-one, add-zero) (sym (mod-eq_of_lt h))
fold_from-sum s (b ∷ bs) h =
    fold_from-sum ((s * 223 + b) % 2 ^ 32) bs (mod-lt (s * 223 + b) (pow_pos 32))
    ∙ mod-mul-add-mod (s * 223 + b) (223 ^ length bs) (weighted_sum bs) (2 ^ 32)
    ∙ rw (pow-succ' 223 (length bs)) (simp (add-mul, mul_assoc, add_assoc))

-- The two definitions agree.
pub label_fold-label_number : (bs : List ℕ) → label_fold bs ≡ label_number bs
unfolding label_fold label_number
label_fold-label_number bs = fold_from-sum 0 bs (pow_pos 32) ∙ simp (zero-mul, zero-add)

-- The empty name, the bound, one byte more, and a name of one byte.
pub label_number-empty : label_number [] ≡ 0
unfolding label_number weighted_sum
label_number-empty = refl

pub label_number-below : (bs : List ℕ) → label_number bs < 2 ^ 32
unfolding label_number
label_number-below bs = mod-lt (weighted_sum bs) (pow_pos 32)

pub label_number-append : (bs : List ℕ) (b : ℕ) → label_number (bs ++ (b ∷ [])) ≡ (label_number bs * 223 + b) % 2 ^ 32
unfolding label_number
label_number-append bs b = ap (λ (x : ℕ). x % 2 ^ 32) (weighted_sum-append bs b) ∙ sym (mod-mul-add-mod (weighted_sum bs) 223 b (2 ^ 32))

pub label_number-byte : (b : ℕ) → b < 256 → label_number (b ∷ []) ≡ b
label_number-byte b h = label_number-append [] b ∙ rw (label_number-empty, zero-add) (mod-eq_of_lt (omega arith))
