-- How a number prints: in decimal, with no zeros in front. Definitions; assumes nothing.
use Rattle.std.specs.Prelude.{cond, List, [], ◌∷◌, ◌++◌, ℕ, zero, suc, ◌+◌, ◌-◌, ◌*◌, ◌/◌, ◌%◌, ltb}

-- The last digit of n; `0` is 48.
unfoldable pub digit : ℕ → ℕ
digit n = 48 + n % 10

-- The digits of n, at most k of them, the last ones.
unfoldable pub digits : ℕ → ℕ → List ℕ
digits zero n = []
digits (suc k) n = cond (ltb n 10) (digit n ∷ []) (digits k (n / 10) ++ (digit n ∷ []))

-- All its digits: a number has at most as many as it counts, and 0 has one.
unfoldable pub decimal : ℕ → List ℕ
decimal n = digits (suc n) n

-- The number that digits stand for, after a number n. (Laws.antt: `value_from 0 (decimal n) ≡ n`.)
unfoldable pub value_from : ℕ → List ℕ → ℕ
value_from n [] = n
value_from n (d ∷ ds) = value_from (n * 10 + (d - 48)) ds
