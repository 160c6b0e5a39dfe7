-- Numbers for files: the list that the code's array and count are. Definitions, and that they are the list's again; assumes nothing.
use Rattle.std.specs.Prelude.{◌≡◌, List, ℕ, ◌-◌, ◌≤◌, ◌++◌, length, take, replicate}
use Rattle.std.proofs.Common.{sym, ap₂, arith}
use Rattle.std.proofs.lemmas.List.{length-take-le}
use Rattle.syntax.specs.declared.by_file.ByFile.TheInside.{Inside}

abbrev pub numbers_of : Inside → List ℕ
numbers_of a = take a.count a.numbers

-- An array of 16 that begins with these numbers.
abbrev pub padded : List ℕ → List ℕ
padded l = l ++ replicate (16 - length l) 0

abbrev pub filled : List ℕ → Inside
filled l = record { count = length l; numbers = padded l }

-- Behind the numbers there are zeros.
abbrev pub IsFilled : Inside → Type 0
IsFilled a = (a.count ≤ 16) × (length a.numbers ≡ 16) × (a.numbers ≡ padded (take a.count a.numbers))

pub filled-back : (a : Inside) → IsFilled a → filled (numbers_of a) ≡ a
filled-back a h =
    let long : length (take a.count a.numbers) ≡ a.count = length-take-le a.count a.numbers (omega (arith, h.0, h.1)) in
    ap₂ (λ (k : ℕ) (l : List ℕ). record { count = k; numbers = l }) long (sym h.2)
