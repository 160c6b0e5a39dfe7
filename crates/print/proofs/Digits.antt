-- Numbers in decimal, as std has them. Assumes nothing.
use mathlib.Core.Path.{◌≡◌, sym, ap, ◌∙◌}
use mathlib.Core.List.{List, [], ◌∷◌}
use Prim.Native.Nat.{◌+◌, ℕ, suc, ◌^◌, ◌<◌}
use native.Mathlib.Omega.{arith}
use Rattle.std.specs.Fmt as std
use Rattle.std.proofs.lemmas.Fmt.{AppendsLastDigit, decimal_from_appends, length-decimal-le_succ}
use Rattle.print.specs.Decimal.{digit, digits, decimal}
use Rattle.print.proofs.Laws.{digits-one, digits-more}

appends : AppendsLastDigit digits
unfolding digit
appends = record { one = λ k n h. rw (digits-one k n h) (ap (λ (d : ℕ). (48 + d) ∷ []) (omega (arith))); more = digits-more }

pub decimal-same : (n : ℕ) {text : List ℕ} → n < 2 ^ 64 → text ≡ std.decimal n → text ≡ decimal n
unfolding decimal
decimal-same n h e = e ∙ sym (decimal_from_appends digits appends (suc n) n h (omega (arith, length-decimal-le_succ n h)))
