use mathlib.Core.Path.{◌≡◌}
use Prim.Native.Nat.{◌-◌}
use Rattle.format.specs.Rules.{good_modes}
use Rattle.book.proofs.rules.modes_fine.Given as goal

abbrev pub invariant-loop : goal.invariant-loop
invariant-loop l = good_modes (8 - l.counter) l.m ≡ good_modes 8 l.modes
