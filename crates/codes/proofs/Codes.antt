-- The low bits of a refused question. Assumes nothing.
use mathlib.Core.Path.{◌≡◌}
use borrow.Author.Tests.{ne_eqb}
use Rattle.refusals.specs.declared.Refusal.{Refusal}
use Rattle.refusals.specs.Refusal.{number_of, name_of, needed_of}
use Rattle.codes.specs.Coded.{low_of}

pub low-needed : (why : Refusal) → number_of why ≡ 16 → low_of why ≡ needed_of why
unfolding low_of
low-needed why e = rw e

pub low-name : (why : Refusal) → (number_of why ≡ 16 → ⊥) → low_of why ≡ name_of why
unfolding low_of
low-name why h = rw (ne_eqb (number_of why) 16 h)
