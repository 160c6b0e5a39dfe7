-- Laws of refusals by cases. They stand here alone, so that a new refusal adds one line here and none in the crates above. Assumes nothing.
--     number-few, number-some     a number has at most two digits, and none is 0
--     needed-short, row-short     entries are needed in row 16 alone, which tells nothing else
--     row-settles                 what is said of a refusal settles it
use mathlib.Core.Path.{◌≡◌, refl, sym, ap, ◌∙◌}
use mathlib.Core.Logic.{◌⊎◌, inl, inr}
use mathlib.Core.List.{List, [], ◌∷◌}
use Prim.Native.Nat.{ℕ, ◌≤◌, ◌<◌}
use lib.Dec.{lit<, lit≤}
use lib.ListN.{get_or}
use Rattle.refusals.specs.declared.Refusal.{Refusal}
use Rattle.refusals.specs.declared.Refusal.TheVariants.{Broken, Twice, Unbound, Class, Modes, Oneway, Circle, NoFunction, MethodNoFunction, NoService, Differs, ImportWithoutActor, ImportNoService, SameHash, Absent, Short, NoActor, Repeated, OverLimit}
use Rattle.refusals.specs.Refusal.{number_of, name_of, needed_of}

-- The rows in order, where they tell this name, or that so many entries are needed; none has number 0, nor yet 19 to 23.
abbrev rows : ℕ → ℕ → List Refusal
rows n k =
    Broken ∷ Broken ∷ Twice n ∷ Unbound n ∷ Class ∷ Modes ∷ Oneway ∷ Circle n ∷ NoFunction ∷ MethodNoFunction n ∷ NoService ∷ Differs n
    ∷ ImportWithoutActor n ∷ ImportNoService n ∷ SameHash n ∷ Absent n ∷ Short k ∷ NoActor ∷ Repeated n ∷ Broken ∷ Broken ∷ Broken ∷ Broken ∷ Broken ∷ OverLimit ∷ []

abbrev row : ℕ → ℕ → ℕ → Refusal
row number n k = get_or (rows n k) number Broken

-- What holds of each row: one line for each refusal.
record Ruled (r : Refusal) : Type 0 where
  some : 1 ≤ number_of r
  few : number_of r < 100
  back : row (number_of r) (name_of r) (needed_of r) ≡ r
  short : (needed_of r ≡ 0) ⊎ (r ≡ Short (needed_of r))

ruled : (r : Refusal) → Ruled r
ruled Broken = record { some = lit≤ tt; few = lit< tt; back = refl; short = inl refl }
ruled (Twice n) = record { some = lit≤ tt; few = lit< tt; back = refl; short = inl refl }
ruled (Unbound n) = record { some = lit≤ tt; few = lit< tt; back = refl; short = inl refl }
ruled Class = record { some = lit≤ tt; few = lit< tt; back = refl; short = inl refl }
ruled Modes = record { some = lit≤ tt; few = lit< tt; back = refl; short = inl refl }
ruled Oneway = record { some = lit≤ tt; few = lit< tt; back = refl; short = inl refl }
ruled (Circle n) = record { some = lit≤ tt; few = lit< tt; back = refl; short = inl refl }
ruled NoFunction = record { some = lit≤ tt; few = lit< tt; back = refl; short = inl refl }
ruled (MethodNoFunction n) = record { some = lit≤ tt; few = lit< tt; back = refl; short = inl refl }
ruled NoService = record { some = lit≤ tt; few = lit< tt; back = refl; short = inl refl }
ruled (Differs n) = record { some = lit≤ tt; few = lit< tt; back = refl; short = inl refl }
ruled (ImportWithoutActor n) = record { some = lit≤ tt; few = lit< tt; back = refl; short = inl refl }
ruled (ImportNoService n) = record { some = lit≤ tt; few = lit< tt; back = refl; short = inl refl }
ruled (SameHash n) = record { some = lit≤ tt; few = lit< tt; back = refl; short = inl refl }
ruled (Absent n) = record { some = lit≤ tt; few = lit< tt; back = refl; short = inl refl }
ruled (Short n) = record { some = lit≤ tt; few = lit< tt; back = refl; short = inr refl }
ruled NoActor = record { some = lit≤ tt; few = lit< tt; back = refl; short = inl refl }
ruled (Repeated n) = record { some = lit≤ tt; few = lit< tt; back = refl; short = inl refl }
ruled OverLimit = record { some = lit≤ tt; few = lit< tt; back = refl; short = inl refl }

pub number-few : (r : Refusal) → number_of r < 100
number-few r = (ruled r).few

pub needed-short : (r : Refusal) → (needed_of r ≡ 0) ⊎ (r ≡ Short (needed_of r))
needed-short r = (ruled r).short

pub number-some : (r : Refusal) → 1 ≤ number_of r
number-some r = (ruled r).some

pub row-short : (r : Refusal) → number_of r ≡ 16 → r ≡ Short (needed_of r)
row-short r e = sym (ruled r).back ∙ ap (λ (n : ℕ). row n (name_of r) (needed_of r)) e

pub row-settles : (r s : Refusal) → number_of r ≡ number_of s → name_of r ≡ name_of s → needed_of r ≡ needed_of s → r ≡ s
row-settles r s e f g = sym (ruled r).back ∙ rw (e, f, g) (ruled s).back
