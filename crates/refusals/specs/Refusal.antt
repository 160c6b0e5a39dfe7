-- The number of each refusal in documents 01 and 02, and what it tells beside that. Definitions; assumes nothing.
use Rattle.std.specs.Prelude.{Bool, true, false, not, ℕ, eqb}
use Rattle.refusals.specs.declared.Refusal.{Refusal}
use Rattle.refusals.specs.declared.Told.{Told}
use Rattle.refusals.specs.declared.Told.TheVariants.{Nothing, Name, Label, Needed}
use Rattle.refusals.specs.declared.Refusal.TheVariants.{Broken, Twice, Unbound, Class, Modes, Oneway, Circle, NoFunction, MethodNoFunction, NoService, Differs, ImportWithoutActor, ImportNoService, SameHash, Absent, Short, NoActor, Repeated, OverLimit}

-- Their table: the row's number, and what it tells beside it: nothing, a name's number, a label's name number or 65,535 if it is not spelled, or
-- the entries needed.
abbrev pub says_of : Refusal → ℕ × Told
says_of Broken = (1, Nothing)
says_of (Twice n) = (2, Name n)
says_of (Unbound n) = (3, Name n)
says_of Class = (4, Nothing)
says_of Modes = (5, Nothing)
says_of Oneway = (6, Nothing)
says_of (Circle n) = (7, Name n)
says_of NoFunction = (8, Nothing)
says_of (MethodNoFunction n) = (9, Name n)
says_of NoService = (10, Nothing)
says_of (Differs n) = (11, Name n)
says_of (ImportWithoutActor n) = (12, Name n)
says_of (ImportNoService n) = (13, Name n)
says_of (SameHash n) = (14, Name n)
says_of (Absent n) = (15, Name n)
says_of (Short n) = (16, Needed n)
says_of NoActor = (17, Nothing)
says_of (Repeated n) = (18, Label n)
says_of OverLimit = (24, Nothing)

abbrev pub number_of : Refusal → ℕ
number_of r = (says_of r).0

abbrev pub told : Refusal → Told
told r = (says_of r).1

-- Whether it names a number: a place in the table of names, but that of 15, and of 3 over marks or an alias chain, is the one asked with, even
-- 65,535.
abbrev pub names_told : Told → Bool
names_told Nothing = false
names_told (Name n) = true
names_told (Label n) = not (eqb n 65535)
names_told (Needed n) = false

abbrev pub names_of : Refusal → Bool
names_of r = names_told (told r)

-- The name number, or 65,535 where the row says none.
abbrev pub name_told : Told → ℕ
name_told Nothing = 65535
name_told (Name n) = n
name_told (Label n) = n
name_told (Needed n) = 65535

abbrev pub name_of : Refusal → ℕ
name_of r = name_told (told r)

-- The entries needed, of row 16; else 0.
abbrev pub needed_told : Told → ℕ
needed_told Nothing = 0
needed_told (Name n) = 0
needed_told (Label n) = 0
needed_told (Needed n) = n

abbrev pub needed_of : Refusal → ℕ
needed_of r = needed_told (told r)
