-- What is printed for the bytes of a book and of names (document 02, request 10), under full limits. Definitions; assumes nothing.
use Rattle.std.specs.Prelude.{List, [], ◌∷◌, ◌++◌, map, ℕ, get_or}
use Rattle.refusals.specs.Outcome.{Outcome, refused, given, asked}
use Rattle.format.specs.Book.{Book}
use Rattle.format.specs.Layout.{name_in}
use Rattle.format.specs.Within.{full}
use Rattle.format.specs.Admission.{◌under◌, on_bytes}
use Rattle.listing.specs.Methods.{methods, offered_names}
use Rattle.print.specs.Ascii.{ascii}
use Rattle.print.specs.Quoted.{quoted}
use Rattle.print.specs.Refused.{refusal_of}
use Rattle.methods.specs.Asked.{ended, numbers_from}

-- ---- What a book comes to

-- The number of the name of the method at a position, where these are the names of all.
abbrev pub name_at : List ℕ → ℕ → ℕ
name_at offered p = get_or offered p 0

-- The names of the methods that change with the definitions of the asked names, by their positions.
unfoldable pub changed : List (List ℕ) → Book → Outcome (List ℕ)
changed names b = asked (λ l. given (map (name_at (offered_names b)) l)) (methods b (numbers_from 0 b.names names))

-- ---- Its lines

-- As `"put"`.
unfoldable pub line : List ℕ → List ℕ
line name = quoted name ++ ascii "\n"

unfoldable pub lines : List ℕ → List ℕ → List ℕ
lines book [] = []
lines book (n ∷ l) = line (name_in book n) ++ lines book l

unfoldable pub text_of : List ℕ → Outcome (List ℕ) → List ℕ
text_of book (refused r) = refusal_of book r
text_of book (given l) = lines book l

unfoldable pub printed : List ℕ → List ℕ → List ℕ
printed book names = text_of book (on_bytes (changed (ended names)) (book under full))
