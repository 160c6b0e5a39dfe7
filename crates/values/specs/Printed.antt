-- What is printed for the bytes of a book (document 02, request 13), under full limits. That a line is the quoted name, a space and the number, or
-- `many`, is this project's choice. Definitions; assumes nothing.
use Rattle.std.specs.Prelude.{List, [], ◌∷◌, ◌++◌, map, ℕ, length}
use Rattle.refusals.specs.declared.Count.{Count}
use Rattle.refusals.specs.declared.Count.TheVariants.{Exactly, Many}
use Rattle.refusals.specs.Outcome.{Outcome, refused, given, after}
use Rattle.format.specs.Book.{Book}
use Rattle.format.specs.Layout.{name_in}
use Rattle.format.specs.Within.{full}
use Rattle.format.specs.Admission.{◌under◌, on_bytes}
use Rattle.judgement.specs.Environment.{main_definitions}
use Rattle.judgement.specs.WellFormed.{defined_name}
use Rattle.judgement.specs.Check.{check}
use Rattle.listing.specs.Recursive.{sorted}
use Rattle.listing.specs.Values.{name_values, count_of}
use Rattle.print.specs.Ascii.{ascii}
use Rattle.print.specs.Decimal.{decimal}
use Rattle.print.specs.Quoted.{quoted}
use Rattle.print.specs.Refused.{refusal_of}

-- ---- What a book comes to

-- A name's number and how many values its definition has.
abbrev pub Entry : Type 0
Entry = ℕ × Count

-- Of the names that have a definition, ascending.
unfoldable pub defined_names : Book → List ℕ
defined_names b = sorted (map defined_name (main_definitions b)) 0 (length b.names)

abbrev pub entry_of : Book → ℕ → Entry
entry_of b n = (n, count_of (name_values (main_definitions b) n))

unfoldable pub counted : Book → List Entry
counted b = map (entry_of b) (defined_names b)

unfoldable pub all_values : Book → Outcome (List Entry)
all_values b = after (check b) (given (counted b))

-- ---- Its lines

unfoldable pub number : Count → List ℕ
number (Exactly n) = decimal n
number Many = ascii "many"

-- As `"flag" 2`.
unfoldable pub line : List ℕ → Count → List ℕ
line name count = quoted name ++ ascii " " ++ number count ++ ascii "\n"

unfoldable pub lines : List ℕ → List Entry → List ℕ
lines book [] = []
lines book (e ∷ es) = line (name_in book e.0) e.1 ++ lines book es

unfoldable pub text_of : List ℕ → Outcome (List Entry) → List ℕ
text_of book (refused r) = refusal_of book r
text_of book (given es) = lines book es

unfoldable pub printed : List ℕ → List ℕ
printed book = text_of book (on_bytes all_values (book under full))
