-- What is printed for the bytes of a book (document 02, request 8), under full limits. Definitions; assumes nothing.
use Rattle.std.specs.Prelude.{List, [], ◌∷◌, ◌++◌, map, ℕ, sum}
use Rattle.refusals.specs.Outcome.{Outcome, refused, given, asked}
use Rattle.format.specs.Book.{Book}
use Rattle.format.specs.Layout.{name_in}
use Rattle.format.specs.Within.{full}
use Rattle.format.specs.Admission.{◌under◌, on_bytes}
use Rattle.judgement.specs.Environment.{main_definitions}
use Rattle.judgement.specs.Resolve.{resolve_actor}
use Rattle.listing.specs.List.{list}
use Rattle.listing.specs.UseCounts.{use_count}
use Rattle.print.specs.Ascii.{ascii}
use Rattle.print.specs.Decimal.{decimal}
use Rattle.print.specs.Quoted.{quoted}
use Rattle.print.specs.Refused.{refusal_of}

-- ---- What a book comes to

-- A listed name's number and how many uses it has.
abbrev pub Entry : Type 0
Entry = ℕ × ℕ

abbrev pub entry_of : Book → ℕ → Entry
entry_of b n = (n, use_count (main_definitions b) (resolve_actor b) n)

-- Of all listed names, in their order.
unfoldable pub report : Book → Outcome (List Entry)
report b = asked (λ l. given (map (entry_of b) l)) (list b)

unfoldable pub total : List Entry → ℕ
total es = sum (map (λ e. e.1) es)

-- ---- Its lines

-- As `"pair" 1`.
unfoldable pub line : List ℕ → ℕ → List ℕ
line name uses = quoted name ++ ascii " " ++ decimal uses ++ ascii "\n"

unfoldable pub lines : List ℕ → List Entry → List ℕ
lines book [] = []
lines book (e ∷ es) = line (name_in book e.0) e.1 ++ lines book es

-- As `total 2`.
unfoldable pub last_line : ℕ → List ℕ
last_line n = ascii "total " ++ decimal n ++ ascii "\n"

unfoldable pub text_of : List ℕ → Outcome (List Entry) → List ℕ
text_of book (refused r) = refusal_of book r
text_of book (given es) = lines book es ++ last_line (total es)

unfoldable pub printed : List ℕ → List ℕ
printed book = text_of book (on_bytes report (book under full))
