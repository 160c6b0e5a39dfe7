-- What is printed for the bytes of a book (document 01, "Listed, marked, refused"), under full limits. Definitions; assumes nothing.
use Rattle.std.specs.Prelude.{◌≡◌, cond, List, [], ◌∷◌, ◌++◌, ℕ, suc, length, IfErr, OnOk, OnErr}
use Rattle.format.specs.Layout.{name_in}
use Rattle.judgement.specs.Check.{member}
use Rattle.refusals.specs.Verdict.{Verdict}
use Rattle.refusals.specs.Outcome.{Outcome, refused, given, fit}
use Rattle.listing.specs.List.{list}
use Rattle.listing.specs.Marks.{marks_over}
use Rattle.format.specs.Within.{full}
use Rattle.format.specs.Admission.{◌under◌, on_bytes}
use Rattle.print.specs.declared.Text.{Text}
use Rattle.print.specs.Laid.{Lays, LaysWithin}
use Rattle.print.specs.Ascii.{ascii}
use Rattle.print.specs.Decimal.{decimal}
use Rattle.print.specs.Quoted.{quoted}
use Rattle.print.specs.Refused.{refusal_of}

-- The first line, as `list 2 marked 1`.
unfoldable pub heading : ℕ → ℕ → List ℕ
heading listed marked = ascii "list " ++ decimal listed ++ ascii " marked " ++ decimal marked ++ ascii "\n"

-- `r` is 114 and `-` is 45.
unfoldable pub mark_of : List ℕ → ℕ → ℕ
mark_of marked n = cond (member n marked) 114 45

-- A line, as `2 r "tree"`.
unfoldable pub line : ℕ → ℕ → List ℕ → List ℕ
line position mark name = decimal position ++ ascii " " ++ (mark ∷ []) ++ ascii " " ++ quoted name ++ ascii "\n"

-- The lines of listed names, the first of which has the position given.
unfoldable pub lines : List ℕ → List ℕ → ℕ → List ℕ → List ℕ
lines book marked position [] = []
lines book marked position (n ∷ listed) = line position (mark_of marked n) (name_in book n) ++ lines book marked (suc position) listed

-- What the listed names come to with their marks, which are asked for into a list of 1,024 places.
abbrev pub marks_asked : List ℕ → List ℕ → Outcome (List ℕ)
marks_asked book listed = on_bytes (λ b. marks_over b listed) (book under full)

unfoldable pub marks_in : List ℕ → List ℕ → Outcome (List ℕ)
marks_in book listed = fit 1024 (marks_asked book listed)

unfoldable pub marked_text : List ℕ → List ℕ → Outcome (List ℕ) → List ℕ
marked_text book listed (refused r) = refusal_of book r
marked_text book listed (given marked) = heading (length listed) (length marked) ++ lines book marked 1 listed

-- What the definition list comes to, which is asked for into a list of 512 places.
abbrev pub list_asked : List ℕ → Outcome (List ℕ)
list_asked book = on_bytes list (book under full)

unfoldable pub list_in : List ℕ → Outcome (List ℕ)
list_in book = fit 512 (list_asked book)

unfoldable pub listed_text : List ℕ → Outcome (List ℕ) → List ℕ
listed_text book (refused r) = refusal_of book r
listed_text book (given listed) = marked_text book listed (marks_in book listed)

unfoldable pub printed : List ℕ → List ℕ
printed book = listed_text book (list_in book)

-- All of it is laid, or nothing where the book is refused: then its line is what is printed.
pub record Prints (book : List ℕ) (old new : Text) (v : Verdict) : Type 0 where
  pub all : OnOk v (LaysWithin 409600 (printed book) old new)
  pub refused : IfErr v (λ why. refusal_of book why ≡ printed book)
  pub left : OnErr v (Lays [] old new)
