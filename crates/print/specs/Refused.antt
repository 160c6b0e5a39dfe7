-- How a refusal prints (document 01, "Listed, marked, refused"). That a number which is named and is outside the book's table prints as it is,
-- is this project's choice: a quoted name begins with its quote, so none of the two and `-` is mistaken for another (Laws.antt). Definitions;
-- assumes nothing.
use Rattle.std.specs.Prelude.{Bool, false, cond, List, ◌++◌, ℕ, ltb, length}
use Rattle.refusals.specs.declared.Refusal.{Refusal}
use Rattle.refusals.specs.Refusal.{number_of, names_of, name_of}
use Rattle.format.specs.Layout.{Layout, broken, whole, layout, name_in}
use Rattle.print.specs.Ascii.{ascii}
use Rattle.print.specs.Quoted.{quoted}
use Rattle.print.specs.Decimal.{decimal}

-- Whether the table of names has a place of number n; a broken book has no table.
abbrev pub in_table_by : Layout → ℕ → Bool
in_table_by broken n = false
in_table_by (whole b) n = ltb n (length b.names)

unfoldable pub in_table : List ℕ → ℕ → Bool
in_table book n = in_table_by (layout book) n

-- A name of the book in quotes; a number outside its table in decimal.
unfoldable pub name_or_number : List ℕ → ℕ → List ℕ
name_or_number book n = cond (in_table book n) (quoted (name_in book n)) (decimal n)

-- `-` where nothing is named.
unfoldable pub named_or_dash : Bool → List ℕ → ℕ → List ℕ
named_or_dash named book n = cond named (name_or_number book n) (ascii "-")

-- As `refused 7 "a"`, `refused 1 -` or `refused 15 1024`.
unfoldable pub refusal_of : List ℕ → Refusal → List ℕ
refusal_of book r = ascii "refused " ++ decimal (number_of r) ++ ascii " " ++ named_or_dash (names_of r) book (name_of r) ++ ascii "\n"
