-- How a name prints (document 01, "Listed, marked, refused"): in quotes, where bytes outside 0x20 to 0x7E, `"` and `\` are `\` and two
-- hex digits, of which lower case is this project's choice. Definitions; assumes nothing.
use Rattle.std.specs.Prelude.{Bool, cond, not, ◌&&◌, List, [], ◌∷◌, ◌++◌, ℕ, ◌+◌, ◌/◌, ◌%◌, leb, ltb, eqb}
use Rattle.print.specs.Ascii.{ascii}

-- `"` is 34 and `\` is 92.
unfoldable pub plain : ℕ → Bool
plain b = not (eqb b 34) && not (eqb b 92) && leb 32 b && leb b 126

-- `0` is 48 and `a` is 97.
unfoldable pub hex_digit : ℕ → ℕ
hex_digit d = cond (ltb d 10) (48 + d) (87 + d)

unfoldable pub escape : ℕ → List ℕ
escape b = cond (plain b) (b ∷ []) (92 ∷ hex_digit (b / 16) ∷ hex_digit (b % 16) ∷ [])

unfoldable pub escapes : List ℕ → List ℕ
escapes [] = []
escapes (b ∷ name) = escape b ++ escapes name

unfoldable pub quoted : List ℕ → List ℕ
quoted name = ascii "\"" ++ escapes name ++ ascii "\""
