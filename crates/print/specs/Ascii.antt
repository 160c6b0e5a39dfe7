-- A text as its bytes, so that definitions can quote what is printed. A definition; assumes nothing.
use Rattle.std.specs.Prelude.{List, [] as none, ◌∷◌ as ◌then◌, ℕ}
use Prim.Native.Char.{code}
use Prim.Native.String.{String, [], ◌∷◌}

-- The bytes of a text, all of whose characters are ASCII.
abbrev pub ascii : String → List ℕ
ascii [] = none
ascii (c ∷ s) = code c then ascii s
