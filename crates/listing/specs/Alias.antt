-- The alias chain of one name: how many names it crosses, and the last of them, whose definition is the end. The question, what is given, and
-- what is refused. Definitions; assumes nothing.
use Rattle.std.specs.Prelude.{◌≡◌, ℕ, length}
use mathlib.Core.List.{List, [], ◌∷◌, ◌++◌, Memᴰ}
use Rattle.refusals.specs.declared.Refusal.{Refusal}
use Rattle.refusals.specs.declared.Refusal.TheVariants.{Unbound}
use Rattle.refusals.specs.Verdict.{passes}
use Rattle.refusals.specs.declared.Crossed.{Crossed}
use Rattle.refusals.specs.Outcome.{Outcome, refused, given, after}
use Rattle.format.specs.Book.{Definition, Book}
use Rattle.judgement.specs.Environment.{main_definitions, other, head}
use Rattle.judgement.specs.Aliases.{chain, name_type}
use Rattle.judgement.specs.Meaning.{Across}
use Rattle.judgement.specs.Check.{check}
use Rattle.judgement.specs.WellFormed.{Defined}
use Rattle.judgement.specs.Rows.{CheckRow, check_rows}

-- The last of names, of which the first is n.
unfoldable pub last_of : ℕ → List ℕ → ℕ
last_of n [] = n
last_of n (m ∷ ms) = last_of m ms

-- Of the names that the chain from n crosses. Each chain crosses the name that it starts from, unless that has no definition.
unfoldable pub crossed_by : ℕ → List ℕ → Outcome Crossed
crossed_by n [] = refused (Unbound n)
crossed_by n (m ∷ ms) = given (record { names = length (m ∷ ms); last = last_of m ms })

unfoldable pub alias_of : List Definition → ℕ → Outcome Crossed
alias_of ds n = crossed_by n (chain ds (name_type n)).crossed

unfoldable pub alias : Book → ℕ → Outcome Crossed
alias b n = after (check b) (alias_of (main_definitions b) n)

-- ---- What is given

-- From the name n the chain crosses these names, one after the other. The definition of the last is the end, which is no name.
pub record CrossedFrom (ds : List Definition) (n : ℕ) (c : Crossed) : Type 0 where
  pub crossed : List ℕ
  pub before : List ℕ
  pub parts : crossed ≡ before ++ (c.last ∷ [])
  pub count : c.names ≡ length crossed
  pub definition : Definition
  pub listed : Memᴰ definition ds
  pub of-last : definition.name ≡ c.last
  pub across : Across ds crossed (name_type n) definition.body
  pub no-name : head definition.body ≡ other

-- ---- What is refused

-- Its rows: those of the check, then 3 of the name that is asked.
pub data AliasRow (b : Book) (n : ℕ) : Refusal → Type 0 where
  checked : {r : Refusal} → CheckRow b r → AliasRow b n r
  unbound : (check b ≡ passes) × (Defined (main_definitions b) n → ⊥) → AliasRow b n (Unbound n)

abbrev pub alias_rows : List ℕ
alias_rows = check_rows
