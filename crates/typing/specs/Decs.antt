-- What the check of definitions asks and says. Definitions; assumes nothing.
use Rattle.std.specs.Prelude.{◌≡◌, false, List, ℕ, ◌-◌, ◌≤◌, get_or, OnOk, OnErr}
use Rattle.format.specs.Book.{Definition}
use Rattle.format.specs.Layout.{nodes_part, definitions_part}
use Rattle.refusals.specs.Verdict.{Verdict, passes}
use Rattle.judgement.specs.Check.{decs_verdict}
use Rattle.environment.specs.Tables.{Roots, EndNodes, Chains, DefinesAs, AliasEndsAs, definitions_in}
use Rattle.typing.specs.Walk.{Env}
use Rattle.typing.specs.Tables.{IsBlank}
use Rattle.typing.specs.declared.tables.Tables.{Tables}
use Rattle.typing.specs.declared.decs.Decs.{Decs}

-- The tables of definitions that passed: they say what each name stands for, and where each chain ends.
pub record Checked (ns roots ends' : List ℕ) (count : ℕ) (ds : List Definition) : Type 0 where
  pub table : Roots roots count
  pub ended : EndNodes ends' count
  pub env : Env ns roots ends' false ds

-- Definitions that are in the table of roots have a verdict. Where they pass, the tables are theirs.
pub record EnteredAs (es ns : List ℕ) (names count from to : ℕ) (v : Verdict) (roots ends' : List ℕ) : Type 0 where
  pub verdict : v ≡ decs_verdict names (definitions_in ns es from to)
  pub checked : OnOk v (Checked ns roots ends' count (definitions_in ns es from to))
  pub chains : OnOk v (Chains ns ends' names (definitions_in ns es from to))
  pub beyond : OnOk v ((n : ℕ) → names ≤ n → get_or ends' n 0 ≡ 0)

-- The same, and where they are refused, the tables have nothing, as they were lent.
pub record DecsAs (es ns : List ℕ) (names count from to : ℕ) (v : Verdict) (t : Tables) : Type 0 where
  pub entered : EnteredAs es ns names count from to v t.roots t.ends
  pub left : OnErr v (IsBlank t)

-- ---- Of definitions of a book

abbrev pub definitions_of : Decs → List Definition
definitions_of d = definitions_in (nodes_part d.book.bytes.now) (definitions_part d.book.bytes.now) d.from d.to

-- No name is defined twice, and the table has them.
abbrev pub Defined : Decs → List ℕ → Type 0
Defined d roots = DefinesAs (definitions_part d.book.bytes.now) d.book.contents.nodes d.from d.to roots passes

-- No chain is a circle, and the table has their ends.
abbrev pub EndsFound : Decs → List ℕ → List ℕ → Type 0
EndsFound d roots ends' = AliasEndsAs (nodes_part d.book.bytes.now) roots d.book.contents.names d.book.contents.nodes (d.to - d.from) ends' passes

abbrev pub EnteredOf : Decs → Verdict → List ℕ → List ℕ → Type 0
EnteredOf d = EnteredAs (definitions_part d.book.bytes.now) (nodes_part d.book.bytes.now) d.book.contents.names d.book.contents.nodes d.from d.to

abbrev pub DecsOf : Decs → Verdict → Tables → Type 0
DecsOf d = DecsAs (definitions_part d.book.bytes.now) (nodes_part d.book.bytes.now) d.book.contents.names d.book.contents.nodes d.from d.to
