-- A book that passed the check, with what the check hands on. Definitions; assumes nothing.
use Rattle.std.specs.Prelude.{◌≡◌, List, ℕ, ◌≤◌, length, get_or, Result, IfOk, OnErr}
use Rattle.format.specs.Forest.{end, count}
use Rattle.format.specs.Book.{trees}
use Rattle.format.specs.Layout.{nodes_part, definitions_part, files_part}
use Rattle.book.specs.declared.kinds.Contents.{Contents}
use Rattle.refusals.specs.declared.Refusal.{Refusal}
use Rattle.refusals.specs.Verdict.{passes, verdict_of}
use Rattle.judgement.specs.Environment.{main_definitions}
use Rattle.judgement.specs.Resolve.{resolve_actor}
use Rattle.judgement.specs.Check.{check}
use Rattle.environment.specs.Tables.{Chains, definitions_in}
use Rattle.typing.specs.declared.prog.Passed.{Passed}
use Rattle.typing.specs.declared.tables.Tables.{Tables}
use Rattle.environment.specs.Trees.{AllTrees}
use Rattle.book.specs.Reading.{Admitted}
use Rattle.typing.specs.Tables.{IsBlank}
use Rattle.typing.specs.Decs.{Checked, DecsAs}
use Rattle.syntax.specs.Files.{init_at, SplitAs}
use Rattle.syntax.specs.declared.interface.Interface.{Interface}
use Rattle.syntax.specs.Interfaces.{interface_tree, InterfaceNodes, InterfaceAs}

-- The definitions of an admitted book that are not the init file's passed, with their tables.
pub record DecsPassed {bs : List ℕ} {c : Contents} (a : Admitted bs c) (main : ℕ) (t : Tables) : Type 0 where
  pub split : SplitAs (definitions_part bs) c.definitions (init_at (files_part bs) c.files) main
  pub passed : DecsAs (definitions_part bs) (nodes_part bs) c.names c.nodes 0 main passes t

-- What the check hands on of an admitted book that passes, with the table of roots and that of alias ends.
pub record PassedAs {bs : List ℕ} {c : Contents} (a : Admitted bs c) (roots ends' : List ℕ) (p : Passed) : Type 0 where
  pub passed : check a.book ≡ passes
  pub definitions : main_definitions a.book ≡ definitions_in (nodes_part bs) (definitions_part bs) 0 p.main
  pub split : SplitAs (definitions_part bs) c.definitions (init_at (files_part bs) c.files) p.main
  pub within : p.main ≤ length a.book.definitions
  pub counted : length (main_definitions a.book) ≡ p.main
  pub checked : Checked (nodes_part bs) roots ends' (count (trees a.book)) (main_definitions a.book)
  pub chains : Chains (nodes_part bs) ends' (length a.book.names) (main_definitions a.book)
  pub beyond : (n : ℕ) → length a.book.names ≤ n → get_or ends' n 0 ≡ 0
  pub all : AllTrees (nodes_part bs) (length a.book.names) (count (trees a.book))
  pub tree : interface_tree (nodes_part bs) p.interface ≡ resolve_actor a.book
  pub nodes : InterfaceNodes (nodes_part bs) (count (trees a.book)) p.interface
  pub offers : (resolve_actor a.book ≡ end → ⊥) →
      InterfaceAs (nodes_part bs) (count (trees a.book)) (main_definitions a.book) (resolve_actor a.book) p.interface

-- The verdict is that of the check; where the book passes, what is handed on is its own.
pub record ActorFoundAs {bs : List ℕ} {c : Contents} (a : Admitted bs c) (roots ends' : List ℕ) (r : Result Passed Refusal) : Type 0 where
  pub verdict : verdict_of r ≡ check a.book
  pub passed : IfOk r (PassedAs a roots ends')

-- The same, and where the book is refused, the tables have nothing, as they were lent.
pub record FoundAs {bs : List ℕ} {c : Contents} (a : Admitted bs c) (t : Tables) (r : Result Passed Refusal) : Type 0 where
  pub found : ActorFoundAs a t.roots t.ends r
  pub left : OnErr r (IsBlank t)

-- A passed book, as a question takes it.
pub record PassedBook (bs : List ℕ) (c : Contents) (roots ends' : List ℕ) (p : Passed) : Type 0 where
  pub admitted : Admitted bs c
  pub passed : PassedAs admitted roots ends' p

-- The same, with its definitions alone: so many, and their table of roots.
pub record PassedMain (bs : List ℕ) (c : Contents) (roots : List ℕ) (main : ℕ) : Type 0 where
  pub ends : List ℕ
  pub interface : Interface
  pub book : PassedBook bs c roots ends (record { main = main; interface = interface })
