-- What a walk over types asks and says. Definitions; assumes nothing.
use Rattle.std.specs.Prelude.{◌≡◌, Bool, true, List, ℕ, ◌≤◌, Option, None, Some, Ok, Err, T}
use Rattle.std.specs.Option.{is_none}
use denote.Bor.{Bor}
use Rattle.format.specs.declared.Place.TheVariants.{Method}
use Rattle.format.specs.Book.{Definition}
use Rattle.format.specs.Fits.{forest_fits}
use Rattle.format.specs.Layout.{nodes_part, siblings}
use Rattle.format.specs.Whole.{Whole}
use Rattle.refusals.specs.Verdict.{Verdict}
use Rattle.refusals.specs.Handed.{Answer}
use Rattle.book.specs.declared.kinds.Contents.{Contents}
use Rattle.book.specs.Tables.{zero_table}
use Rattle.typing.specs.Walk.{Env}
use Rattle.typing.specs.declared.types.Walk.{Walk}

-- What a walk reads.
pub record Reads (bs : List ℕ) (c : Contents) (roots : List ℕ) (ends : Option (Bor (List ℕ))) (w : Walk) : Type 0 where
  pub rows-are : w.env.scope.rows.now ≡ nodes_part bs
  pub names-are : w.env.scope.names ≡ c.names
  pub nodes-are : w.env.scope.nodes ≡ c.nodes
  pub roots-are : w.env.scope.roots.now ≡ roots
  pub ends-are : w.ends ≡ ends

-- The table of alias ends; one that has nothing while bodies are walked.
abbrev pub ends_of : Option (Bor (List ℕ)) → List ℕ
ends_of None = zero_table
ends_of (Some e) = e.now

-- The walk's tables are those of the definitions.
abbrev pub WalkEnv : Walk → List Definition → Type 0
WalkEnv w ds = Env w.env.scope.rows.now w.env.scope.roots.now (ends_of w.ends) (is_none w.ends) ds

-- What is said holds of every environment that the tables are of.
abbrev pub Under : Walk → (Bool → List Definition → Type 0) → Type 0
Under w P = (ds : List Definition) → WalkEnv w ds → P (is_none w.ends) ds

-- The nodes from `from` up to `until` are trees that stand beside each other in the book, and methods of a service where `methods` says so.
pub record TreesIn (w : Walk) (methods : Bool) (from until : ℕ) : Type 0 where
  pub whole : Whole w.env.scope.rows.now from until
  pub inside : until ≤ w.env.scope.nodes
  pub methods_are : methods ≡ true → T (forest_fits w.env.scope.names Method (siblings w.env.scope.rows.now from until))

-- So many, where a verdict passes.
abbrev pub so_many : Verdict → ℕ → Answer
so_many (Ok tt) n = Ok n
so_many (Err r) n = Err r
