-- What the check of init arguments asks and says. Definitions; assumes nothing.
use Rattle.std.specs.Prelude.{◌≡◌, false, List, ℕ, ◌+◌, ◌≤◌, eqb, length, get_or, Result, IfOk, OnOk, OnErr}
use Rattle.format.specs.Forest.{count}
use Rattle.format.specs.Book.{Definition, Book, trees}
use Rattle.format.specs.Layout.{row_at, nodes_part, definitions_part, files_part, siblings}
use Rattle.format.specs.Whole.{Whole, tree_at}
use Rattle.book.specs.declared.kinds.Contents.{Contents}
use Rattle.refusals.specs.declared.Refusal.{Refusal}
use Rattle.refusals.specs.Verdict.{Verdict, passes, verdict_of}
use Rattle.judgement.specs.Environment.{keep, find_type, main_definitions, init_definitions, merge_definitions, kids_of}
use Rattle.judgement.specs.Check.{each_name, circle_verdict, check_forest, decs_verdict, merge_verdict, init_verdict}
use Rattle.judgement.specs.Actor.{init_tree}
use Rattle.environment.specs.Tables.{Roots, Binds, definitions_in}
use Rattle.environment.specs.Merging.{MergedAs}
use Rattle.typing.specs.declared.init.InitArgs.{InitArgs}
use Rattle.environment.specs.Trees.{AllTrees}
use Rattle.book.specs.Reading.{Admitted}
use Rattle.book.specs.Tables.{blank_table}
use Rattle.syntax.specs.Files.{init_at, SplitAs}

-- The definitions whose names a table of roots lacks.
unfoldable pub lacked : List ℕ → List Definition → List Definition
lacked roots ds = keep (λ d. eqb (get_or roots d.name 65535) 65535) ds

-- The definitions that init arguments see: the init file's, and main's where it has none of that name.
abbrev pub both_definitions : Book → List Definition
both_definitions b = merge_definitions (init_definitions b) (main_definitions b)

-- ---- The steps

-- The number of the init file, where there is one; and that there is none.
pub record InitFile {bs : List ℕ} {c : Contents} (a : Admitted bs c) (init : ℕ) : Type 0 where
  pub is : init ≡ init_at (files_part bs) c.files
  pub some : init ≡ c.files → ⊥

abbrev pub NoInitFile : {bs : List ℕ} {c : Contents} → Admitted bs c → Type 0
NoInitFile {bs} {c} a = init_at (files_part bs) c.files ≡ c.files

-- The definitions of the entries from `main` on, which are the init file's own.
abbrev pub own_definitions : List ℕ → Contents → ℕ → List Definition
own_definitions bs c main = definitions_in (nodes_part bs) (definitions_part bs) main c.definitions

-- They have a verdict; where they pass, the table is theirs, and where they are refused, it has nothing, as it was lent.
pub record OwnDecsAs (bs : List ℕ) (c : Contents) (main : ℕ) (own : List ℕ) (v : Verdict) : Type 0 where
  pub verdict : v ≡ decs_verdict c.names (own_definitions bs c main)
  pub table : OnOk v (Roots own c.nodes)
  pub binds : OnOk v (Binds (nodes_part bs) own (own_definitions bs c main))
  pub left : OnErr v (own ≡ blank_table)

-- They passed.
pub record OwnPassed {bs : List ℕ} {c : Contents} (a : Admitted bs c) (own : List ℕ) (init main : ℕ) : Type 0 where
  pub file : InitFile a init
  pub split : SplitAs (definitions_part bs) c.definitions init main
  pub own-as : OwnDecsAs bs c main own passes

-- The verdict of the definitions that two tables are of.
pub record MergeAs {bs : List ℕ} {c : Contents} (a : Admitted bs c) (own roots : List ℕ) (v : Verdict) : Type 0 where
  pub verdict : (ids ds : List Definition) → Binds (nodes_part bs) own ids → Binds (nodes_part bs) roots ds → v ≡ merge_verdict a.book.names ids ds

-- They passed, and are merged into one table.
pub record Merged {bs : List ℕ} {c : Contents} (a : Admitted bs c) (own roots both : List ℕ) : Type 0 where
  pub passed : MergeAs a own roots passes
  pub table : MergedAs own roots both

-- The definitions that a table is of, where every chain ends.
pub record Seen (bs : List ℕ) (c : Contents) (both : List ℕ) (count : ℕ) (ds : List Definition) : Type 0 where
  pub binds : Binds (nodes_part bs) both ds
  pub counted : length ds ≡ count
  pub few : count ≤ 512
  pub ended : each_name (λ n. circle_verdict ds n (find_type ds n)) 0 c.names ≡ passes

-- The arguments below node `root`.
pub record ArgumentsFound (bs : List ℕ) (count root : ℕ) (ds : List Definition) (r : Result InitArgs Refusal) : Type 0 where
  pub verdict : verdict_of r ≡ check_forest false false ds (kids_of (tree_at (nodes_part bs) root))
  pub passed : IfOk r (λ args. args ≡ record { count = count; from = root + 1; until = root + (row_at (nodes_part bs) root).size })

-- ---- All of it

-- Where init arguments pass, the table is that of both files' definitions, and the range is that of the arguments. Without an init file the
-- definitions are main's, and the range is empty.
pub record InitPassedAs (rows : List ℕ) (b : Book) (both : List ℕ) (r : InitArgs) : Type 0 where
  pub all : AllTrees rows (length b.names) (count (trees b))
  pub table : Roots both (count (trees b))
  pub binds : Binds rows both (both_definitions b)
  pub counted : length (both_definitions b) ≡ r.count
  pub few : r.count ≤ 512
  pub arguments : siblings rows r.from r.until ≡ kids_of (init_tree b.files)
  pub whole : Whole rows r.from r.until
  pub within : r.until ≤ count (trees b)

pub record InitSeenAs {bs : List ℕ} {c : Contents} (a : Admitted bs c) (both : List ℕ) (r : Result InitArgs Refusal) : Type 0 where
  pub verdict : verdict_of r ≡ init_verdict a.book
  pub passed : IfOk r (InitPassedAs (nodes_part bs) a.book both)

-- The same, and where they are refused, the table has nothing, as it was lent.
pub record InitFoundAs {bs : List ℕ} {c : Contents} (a : Admitted bs c) (both : List ℕ) (r : Result InitArgs Refusal) : Type 0 where
  pub seen : InitSeenAs a both r
  pub left : OnErr r (both ≡ blank_table)
