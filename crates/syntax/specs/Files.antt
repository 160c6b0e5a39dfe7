-- The files of a book, as the code reads them. Definitions; assumes nothing.
--     files_in, FileTable        the table of files
--     init_at, SplitAs           the init file, and the definitions before its own
--     Listed                     the numbers of the service imports
--     ImportsAs, FilesAs         what is found of them
use Rattle.std.specs.Prelude.{◌≡◌, cond, List, map, ℕ, ◌-◌, ◌≤◌, ◌<◌, eqb, length, All, Result, IfOk}
use Rattle.format.specs.Book.{File}
use Rattle.format.specs.Layout.{run, entry_at, files_part}
use Rattle.format.specs.Whole.{WholeAt, file_at}
use Rattle.refusals.specs.declared.Refusal.{Refusal}
use Rattle.refusals.specs.Verdict.{passes, verdict_of}
use Rattle.book.specs.declared.kinds.Contents.{Contents}
use Rattle.book.specs.Reading.{EntryWithin, Admitted, stored_root}
use Rattle.judgement.specs.Actor.{service_imports}
use Rattle.judgement.specs.Check.{imports_verdict}
use Rattle.syntax.specs.declared.files.Files.{Files}

-- ---- The table of files

-- The files that entries say.
abbrev pub files_in : List ℕ → List ℕ → ℕ → List File
files_in ns fs count = map (file_at ns) (run (entry_at fs) 0 count)

-- The root of each file is a node, with a tree; or 65,535.
pub record FileRoots (ns fs : List ℕ) (count : ℕ) : Type 0 where
  pub whole : (f : ℕ) → f < count → ((entry_at fs f).root ≡ 65535 → ⊥) → WholeAt ns (entry_at fs f).root

-- The table of an admitted book: main first, at most 16, and their roots are nodes.
pub record FileTable (fs : List ℕ) (count nodes : ℕ) : Type 0 where
  pub held : EntryWithin fs count
  pub some : 1 ≤ count
  pub few : count ≤ 16
  pub main : (entry_at fs 0).owner ≡ 0
  pub root : (f : ℕ) → f < count → ((entry_at fs f).root ≡ 65535 → ⊥) → (entry_at fs f).root < nodes

-- ---- The init file, and the definitions before its own

-- The last file if its role is 3, else the number of files.
unfoldable pub init_at : List ℕ → ℕ → ℕ
init_at fs count = cond (eqb (entry_at fs (count - 1)).owner 3) (count - 1) count

-- The first k entries are of other files, and the next one, if there is one, is of file `init`.
pub record SplitAs (es : List ℕ) (count init k : ℕ) : Type 0 where
  pub within : k ≤ count
  pub before : (d : ℕ) → d < k → (entry_at es d).owner ≡ init → ⊥
  pub next : k < count → (entry_at es k).owner ≡ init

-- ---- The service imports

-- The files of these numbers.
abbrev pub listed_files : List ℕ → List ℕ → List ℕ → List File
listed_files ns fs numbers = map (λ f. file_at ns (entry_at fs f)) numbers

-- Numbers of files that have a root; those files are the service imports, in order.
pub record Listed (fs : List ℕ) (count : ℕ) (numbers : List ℕ) : Type 0 where
  pub few : length numbers < 16
  pub inside : All (λ f. f < count) numbers
  pub rooted : All (λ f. (entry_at fs f).root ≡ 65535 → ⊥) numbers
  pub are : (ns : List ℕ) → service_imports (files_in ns fs count) ≡ listed_files ns fs numbers

pub record ImportsAs (fs : List ℕ) (count : ℕ) (r : Result (List ℕ) Refusal) : Type 0 where
  pub verdict : (ns : List ℕ) → FileRoots ns fs count → verdict_of r ≡ imports_verdict (service_imports (files_in ns fs count))
  pub listed : IfOk r (Listed fs count)

-- ---- All of it

-- Where nothing is refused.
pub record FilesPassed (bs : List ℕ) (c : Contents) (r : Files) : Type 0 where
  pub passed : (a : Admitted bs c) → imports_verdict (service_imports a.book.files) ≡ passes
  pub root : r.root ≡ stored_root (entry_at (files_part bs) 0).root
  pub init : r.init ≡ init_at (files_part bs) c.files
  pub listed : Listed (files_part bs) c.files r.imports

pub record FilesAs (bs : List ℕ) (c : Contents) (r : Result Files Refusal) : Type 0 where
  pub verdict : (a : Admitted bs c) → verdict_of r ≡ imports_verdict (service_imports a.book.files)
  pub files : IfOk r (FilesPassed bs c)
