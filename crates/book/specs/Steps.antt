-- What the tests that `layout` is made of promise each other, by the rules of format, specs/Rules.antt. Definitions; assumes nothing.
use Rattle.std.specs.Borrow.{Bor}
use Rattle.std.specs.Prelude.{◌≡◌, Option, Some, None, Bool, true, false, ◌&&◌, ◌||◌, not, leb, ltb, eqb, List, ◌∷◌, ℕ, ◌<◌, T}
use Rattle.format.specs.declared.Place.{Place}
use Rattle.format.specs.Forest.{breadth}
use Rattle.format.specs.Encode.{Entry}
use Rattle.format.specs.Fits.{before}
use Rattle.format.specs.Layout.{le32, run, entry_at, row_trees}
use Rattle.format.specs.Rules
use Rattle.format.specs.Rules.{Sized, good_forest, good_entries, good_role, good_files, no_entries}
use Rattle.format.specs.Whole.{Whole}
use Rattle.book.specs.declared.kinds.Contents.{Contents}

-- A test's answer says whether P holds.
pub record Tells (b : Bool) (P : Type 0) : Type 0 where
  pub holds : b ≡ true → P
  pub fails : b ≡ false → P → ⊥

-- The numbers of a table of contents.
pub record Stated (bs : List ℕ) (c : Contents) : Type 0 where
  pub names : c.names ≡ le32 bs 4
  pub nodes_at : c.nodes_at ≡ le32 bs 8
  pub nodes : c.nodes ≡ le32 bs 12
  pub definitions_at : c.definitions_at ≡ le32 bs 16
  pub definitions : c.definitions ≡ le32 bs 20
  pub files_at : c.files_at ≡ le32 bs 24
  pub files : c.files ≡ le32 bs 28

abbrev pub ContentsAs : List ℕ → Option Contents → Type 0
ContentsAs bs None = Rules.Contents bs → ⊥
ContentsAs bs (Some c) = Rules.Contents bs × Stated bs c

-- A name may stand after the name `last`, or first.
abbrev pub rises_to : Option (Bor (List ℕ)) → List ℕ → Bool
rises_to None name = true
rises_to (Some last) name = before last.now name

-- The trees from node i up to node e are whole and keep the rules.
pub record Good (names : ℕ) (p : Place) (ns : List ℕ) (i e : ℕ) : Type 0 where
  pub sized : Sized (row_trees ns i e)
  pub fine : T (good_forest names p (row_trees ns i e))

abbrev pub TreesAs : ℕ → Place → List ℕ → ℕ → ℕ → Option ℕ → Type 0
TreesAs names p ns i e None = Good names p ns i e → ⊥
TreesAs names p ns i e (Some n) = Good names p ns i e × (n ≡ breadth (row_trees ns i e))

-- What an entry of a definition keeps apart from its tree.
unfoldable pub definition_fine : ℕ → ℕ → ℕ → ℕ → Entry → Bool
definition_fine names files file next e =
    ltb e.name names && ltb e.owner files && leb file e.owner && eqb e.root next && eqb e.reserved 0

-- An entry of a definition, before any others and any files; then all of them.
abbrev pub DefinitionAs : ℕ → ℕ → List ℕ → ℕ → ℕ → ℕ → Entry → Option ℕ → Type 0
DefinitionAs names files ns nodes file next e None =
    (es fs : List Entry) → T (good_entries names files file next (e ∷ es) fs (row_trees ns next nodes)) → ⊥
DefinitionAs names files ns nodes file next e (Some after) =
    Whole ns after nodes
    × ((es fs : List Entry) → good_entries names files file next (e ∷ es) fs (row_trees ns next nodes) ≡ good_entries names files e.owner after es fs (row_trees ns after nodes))

abbrev pub DefinitionsAs : ℕ → ℕ → List ℕ → ℕ → List ℕ → ℕ → Option ℕ → Type 0
DefinitionsAs names files ds count ns nodes None =
    (fs : List Entry) → T (good_entries names files 0 0 (run (entry_at ds) 0 count) fs (row_trees ns 0 nodes)) → ⊥
DefinitionsAs names files ds count ns nodes (Some after) =
    Whole ns after nodes
    × ((fs : List Entry) → good_entries names files 0 0 (run (entry_at ds) 0 count) fs (row_trees ns 0 nodes) ≡ good_files names true after fs (row_trees ns after nodes))

-- What an entry of a file keeps apart from its tree; `last` says that no entries follow.
pub record FileTests (names : ℕ) (main last : Bool) (e : Entry) : Type 0 where
  pub name : e.name < names
  pub role : T (good_role main last e.owner)
  pub reserved : e.reserved ≡ 0
  pub rootless : e.root ≡ 65535 → e.owner ≡ 3 → ⊥

unfoldable pub file_fine : ℕ → Bool → Bool → Entry → Bool
file_fine names main last e =
    ltb e.name names && good_role main last e.owner && eqb e.reserved 0 && (not (eqb e.root 65535) || not (eqb e.owner 3))

-- An entry of a file, before any others.
abbrev pub FileAs : ℕ → List ℕ → ℕ → Bool → Bool → ℕ → Entry → Option ℕ → Type 0
FileAs names ns nodes main last next e None =
    (es : List Entry) → no_entries es ≡ last → T (good_files names main next (e ∷ es) (row_trees ns next nodes)) → ⊥
FileAs names ns nodes main last next e (Some after) =
    Whole ns after nodes
    × ((es : List Entry) → no_entries es ≡ last → good_files names main next (e ∷ es) (row_trees ns next nodes) ≡ good_files names false after es (row_trees ns after nodes))
