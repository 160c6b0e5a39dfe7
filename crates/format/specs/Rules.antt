-- The rules that code can test one by one on rows and entries, in place of "it fits and encodes to the very bytes". Nobody has to believe
-- these: proofs/Theorems.antt shows that bytes meet them exactly if `layout` finds a book. Definitions; assumes nothing.
use Rattle.std.specs.Prelude.{◌≡◌, Bool, true, false, cond, ◌&&◌, ◌||◌, not, List, [], ◌∷◌, ℕ, zero, suc, ◌+◌, ◌*◌, ◌/◌, ◌%◌, ◌≤◌, ◌<◌, length, get_or, T, leb, ltb, eqb}
use Rattle.std.specs.Bool.{beq}
use Rattle.format.specs.declared.Place.{Place}
use Rattle.format.specs.declared.Place.TheVariants.{Root, Field, Method, Inner}
use Rattle.format.specs.Forest.{Forest, end, tree, count, breadth, no_trees}
use Rattle.format.specs.Encode.{Row, Entry, name_bytes}
use Rattle.refusals.specs.Lists.{flat}
use Rattle.format.specs.Fits.{max_names, max_nodes, max_definitions, max_files, max_bytes, ascending}
use Rattle.format.specs.Layout.{le32, entry_at, run, names_of, names_part, nodes_part, definitions_part, files_part, row_trees}

-- All are bytes.
abbrev pub Bytes : List ℕ → Type 0
Bytes bs = (i : ℕ) → get_or bs i 0 < 256

-- ---- Rows

-- Digits in base 4, of which only 0 follows a 0; at most k digits.
unfoldable pub good_modes : ℕ → ℕ → Bool
good_modes zero m = eqb m 0
good_modes (suc k) m = cond (eqb (m % 4) 0) (eqb m 0) (good_modes k (m / 4))

-- A kind k with the value v and `kids` children, where there are `names` names.
unfoldable pub good_kind : ℕ → ℕ → ℕ → ℕ → Bool
good_kind names k v kids =
    cond (ltb k 18) (eqb v 0 && eqb kids 0)
    (cond (eqb k 18) (ltb v names && eqb kids 0)
    (cond (ltb k 21) (eqb v 0 && eqb kids 1)
    (cond (eqb k 23) (leb (v % 65536) kids && good_modes 8 (v / 65536))
    (cond (eqb k 25) (eqb v 0 && leb 1 kids)
    (ltb k 27 && eqb v 0)))))

-- Kind 26 stands at a root alone.
unfoldable pub good_place : Place → ℕ → Bool
good_place Root k = true
good_place Field k = not (eqb k 26)
good_place Method k = not (eqb k 26)
good_place Inner k = not (eqb k 26)

-- A label kind and a label.
unfoldable pub good_label : ℕ → Place → ℕ → ℕ → Bool
good_label names Root k l = eqb k 0 && eqb l 0
good_label names Field k l = cond (eqb k 2) (ltb l names) (eqb k 1 || eqb k 3)
good_label names Method k l = eqb k 2 && ltb l names
good_label names Inner k l = eqb k 0 && eqb l 0

unfoldable pub good_row : ℕ → Place → Row → ℕ → Bool
good_row names p r kids =
    good_kind names r.kind r.value kids && good_place p r.kind && good_label names p r.lkind r.label

-- Where the children of a node of kind k stand.
unfoldable pub below_kind : ℕ → Place
below_kind k = cond (eqb k 21) Field (cond (eqb k 22) Field (cond (eqb k 24) Method Inner))

unfoldable pub good_forest : ℕ → Place → Forest Row → Bool
good_forest names p end = true
good_forest names p (tree r kids next) =
    good_row names p r (breadth kids) && good_forest names (below_kind r.kind) kids && good_forest names p next

-- Each node's size is right.
abbrev pub Sized : Forest Row → Type 0
Sized end = Unit {0}
Sized (tree r kids next) = (r.size ≡ suc (count kids)) × Sized kids × Sized next

-- ---- Entries

-- Role 0 first and nowhere else; 3 last.
unfoldable pub good_role : Bool → Bool → ℕ → Bool
good_role true last role = eqb role 0
good_role false last role = eqb role 1 || eqb role 2 || last && eqb role 3

unfoldable pub no_entries : List Entry → Bool
no_entries [] = true
no_entries (e ∷ es) = false

-- The files' entries, from node `next` on, where the trees that are left are f. The Bool says whether the first file stands first.
unfoldable pub good_files : ℕ → Bool → ℕ → List Entry → Forest Row → Bool
good_files names main next [] f = no_trees f
good_files names main next (e ∷ es) end =
    ltb e.name names && good_role main (no_entries es) e.owner && eqb e.reserved 0
    && eqb e.root 65535 && not (eqb e.owner 3) && good_files names false next es end
good_files names main next (e ∷ es) (tree r kids after) =
    ltb e.name names && good_role main (no_entries es) e.owner && eqb e.reserved 0
    && cond (eqb e.root 65535)
    (not (eqb e.owner 3) && good_files names false next es (tree r kids after))
    (eqb e.root next && beq (eqb r.kind 26) (eqb e.owner 3) && good_files names false (next + suc (count kids)) es after)

-- The definitions' entries ds, where `file` is the least file number allowed, and then the files' entries fs.
unfoldable pub good_entries : ℕ → ℕ → ℕ → ℕ → List Entry → List Entry → Forest Row → Bool
good_entries names files file next [] fs f = good_files names true next fs f
good_entries names files file next (e ∷ es) fs end = false
good_entries names files file next (e ∷ es) fs (tree r kids after) =
    ltb e.name names && ltb e.owner files && leb file e.owner && eqb e.root next && eqb e.reserved 0
    && not (eqb r.kind 26) && good_entries names files e.owner (next + suc (count kids)) es fs after

-- ---- The table of contents, and the whole
pub record Contents (bs : List ℕ) : Type 0 where
  pub long : 32 ≤ length bs
  pub short : length bs ≤ max_bytes
  pub names_at : le32 bs 0 ≡ 32
  pub few_names : le32 bs 4 ≤ max_names
  pub nodes_at : 32 ≤ le32 bs 8
  pub few_nodes : le32 bs 12 ≤ max_nodes
  pub definitions_at : le32 bs 16 ≡ le32 bs 8 + 12 * le32 bs 12
  pub few_definitions : le32 bs 20 ≤ max_definitions
  pub files_at : le32 bs 24 ≡ le32 bs 16 + 8 * le32 bs 20
  pub some_files : 1 ≤ le32 bs 28
  pub few_files : le32 bs 28 ≤ max_files
  pub ends : length bs ≡ le32 bs 24 + 8 * le32 bs 28

-- The bytes of n names.
pub record Names (n : ℕ) (bs : List ℕ) : Type 0 where
  pub filled : flat name_bytes (names_of (length bs) bs) ≡ bs
  pub counted : length (names_of (length bs) bs) ≡ n
  pub rising : T (ascending (names_of (length bs) bs))

pub record Rules (bs : List ℕ) : Type 0 where
  pub contents : Contents bs
  pub names : Names (le32 bs 4) (names_part bs)
  pub sized : Sized (row_trees (nodes_part bs) 0 (le32 bs 12))
  pub nodes : T (good_forest (le32 bs 4) Root (row_trees (nodes_part bs) 0 (le32 bs 12)))
  pub entries :
      T (good_entries (le32 bs 4) (le32 bs 28) 0 0 (run (entry_at (definitions_part bs)) 0 (le32 bs 20))
      (run (entry_at (files_part bs)) 0 (le32 bs 28)) (row_trees (nodes_part bs) 0 (le32 bs 12)))
