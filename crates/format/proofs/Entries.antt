-- Definitions and files, and their entries. Assumes nothing.
--     entries-good, definitions-back, after-bodies, files-back    definitions and files that fit have good entries, from which they are read
--     written                                                     good entries make definitions and files that fit and have those entries
use mathlib.Core.Path.{◌≡◌, refl, sym, ap, ◌∙◌}
use mathlib.Core.Bool.{Bool, true, false, cond, ◌&&◌, ◌||◌, not, beq, and-false}
use mathlib.Core.List.{List, [], ◌∷◌}
use Prim.Native.Nat.{ℕ, suc, ◌+◌, ◌≤◌, ◌<◌}
use native.Mathlib.Nat.{zero-add, add-zero, add_assoc, le_of_suc-le-suc}
use native.Mathlib.Omega.{arith}
use borrow.Author.Tests.{ne_eqb, ltb-true, ltb-false, eqb-true}
use lib.Dec.{T, ltb, eqb, eqb→eq}
use lib.ListN.{length}
use Rattle.format.specs.declared.Place.TheVariants.{Root}
use Rattle.format.specs.Forest.{Forest, end, tree, count, breadth, beside, first_tree, other_trees, after_trees, map_forest, no_trees}
use Rattle.format.specs.Node.{Node}
use Rattle.format.specs.Book.{Definition, Role, Main, TypeImport, ServiceImport, InitArgs, File, bodies, actors}
use Rattle.format.specs.Encode.{Row, row_of, sized, Entry, role_number, root_of, definition_entries, file_entries}
use Rattle.format.specs.Fits.{max_names, max_files, every, not_init, forest_fits, is_init, definition_fits, files_rise, is_init_role, is_main, file_fits, imports_fit, roles_fit}
use Rattle.format.specs.Layout.{node_of, role_of, definitions_of, files_of}
use Rattle.format.specs.Rules.{good_forest, good_role, no_entries, good_files, good_entries}
use Rattle.format.proofs.Logic.{says}
use Rattle.format.proofs.Lists.{All, numbered, number-at}
use Rattle.format.proofs.Trees.{beside-assoc, count-beside, breadth-beside, first-one, other-one, after-beside, count-map, count-sized, fits-join}
use Rattle.format.proofs.Bytes.{EntryGood}
use Rattle.format.proofs.Nodes.{row-kind, init-kind, init-row}

-- ---- Roles, and kind 26, by their numbers
by-role : (P : Role → Type 0) → P Main → P TypeImport → P ServiceImport → P InitArgs → (r : Role) → P r
by-role P a b c d Main = a
by-role P a b c d TypeImport = b
by-role P a b c d ServiceImport = c
by-role P a b c d InitArgs = d

pub role-back : (r : Role) → role_of (role_number r) ≡ r
unfolding role_of role_number
role-back = by-role (λ r. role_of (role_number r) ≡ r) refl refl refl refl

pub main-role : (r : Role) → eqb (role_number r) 0 ≡ is_main r
unfolding role_number is_main
main-role = by-role (λ r. eqb (role_number r) 0 ≡ is_main r) refl refl refl refl

pub init-role : (r : Role) → eqb (role_number r) 3 ≡ is_init_role r
unfolding role_number is_init_role
init-role = by-role (λ r. eqb (role_number r) 3 ≡ is_init_role r) refl refl refl refl

pub role-small : (r : Role) → role_number r < 4
unfolding role_number
role-small = by-role (λ r. role_number r < 4) (omega arith) (omega arith) (omega arith) (omega arith)

-- an import's role, where it stands last and where it does not
import-last : (r : Role) → not (is_main r) ≡ (good_role false true (role_number r) && true)
unfolding role_number is_main good_role
import-last = by-role (λ r. not (is_main r) ≡ (good_role false true (role_number r) && true)) refl refl refl refl

import-inside : (r : Role) → (not (is_main r) && not (is_init_role r)) ≡ good_role false false (role_number r)
unfolding role_number is_main is_init_role good_role
import-inside = by-role (λ r. (not (is_main r) && not (is_init_role r)) ≡ good_role false false (role_number r)) refl refl refl refl

beq-false : (b : Bool) → beq false b ≡ not b
beq-false true = refl
beq-false false = refl

-- ---- Roles in their order: `roles_fit` where the first file stands first, else `imports_fit`
unfoldable pub roles_at : Bool → List File → Bool
roles_at true fs = roles_fit fs
roles_at false fs = imports_fit fs

roles-cons :
    (main : Bool) (next : ℕ) (f : File) (fs : List File)
    → roles_at main (f ∷ fs) ≡ (good_role main (no_entries (file_entries next fs)) (role_number f.role) && imports_fit fs)
unfolding roles_at roles_fit imports_fit good_role no_entries file_entries
roles-cons true next f fs = rw (main-role f.role)
roles-cons false next f [] = import-last f.role
roles-cons false next f (g ∷ fs) = rw (import-inside f.role)

-- A definition and a file by their parts, so that a proof can go by the tree.
abbrev definition_of : ℕ → ℕ → Forest Node → Definition
definition_of name file body = record { name = name; file = file; body = body }

abbrev file_of : ℕ → Role → Forest Node → File
file_of name role actor = record { name = name; role = role; actor = actor }

pub length-definitions : (next : ℕ) (ds : List Definition) → length (definition_entries next ds) ≡ length ds
unfolding definition_entries
length-definitions next [] = refl
length-definitions next (d ∷ ds) = ap suc (length-definitions (next + count d.body) ds)

pub length-files : (next : ℕ) (fs : List File) → length (file_entries next fs) ≡ length fs
unfolding file_entries
length-files next [] = refl
length-files next (f ∷ fs) = ap suc (length-files (next + count f.actor) fs)

-- ---- Definitions that fit
module _ (names files : ℕ) where
  pub definition-numbers : (d : Definition) → T (definition_fits names files d) → (d.name < names) × (d.file < files)
  unfolding definition_fits
  definition-numbers d h = (simp says at h).0.0.0

  pub one-body : (d : Definition) → T (definition_fits names files d) → breadth d.body ≡ 1
  unfolding definition_fits
  one-body d h = (simp says at h).0.0.1

  -- their entries are good, where the files' are
  good-definition :
      (least next name file : ℕ) (body g : Forest Node) (ds : List Definition) (fs : List Entry) → T (definition_fits names files (definition_of name file body)) → least ≤ file
      → T (good_entries names files file (next + count body) (definition_entries (next + count body) ds) fs (sized g))
      → T (good_entries names files least next (definition_entries next (definition_of name file body ∷ ds)) fs (sized (beside body g)))
  unfolding definition_fits definition_entries good_entries sized beside is_init count breadth row_of
  good-definition least next name file end g ds fs h l r = absurd (omega (arith, (simp says at h).0.0.1))
  good-definition least next name file (tree n k end) g ds fs h l r =
      let p = simp says at h in
      rw (init-kind n.kind, count-sized k, add-zero (count k))
      (simp says ((((((p.0.0.0.0, p.0.0.0.1), l), refl), refl), p.0.1), rw (add-zero (count k)) at r))
  good-definition least next name file (tree n k (tree n' k' m)) g ds fs h l r = absurd (omega (arith, (simp says at h).0.0.1))

  definitions-good :
      (least next : ℕ) (ds : List Definition) (fs : List Entry) (g : Forest Node) → T (every (definition_fits names files) ds) → T (files_rise least ds)
      → T (good_files names true (next + count (bodies ds)) fs (sized g))
      → T (good_entries names files least next (definition_entries next ds) fs (sized (beside (bodies ds) g)))
  unfolding every files_rise bodies definition_entries good_entries beside count
  definitions-good least next [] fs g a b c = rw (add-zero next) at c
  definitions-good least next (d ∷ ds) fs g a b c =
      let p = simp says at a in
      let q = simp says at b in
      let later : ℕ = next + count d.body in
      rw (beside-assoc d.body (bodies ds) g)
      (good-definition least next d.name d.file d.body (beside (bodies ds) g) ds fs p.0 q.0
      (definitions-good d.file later ds fs g p.1 q.1 (rw (count-beside d.body (bodies ds), ← add_assoc next (count d.body) (count (bodies ds))) at c)))

  -- and are read back
  pub definitions-back : (next : ℕ) (ds : List Definition) (g : Forest Node) → T (every (definition_fits names files) ds) → definitions_of (definition_entries next ds) (beside (bodies ds) g) ≡ ds
  unfolding every bodies definition_entries definitions_of
  definitions-back next [] g a = refl
  definitions-back next (d ∷ ds) g a =
      let p = simp says at a in
      let o = one-body d p.0 in
      let r : Forest Node = beside (bodies ds) g in
      rw (beside-assoc d.body (bodies ds) g, first-one d.body r o, other-one d.body r o, definitions-back (next + count d.body) ds g p.1)

  length-bodies : (ds : List Definition) → T (every (definition_fits names files) ds) → breadth (bodies ds) ≡ length ds
  unfolding every bodies breadth
  length-bodies [] a = refl
  length-bodies (d ∷ ds) a =
      let p = simp says at a in
      omega (arith, breadth-beside d.body (bodies ds), one-body d p.0, length-bodies ds p.1)

  pub after-bodies :
      (next : ℕ) (ds : List Definition) (g : Forest Node) → T (every (definition_fits names files) ds) → after_trees (length (definition_entries next ds)) (beside (bodies ds) g) ≡ g
  after-bodies next ds g a = rw (length-definitions next ds, ← length-bodies ds a) (after-beside (bodies ds) g)

  pub bodies-fit : (ds : List Definition) → T (every (definition_fits names files) ds) → T (forest_fits names Root (bodies ds))
  unfolding every bodies forest_fits definition_fits
  bodies-fit [] a = tt
  bodies-fit (d ∷ ds) a = let p = simp says at a in fits-join names Root d.body (bodies ds) p.0.1 (bodies-fit ds p.1)

-- ---- Files that fit
module _ (names : ℕ) where
  pub file-name : (f : File) → T (file_fits names f) → f.name < names
  unfolding file_fits
  file-name f h = (simp says at h).0.0.0

  pub one-actor : (f : File) → T (file_fits names f) → breadth f.actor ≤ 1
  unfolding file_fits
  one-actor f h = (simp says at h).0.0.1

  -- What a file's entry must be, whatever its tree.
  record Good (main : Bool) (e : Entry) (es : List Entry) : Type 0 where
    name : e.name < names
    role : T (good_role main (no_entries es) e.owner)
    reserved : e.reserved ≡ 0

  -- an entry with no tree, and one with a tree
  skips :
      {main : Bool} {e : Entry} {es : List Entry} (next : ℕ) (f : Forest Row) → Good main e es → e.root ≡ 65535 → T (not (eqb e.owner 3))
      → T (good_files names false next es f) → T (good_files names main next (e ∷ es) f)
  unfolding good_files
  skips next end g h i r = simp says (((((g.name, g.role), g.reserved), h), i), r)
  skips next (tree n k m) g h i r = simp says (((g.name, g.role), g.reserved), rw h (simp says (i, r)))

  takes :
      {main : Bool} {e : Entry} {es : List Entry} (next : ℕ) (r : Row) (k m : Forest Row) → Good main e es → e.root ≡ next → next < 65535
      → T (beq (eqb r.kind 26) (eqb e.owner 3)) → T (good_files names false (next + suc (count k)) es m)
      → T (good_files names main next (e ∷ es) (tree r k m))
  unfolding good_files
  takes {e = e} next r k m g h l i t =
      rw (ne_eqb e.root 65535 (omega arith)) (simp says (((g.name, g.role), g.reserved), ((h, i), t)))

  good-file :
      (main : Bool) (next name : ℕ) (role : Role) (actor g : Forest Node) (fs : List File) → T (file_fits names (file_of name role actor))
      → T (good_role main (no_entries (file_entries (next + count actor) fs)) (role_number role)) → next + count actor < 65535
      → T (good_files names false (next + count actor) (file_entries (next + count actor) fs) (sized g))
      → T (good_files names main next (file_entries next (file_of name role actor ∷ fs)) (sized (beside actor g)))
  unfolding file_fits file_entries sized beside is_init count breadth row_of root_of
  good-file main next name role end g fs h i l r =
      let p = simp says at h in
      rw (add-zero next)
      (skips next (sized g) (record { name = p.0.0.0; role = rw (add-zero next) at i; reserved = refl }) refl (rw (init-role role, ← beq-false (is_init_role role)) p.0.1) (rw (add-zero next) at r))
  good-file main next name role (tree n k end) g fs h i l r =
      let p = simp says at h in
      takes next (row_of n (suc (count k))) (sized k) (sized g) (record { name = p.0.0.0; role = i; reserved = refl }) refl (omega arith)
      (rw (init-kind n.kind, init-role role) p.0.1) (rw (count-sized k, add-zero (count k)) (rw (add-zero (count k)) at r))
  good-file main next name role (tree n k (tree n' k' m)) g fs h i l r = absurd (omega (arith, (simp says at h).0.0.1))

  -- their entries are good
  pub files-good :
      (main : Bool) (next : ℕ) (fs : List File) → next + count (actors fs) < 65535 → T (every (file_fits names) fs) → T (roles_at main fs)
      → T (good_files names main next (file_entries next fs) (sized (actors fs)))
  unfolding every actors file_entries sized good_files no_trees roles_at
  files-good main next [] l a b = tt
  files-good main next (f ∷ fs) l a b =
      let p = simp says at a in
      let later : ℕ = next + count f.actor in
      let q = simp says at (rw (roles-cons main later f fs) at b) in
      let c = count-beside f.actor (actors fs) in
      good-file main next f.name f.role f.actor (actors fs) fs p.0 q.0 (omega arith) (files-good false later fs (omega arith) p.1 q.1)

  -- and are read back
  file-back :
      (next name : ℕ) (role : Role) (actor g : Forest Node) (fs : List File) → T (file_fits names (file_of name role actor)) → next + count actor < 65535
      → files_of (file_entries next (file_of name role actor ∷ fs)) (beside actor g) ≡ file_of name role actor ∷ files_of (file_entries (next + count actor) fs) g
  unfolding file_fits file_entries files_of root_of breadth count beside first_tree other_trees
  file-back next name role end g fs h l = rw (role-back role)
  file-back next name role (tree n k end) g fs h l = rw (ne_eqb next 65535 (omega arith), role-back role)
  file-back next name role (tree n k (tree n' k' m)) g fs h l = absurd (omega (arith, (simp says at h).0.0.1))

  pub files-back : (next : ℕ) (fs : List File) → next + count (actors fs) < 65535 → T (every (file_fits names) fs) → files_of (file_entries next fs) (actors fs) ≡ fs
  unfolding every actors file_entries files_of
  files-back next [] l a = refl
  files-back next (f ∷ fs) l a =
      let p = simp says at a in
      let later : ℕ = next + count f.actor in
      let c = count-beside f.actor (actors fs) in
      file-back next f.name f.role f.actor (actors fs) fs p.0 (omega arith) ∙ ap (λ (l : List File). f ∷ l) (files-back later fs (omega arith) p.1)

  pub actors-fit : (fs : List File) → T (every (file_fits names) fs) → T (forest_fits names Root (actors fs))
  unfolding every actors forest_fits file_fits
  actors-fit [] a = tt
  actors-fit (f ∷ fs) a = let p = simp says at a in fits-join names Root f.actor (actors fs) p.0.1 (actors-fit fs p.1)

-- ---- Definitions and files that fit
module _ (names files : ℕ) where
  pub entries-good :
      (least next : ℕ) (ds : List Definition) (fs : List File) → next + count (beside (bodies ds) (actors fs)) < 65535 → T (every (definition_fits names files) ds)
      → T (files_rise least ds) → T (every (file_fits names) fs) → T (roles_fit fs)
      → T (good_entries names files least next (definition_entries next ds) (file_entries (next + count (bodies ds)) fs) (sized (beside (bodies ds) (actors fs))))
  unfolding roles_at
  entries-good least next ds fs l a b c d =
      let later : ℕ = next + count (bodies ds) in
      definitions-good names files least next ds (file_entries later fs) (actors fs) a b
      (files-good names true later fs (omega (arith, count-beside (bodies ds) (actors fs))) c d)

  pub trees-fit : (ds : List Definition) (fs : List File) → T (every (definition_fits names files) ds) → T (every (file_fits names) fs) → T (forest_fits names Root (beside (bodies ds) (actors fs)))
  trees-fit ds fs a b = fits-join names Root (bodies ds) (actors fs) (bodies-fit names files ds a) (actors-fit names fs b)

root-small : (next : ℕ) (f : Forest Node) → next < 65535 → root_of next f < 65536
unfolding root_of
root-small next end l = omega arith
root-small next (tree n k m) l = omega arith

module _ (names : ℕ) (few : names ≤ max_names) where
  pub definitions-small :
      (files next : ℕ) (ds : List Definition) → files ≤ max_files → next + count (bodies ds) < 65535 → T (every (definition_fits names files) ds)
      → All EntryGood (definition_entries next ds)
  unfolding every bodies definition_entries definition_fits
  definitions-small files next [] t l a = tt
  definitions-small files next (d ∷ ds) t l a =
      let p = simp says at a in
      let n : d.name < names = p.0.0.0.0.0 in
      let f : d.file < files = p.0.0.0.0.1 in
      let c = count-beside d.body (bodies ds) in (
        record { name = omega arith; owner = omega arith; root = omega arith; reserved = omega arith },
        definitions-small files (next + count d.body) ds t (omega arith) p.1,
      )

  pub files-small : (next : ℕ) (fs : List File) → next + count (actors fs) < 65535 → T (every (file_fits names) fs) → All EntryGood (file_entries next fs)
  unfolding every actors file_entries file_fits
  files-small next [] l a = tt
  files-small next (f ∷ fs) l a =
      let p = simp says at a in
      let n : f.name < names = p.0.0.0.0 in
      let c = count-beside f.actor (actors fs) in (
        record { name = omega arith; owner = omega (arith, role-small f.role); root = root-small next f.actor (omega arith); reserved = omega arith },
        files-small (next + count f.actor) fs (omega arith) p.1,
      )

-- ---- Good entries
role-forth : (k : ℕ) → k < 4 → role_number (role_of k) ≡ k
unfolding role_number role_of numbered
role-forth k h = number-at role_number 0 (Main ∷ TypeImport ∷ ServiceImport ∷ []) InitArgs tt k (le_of_suc-le-suc h) ∙ zero-add k

good-role : (main last : Bool) (k : ℕ) → T (good_role main last k) → role_number (role_of k) ≡ k
unfolding good_role
good-role main last k h = role-forth k (go (ltb k 4) refl main h)
  where
    go : (b : Bool) → ltb k 4 ≡ b → (main : Bool) → T (good_role main last k) → k < 4
    go true e main h = ltb-true k 4 e
    go false e true h = omega (arith, eqb→eq k 0 h)
    go false e false h =
        let l = ltb-false k 4 e in
        absurd (rw (ne_eqb k 1 (omega arith), ne_eqb k 2 (omega arith), ne_eqb k 3 (omega arith), and-false last) at h)

-- a root is of kind 26 exactly if its node is
root-row : (names : ℕ) (r : Row) (k m : Forest Row) → T (good_forest names Root (tree r k m)) → not (not_init (node_of r).kind) ≡ eqb r.kind 26
unfolding good_forest
root-row names r k m h = init-row r (row-kind names Root r (breadth k) (simp says at h).0.0)

-- an entry is that of its name and its owner, where its other numbers are right
entry-is : (e : Entry) (root : ℕ) (es : List Entry) → e.root ≡ root → e.reserved ≡ 0 → ◌≡◌ {A = List Entry} (record { name = e.name; owner = e.owner; root = root; reserved = 0 } ∷ es) (e ∷ es)
entry-is e root es p q = rw (← p, ← q)

-- ---- Files from good entries
-- What is known of the files that entries make with trees g, the first entry's tree being at node `next`.
pub record FilesWritten (names : ℕ) (main : Bool) (next : ℕ) (es : List Entry) (g : Forest Node) : Type 0 where
  pub entries : file_entries next (files_of es g) ≡ es
  pub trees : actors (files_of es g) ≡ g
  pub fit : T (every (file_fits names) (files_of es g))
  pub roles : T (roles_at main (files_of es g))

module _ (names : ℕ) where
  file-written :
      {main : Bool} {e : Entry} {es : List Entry} (next : ℕ) (actor g : Forest Node) → Good names main e es → e.root ≡ root_of next actor → breadth actor ≤ 1
      → T (beq (is_init actor) (eqb e.owner 3)) → T (forest_fits names Root actor)
      → files_of (e ∷ es) (beside actor g) ≡ file_of e.name (role_of e.owner) actor ∷ files_of es g
      → FilesWritten names false (next + count actor) es g → FilesWritten names main next (e ∷ es) (beside actor g)
  unfolding file_entries actors every file_fits roles_at
  file-written {main} {e} {es} next actor g c o b i t is w =
      let k : role_number (role_of e.owner) ≡ e.owner = good-role main (no_entries es) e.owner c.role in
      let fs : List File = files_of es g in
      let f : File = file_of e.name (role_of e.owner) actor in
      let init : eqb e.owner 3 ≡ is_init_role (role_of e.owner) = ap (λ (n : ℕ). eqb n 3) (sym k) ∙ init-role (role_of e.owner) in
      record {
        entries = rw (is, k, w.entries) (entry-is e (root_of next actor) es o c.reserved);
        trees = rw is (ap (beside actor) w.trees);
        fit = rw is (simp says ((((c.name, b), rw init at i), t), w.fit));
        roles = rw (is, roles-cons main (next + count actor) f fs, k, w.entries) (simp says (c.role, w.roles));
      }

  skip-written :
      {main : Bool} {e : Entry} {es : List Entry} (next : ℕ) (g : Forest Node) → Good names main e es → e.root ≡ 65535 → T (not (eqb e.owner 3))
      → FilesWritten names false next es g → FilesWritten names main next (e ∷ es) g
  unfolding beside root_of breadth count is_init forest_fits files_of
  skip-written {e = e} next g c o i w =
      file-written next end g c o (omega arith) (rw (beq-false (eqb e.owner 3)) i) tt (rw o) (rw (add-zero next) w)

  -- the files that good entries make with good trees
  pub files-written :
      (main : Bool) (next : ℕ) (es : List Entry) (f : Forest Row) → T (not main || not (no_entries es)) → T (good_files names main next es f)
      → T (good_forest names Root f) → T (forest_fits names Root (map_forest node_of f)) → FilesWritten names main next es (map_forest node_of f)
  unfolding no_entries good_files no_trees map_forest good_forest forest_fits is_init roles_at imports_fit file_entries actors every files_of beside first_tree other_trees count breadth root_of
  files-written true next [] f s h a t = absurd s
  files-written false next [] end s h a t = record { entries = refl; trees = refl; fit = tt; roles = tt }
  files-written false next [] (tree r k m) s h a t = absurd h
  files-written main next (e ∷ es) end s h a t =
      let p = simp says at h in
      skip-written next end (record { name = p.0.0.0.0.0; role = p.0.0.0.0.1; reserved = p.0.0.0.1 }) p.0.0.1 p.0.1 (files-written false next es end tt p.1 tt tt)
  files-written main next (e ∷ es) (tree r k m) s h a t =
      let p = simp says at h in
      go (eqb e.root 65535) refl (record { name = p.0.0.0; role = p.0.0.1; reserved = p.0.1 }) p.1
      (λ q. files-written false next es (tree r k m) tt q a t)
      (λ q. files-written false (next + suc (count k)) es m tt q (simp says at a).1 (simp says at t).1)
    where
      go :
          (b : Bool) → eqb e.root 65535 ≡ b → Good names main e es
          → T (cond b (not (eqb e.owner 3) && good_files names false next es (tree r k m)) (eqb e.root next && beq (eqb r.kind 26) (eqb e.owner 3) && good_files names false (next + suc (count k)) es m))
          → (T (good_files names false next es (tree r k m)) → FilesWritten names false next es (map_forest node_of (tree r k m)))
          → (T (good_files names false (next + suc (count k)) es m) → FilesWritten names false (next + suc (count k)) es (map_forest node_of m))
          → FilesWritten names main next (e ∷ es) (map_forest node_of (tree r k m))
      go true x c q skip take =
          let p = simp says at q in
          skip-written next (map_forest node_of (tree r k m)) c (eqb-true e.root 65535 x) p.0 (skip p.1)
      go false x c q skip take =
          let p = simp says at q in
          let u = simp says at t in
          file-written next (tree (node_of r) (map_forest node_of k) end) (map_forest node_of m) c p.0.0 (omega arith)
          (rw (root-row names r k m a) p.0.1) (simp says (u.0, tt)) (rw x) (rw (add-zero (count (map_forest node_of k)), count-map node_of k) (take p.1))

-- ---- Definitions and files from good entries
some : (es : List Entry) → 1 ≤ length es → T (not (no_entries es))
unfolding no_entries
some [] h = absurd (omega arith)
some (e ∷ es) h = tt

pub length-definitions_of : (es : List Entry) (g : Forest Node) → length (definitions_of es g) ≡ length es
unfolding definitions_of
length-definitions_of [] g = refl
length-definitions_of (e ∷ es) g = ap suc (length-definitions_of es (other_trees g))

pub length-files_of : (es : List Entry) (g : Forest Node) → length (files_of es g) ≡ length es
unfolding files_of
length-files_of [] g = refl
length-files_of (e ∷ es) g = go (eqb e.root 65535) (length-files_of es g) (length-files_of es (other_trees g))
  where
    go :
        (b : Bool) → length (files_of es g) ≡ length es → length (files_of es (other_trees g)) ≡ length es
        → length (cond b (file_of e.name (role_of e.owner) end ∷ files_of es g) (file_of e.name (role_of e.owner) (first_tree g) ∷ files_of es (other_trees g))) ≡ suc (length es)
    go true x y = ap suc x
    go false x y = ap suc y

-- What is known of the definitions and the files that entries make with trees g, the first tree being at node `next`.
pub record Written (names files least next : ℕ) (ds fs : List Entry) (g : Forest Node) : Type 0 where
  pub definitions_are : definition_entries next (definitions_of ds g) ≡ ds
  pub files_are : file_entries (next + count (bodies (definitions_of ds g))) (files_of fs (after_trees (length ds) g)) ≡ fs
  pub trees : beside (bodies (definitions_of ds g)) (actors (files_of fs (after_trees (length ds) g))) ≡ g
  pub definitions_fit : T (every (definition_fits names files) (definitions_of ds g))
  pub rise : T (files_rise least (definitions_of ds g))
  pub files_fit : T (every (file_fits names) (files_of fs (after_trees (length ds) g)))
  pub roles : T (roles_fit (files_of fs (after_trees (length ds) g)))

module _ (names files : ℕ) where
  pub written :
      (least next : ℕ) (ds fs : List Entry) (f : Forest Row) → 1 ≤ length fs → T (good_entries names files least next ds fs f)
      → T (good_forest names Root f) → T (forest_fits names Root (map_forest node_of f)) → Written names files least next ds fs (map_forest node_of f)
  unfolding good_entries definitions_of definition_entries bodies actors every definition_fits files_rise roles_at is_init map_forest beside count breadth after_trees first_tree other_trees good_forest forest_fits
  written least next [] fs f s h a t =
      let w = files-written names true next fs f (some fs s) h a t in
      record {
        definitions_are = refl;
        files_are = rw (add-zero next) w.entries;
        trees = w.trees;
        definitions_fit = tt;
        rise = tt;
        files_fit = w.fit;
        roles = w.roles;
      }
  written least next (e ∷ es) fs end s h a t = absurd h
  written least next (e ∷ es) fs (tree r k m) s h a t =
      let p = simp says at h in
      let u = simp says at t in
      let w = written e.owner (next + suc (count k)) es fs m s p.1 (simp says at a).1 u.1 in
      let N : Forest Node = map_forest node_of m in
      let body : Forest Node = tree (node_of r) (map_forest node_of k) end in
      let one : count body ≡ suc (count k) = omega (arith, count-map node_of k) in
      let all : next + count (beside body (bodies (definitions_of es N))) ≡ (next + suc (count k)) + count (bodies (definitions_of es N)) = omega (arith, count-map node_of k) in
      record {
        definitions_are = rw (one, w.definitions_are) (entry-is e next es p.0.0.0.1 p.0.0.1);
        files_are = rw all w.files_are;
        trees = ap (tree (node_of r) (map_forest node_of k)) w.trees;
        definitions_fit = simp says (((((p.0.0.0.0.0.0, p.0.0.0.0.0.1), refl), rw (root-row names r k m a) p.0.1), (u.0, tt)), w.definitions_fit);
        rise = simp says (p.0.0.0.0.1, w.rise);
        files_fit = w.files_fit;
        roles = w.roles;
      }
