-- What the code reads of a book's definitions and files, joined with the definitions of the check. Of bytes bs that lay out the book b
-- (`layout bs ≡ whole b`); assumes nothing else.
--     main-definitions-are, init-definitions-are      where the code splits the definitions, main's end and the init file's begin
--     init-tree-is, init-root                         the init arguments
--     no-init, init-definitions-none                  what holds where the code finds no init file
--     main-actor-is                                   the main actor
--     some-files, few-files, file-root                what the code that walks the bytes asks of them
--     definition-tree-fits                            the trees fit
--     files-held, names-book, ..                      the same of an admitted book by its contents
use mathlib.Core.Path.{◌≡◌, refl, sym, ap, subst, ◌∙◌}
use mathlib.Core.Bool.{Bool, true, false, cond, not}
use mathlib.Core.List.Memᴰ
use mathlib.Core.List.{List, [], ◌∷◌, ◌++◌, map, map-append}
use Prim.Native.Nat.{ℕ, zero, suc, ◌+◌, ◌-◌, ◌≤◌, ◌<◌}
use native.Mathlib.Nat.{zero-add, sub-zero}
use native.Mathlib.Decide.{dec_lt}
use native.Mathlib.Omega.{arith}
use borrow.Author.Tests.{lt-ltb, le-ltb}
use lib.Dec.{T, T_not, ltb, eqb, eqb→eq}
use lib.ListN.{length, get_or}
use Rattle.format.specs.declared.Place.TheVariants.{Root}
use Rattle.format.specs.Forest.{end, count}
use Rattle.format.specs.Book.{Definition, Role, Main, TypeImport, ServiceImport, InitArgs, File, Book, trees}
use Rattle.format.specs.Encode.{Entry}
use Rattle.format.specs.Fits.{is_init, is_init_role, is_main, forest_fits, definition_fits, files_rise, file_fits, imports_fit, roles_fit}
use Rattle.format.specs.Layout.{entry_at, run, nodes_part, definitions_part, files_part, role_of, read, whole, layout}
use Rattle.format.specs.Whole.{tree_at, definition_at, actor_at, file_at}
use Rattle.format.proofs.Logic.{is-true, is-false, says}
use Rattle.format.proofs.Lists.{All, run-append, made-passes}
use Rattle.format.proofs.Entries.{main-role, init-role}
use Rattle.format.proofs.Stored.{actor-none}
use Rattle.format.proofs.Admitted.{admitted-parts, names-read, files-held as files-fill, definition-stored, definitions-are, file-stored, files-are}
use Rattle.book.specs.declared.kinds.Contents.{Contents}
use Rattle.book.specs.Reading.{EntryWithin, Admitted}
use Rattle.book.specs.Tables.{HashesAgree, HashesOf}
use Rattle.book.proofs.Opened.{nodes-count, files-count}
use Rattle.judgement.specs.Environment.{role_at, keep, main_definitions, init_definitions}
use Rattle.judgement.specs.Actor.{first_actor, main_actor, init_tree, NoInit}
use Rattle.judgement.proofs.Lookup.{keep-first, keep-last}
use Rattle.judgement.proofs.Books.{definition-fits}
use Rattle.judgement.proofs.Theorems.{no-init-definitions, no-init-tree}
use Rattle.environment.specs.Tables.{definitions_in}
use Rattle.syntax.specs.Files.{files_in, FileRoots, FileTable, init_at, SplitAs}

-- ---- Files by their places
role-at : (l : List File) (j : ℕ) (x : File) → j < length l → role_at l j ≡ (get_or l j x).role
unfolding role_at
role-at [] j x h = absurd (omega arith)
role-at (f ∷ l) zero x h = refl
role-at (f ∷ l) (suc j) x h = role-at l j x (omega arith)

first-actor : (l : List File) (x : File) → 0 < length l → first_actor l ≡ (get_or l 0 x).actor
unfolding first_actor
first-actor [] x h = absurd (omega arith)
first-actor (f ∷ l) x h = refl

-- the first file whose role is that of init arguments
init-at : (l : List File) (i : ℕ) (x : File) → i < length l → is_init_role (role_at l i) ≡ true → ((j : ℕ) → j < i → is_init_role (role_at l j) ≡ false) →
    init_tree l ≡ (get_or l i x).actor
unfolding role_at init_tree
init-at [] i x h e n = absurd (omega arith)
init-at (f ∷ l) zero x h e n = rw e
init-at (f ∷ l) (suc i) x h e n = rw (n 0 (omega arith)) (init-at l i x (omega arith) e (λ j m. n (suc j) (omega arith)))

none-init : (l : List File) → ((j : ℕ) → j < length l → is_init_role (role_at l j) ≡ false) → NoInit l
unfolding role_at is_init_role
none-init [] n f x3 r = elim x3 [ ]
none-init (g ∷ l) n f (Memᴰ.head e) r =
    let t : true ≡ false = ap is_init_role (sym (ap (λ (k : File). k.role) (sym e) ∙ r)) ∙ n 0 (omega arith) in
    let z : ◌≡◌ {A = ℕ} 0 1 = cc in omega arith
none-init (g ∷ l) n f (Memᴰ.tail m) r = none-init l (λ j h. n (suc j) (omega arith)) f m r

-- ---- Init arguments stand last
main-not-init : (r : Role) → T (is_main r) → T (is_init_role r) → ⊥
unfolding is_main is_init_role
main-not-init Main m i = i
main-not-init TypeImport m i = m
main-not-init ServiceImport m i = m
main-not-init InitArgs m i = m

imports-last : (l : List File) → T (imports_fit l) → (j : ℕ) → j < length l → T (is_init_role (role_at l j)) → suc j ≡ length l
unfolding imports_fit role_at
imports-last [] t j h i = absurd (omega arith)
imports-last (f ∷ []) t zero h i = refl
imports-last (f ∷ []) t (suc j) h i = absurd (omega arith)
imports-last (f ∷ (g ∷ l)) t zero h i = absurd (T_not (is_init_role f.role) (simp says at t).0.1 i)
imports-last (f ∷ (g ∷ l)) t (suc j) h i = ap suc (imports-last (g ∷ l) (simp says at t).1 j (omega arith) i)

roles-last : (l : List File) → T (roles_fit l) → (j : ℕ) → j < length l → T (is_init_role (role_at l j)) → suc j ≡ length l
unfolding roles_fit role_at
roles-last [] t j h i = absurd t
roles-last (f ∷ l) t zero h i = absurd (main-not-init f.role (simp says at t).0 i)
roles-last (f ∷ l) t (suc j) h i = ap suc (imports-last l (simp says at t).1 j (omega arith) i)

roles-main : (l : List File) (x : File) → T (roles_fit l) → (1 ≤ length l) × T (is_main (get_or l 0 x).role)
unfolding roles_fit
roles-main [] x t = absurd t
roles-main (f ∷ l) x t = (omega arith, (simp says at t).0)

-- ---- The numbers of files rise
rises : (m : ℕ) (l : List Definition) → T (files_rise m l) → (i j : ℕ) (x : Definition) → i ≤ j → j < length l →
    (m ≤ (get_or l i x).file) × ((get_or l i x).file ≤ (get_or l j x).file)
unfolding files_rise
rises m [] t i j x h k = absurd (omega arith)
rises m (d ∷ l) t zero zero x h k = ((simp says at t).0, omega arith)
rises m (d ∷ l) t zero (suc j) x h k = let p = simp says at t in (p.0, (rises d.file l p.1 j j x (omega arith) (omega arith)).0)
rises m (d ∷ l) t (suc i) zero x h k = absurd (omega arith)
rises m (d ∷ l) t (suc i) (suc j) x h k =
    let p = simp says at t in
    let r = rises d.file l p.1 i j x (omega arith) (omega arith) in
    (omega (arith, p.0, r.0), r.1)

-- what g makes of a run is good, where it is at each place
pub all-made : {A B : Type 0} (Good : B → Type 0) (g : A → B) (f : ℕ → A) (n k : ℕ) → ((i : ℕ) → n ≤ i → i < n + k → Good (g (f i))) → All Good (map g (run f n k))
unfolding run
all-made Good g f n zero h = tt
all-made Good g f n (suc k) h = (h n (omega arith) (omega arith), all-made Good g f (suc n) k (λ i l m. h i (omega arith) (omega arith)))

-- The init file as the code finds it: its number, or the number of files where there is none.
abbrev pub init_of : List ℕ → Book → ℕ
init_of bs b = init_at (files_part bs) (length b.files)

-- ---- Bytes bs that lay out the book b
module _ (bs : List ℕ) {b : Book} (w : layout bs ≡ whole b) where
  -- ---- How many there are, and that the bytes hold them
  pub some-files : 1 ≤ length b.files
  some-files = (roles-main b.files (file_at (nodes_part bs) (entry_at (files_part bs) 0)) (admitted-parts bs w).roles).0

  pub few-files : length b.files ≤ 16
  few-files = (admitted-parts bs w).few_files

  pub files-within : EntryWithin (files_part bs) (length b.files)
  files-within = let h = files-fill bs w in record { held = h.0; few = omega (arith, h.1) }

  pub file-root : (j : ℕ) → j < length b.files → ((entry_at (files_part bs) j).root ≡ 65535 → ⊥) → (entry_at (files_part bs) j).root < count (trees b)
  file-root j h n = let t = (file-stored bs w j h).tree n in omega (arith, t.ends, t.whole.one)

  file-passes : (j : ℕ) → j < length b.files → T (file_fits (length b.names) (file_at (nodes_part bs) (entry_at (files_part bs) j)))
  file-passes j h =
      made-passes (entry_at (files_part bs)) (file_at (nodes_part bs)) b.files (files-are bs w) j h (file_fits (length b.names)) (admitted-parts bs w).files

  -- ---- The roles: main's first, and the init file's last
  pub main-first : (entry_at (files_part bs) 0).owner ≡ 0
  main-first =
      let s = file-stored bs w 0 (omega (arith, some-files)) in
      let f : File = file_at (nodes_part bs) (entry_at (files_part bs) 0) in
      let t = (roles-main b.files f (admitted-parts bs w).roles).1 in
      sym s.role ∙ eqb→eq _ 0 (subst T (sym (main-role f.role)) (subst (λ (g : File). T (is_main g.role)) (s.is f) t))

  pub init-within : (init_of bs b ≤ length b.files) × (length b.files ≤ suc (init_of bs b))
  unfolding init_at
  init-within = go (eqb (entry_at (files_part bs) (length b.files - 1)).owner 3)
    where
      go : (c : Bool) → (cond c (length b.files - 1) (length b.files) ≤ length b.files) × (length b.files ≤ suc (cond c (length b.files - 1) (length b.files)))
      go true = (omega arith, omega arith)
      go false = (omega arith, omega arith)

  role-same : (j : ℕ) → j < length b.files → role_at b.files j ≡ role_of (entry_at (files_part bs) j).owner
  role-same j h =
      let f : File = file_at (nodes_part bs) (entry_at (files_part bs) j) in
      role-at b.files j f h ∙ ap (λ (g : File). g.role) ((file-stored bs w j h).is f)

  role-is : (j : ℕ) → j < length b.files → is_init_role (role_at b.files j) ≡ eqb (entry_at (files_part bs) j).owner 3
  role-is j h = ap is_init_role (role-same j h) ∙ sym (init-role _) ∙ ap (λ (k : ℕ). eqb k 3) (file-stored bs w j h).role

  of-init : (j : ℕ) → j < length b.files → j ≡ init_of bs b → is_init_role (role_at b.files j) ≡ true
  unfolding init_at
  of-init j h = go (eqb (entry_at (files_part bs) (length b.files - 1)).owner 3) refl
    where
      go : (c : Bool) → eqb (entry_at (files_part bs) (length b.files - 1)).owner 3 ≡ c → j ≡ cond c (length b.files - 1) (length b.files) →
          is_init_role (role_at b.files j) ≡ true
      go true e q = role-is j h ∙ ap (λ (k : ℕ). eqb (entry_at (files_part bs) k).owner 3) q ∙ e
      go false e q = absurd (omega arith)

  not-init : (j : ℕ) → j < length b.files → (j ≡ init_of bs b → ⊥) → is_init_role (role_at b.files j) ≡ false
  unfolding init_at
  not-init j h n = is-false _ (λ t. n (go t))
    where
      go : T (is_init_role (role_at b.files j)) → j ≡ init_of bs b
      go t =
          let last : length b.files - 1 ≡ j = let e = roles-last b.files (admitted-parts bs w).roles j h t in omega arith in
          rw (last, sym (role-is j h) ∙ is-true (is_init_role (role_at b.files j)) t)

  pub no-init : init_of bs b ≡ length b.files → NoInit b.files
  no-init e = none-init b.files (λ j h. not-init j h (λ q. omega arith))

  pub init-definitions-none : init_of bs b ≡ length b.files → init_definitions b ≡ []
  init-definitions-none e = no-init-definitions b (no-init e)

  pub init-tree-is : init_tree b.files ≡ cond (ltb (init_of bs b) (length b.files)) (actor_at (nodes_part bs) (entry_at (files_part bs) (init_of bs b)).root) end
  init-tree-is = go (dec_lt (init_of bs b) (length b.files))
    where
      go : Dec (init_of bs b < length b.files) →
          init_tree b.files ≡ cond (ltb (init_of bs b) (length b.files)) (actor_at (nodes_part bs) (entry_at (files_part bs) (init_of bs b)).root) end
      go (yes h) =
          let f : File = file_at (nodes_part bs) (entry_at (files_part bs) (init_of bs b)) in
          rw (lt-ltb _ _ h)
          (init-at b.files (init_of bs b) f h (of-init (init_of bs b) h refl) (λ j m. not-init j (omega arith) (λ q. omega arith))
          ∙ ap (λ (g : File). g.actor) ((file-stored bs w (init_of bs b) h).is f))
      go (no h) = rw (le-ltb (init_of bs b) (length b.files) (omega arith)) (no-init-tree b.files (no-init (omega (arith, init-within.0))))

  -- the init file has a tree
  pub init-root : init_of bs b < length b.files → (entry_at (files_part bs) (init_of bs b)).root ≡ 65535 → ⊥
  unfolding file_fits is_init
  init-root h e =
      let t = file-passes (init_of bs b) h in
      let r : is_init_role (role_of (entry_at (files_part bs) (init_of bs b)).owner) ≡ true = ap is_init_role (sym (role-same _ h)) ∙ of-init _ h refl in
      rw (actor-none (nodes_part bs) _ e, r) at (simp says at t).0.1

  -- ---- The main actor
  pub main-actor-is : main_actor b ≡ actor_at (nodes_part bs) (entry_at (files_part bs) 0).root
  unfolding main_actor
  main-actor-is =
      let f : File = file_at (nodes_part bs) (entry_at (files_part bs) 0) in
      first-actor b.files f (omega (arith, some-files)) ∙ ap (λ (g : File). g.actor) ((file-stored bs w 0 (omega (arith, some-files))).is f)

  -- ---- The definitions of main and of the init file
  pub owners-rise : (i j : ℕ) → i ≤ j → j < length b.definitions → (entry_at (definitions_part bs) i).owner ≤ (entry_at (definitions_part bs) j).owner
  owners-rise i j h k =
      let x : Definition = definition_at (nodes_part bs) (entry_at (definitions_part bs) i) in
      rw ((definition-stored bs w i (omega arith)).is x, (definition-stored bs w j k).is x) at (rises 0 b.definitions (admitted-parts bs w).grouped i j x h k).1

  -- those before entry k, and the others
  pub definitions-parts : (k : ℕ) → k ≤ length b.definitions →
      b.definitions ≡ definitions_in (nodes_part bs) (definitions_part bs) 0 k ++ definitions_in (nodes_part bs) (definitions_part bs) k (length b.definitions)
  definitions-parts k h =
      let at : ℕ → Entry = entry_at (definitions_part bs) in
      let make : Entry → Definition = definition_at (nodes_part bs) in
      let n : ℕ = length b.definitions in
      let e : n ≡ k + (n - k) = omega arith in
      definitions-are bs w ∙ ap (λ (m : ℕ). map make (run at 0 m)) e ∙ ap (map make) (run-append at 0 k (n - k))
      ∙ map-append make (run at 0 k) (run at (0 + k) (n - k)) ∙ rw (zero-add k, sub-zero k)

  module _ {k : ℕ} (s : SplitAs (definitions_part bs) (length b.definitions) (init_of bs b) k) where
    later-owner : (d : ℕ) → k ≤ d → d < length b.definitions → (entry_at (definitions_part bs) d).owner ≡ init_of bs b
    later-owner d l m =
        omega (arith, owners-rise k d l m, s.next (omega arith), (definition-stored bs w d m).owner, init-within.1)

    -- what the files of the definitions before k and from k on are
    before-split : (d : ℕ) → d < k → is_init_role (role_at b.files (entry_at (definitions_part bs) d).owner) ≡ false
    before-split d l = not-init _ (definition-stored bs w d (omega (arith, s.within))).owner (s.before d l)

    after-split : (d : ℕ) → k ≤ d → d < length b.definitions → is_init_role (role_at b.files (entry_at (definitions_part bs) d).owner) ≡ true
    after-split d l m = of-init _ (definition-stored bs w d m).owner (later-owner d l m)

    abbrev mains : List Definition
    mains = definitions_in (nodes_part bs) (definitions_part bs) 0 k

    abbrev inits : List Definition
    inits = definitions_in (nodes_part bs) (definitions_part bs) k (length b.definitions)

    module _ (Good : Bool → Type 0) where
      mains-good : Good false → All (λ (d : Definition). Good (is_init_role (role_at b.files d.file))) mains
      mains-good g = all-made _ (definition_at (nodes_part bs)) (entry_at (definitions_part bs)) 0 (k - 0) (λ i l m. rw (before-split i (omega arith)) g)

      inits-good : Good true → All (λ (d : Definition). Good (is_init_role (role_at b.files d.file))) inits
      inits-good g =
          all-made _ (definition_at (nodes_part bs)) (entry_at (definitions_part bs)) k (length b.definitions - k) (λ i l m. rw (after-split i l (omega (arith, s.within))) g)

    pub main-definitions-are : main_definitions b ≡ definitions_in (nodes_part bs) (definitions_part bs) 0 k
    unfolding main_definitions
    main-definitions-are =
        ap (keep (λ d. not (is_init_role (role_at b.files d.file)))) (definitions-parts k s.within)
        ∙ keep-first _ mains inits (mains-good (λ c. not c ≡ true) refl) (inits-good (λ c. not c ≡ false) refl)

    pub init-definitions-are : init_definitions b ≡ definitions_in (nodes_part bs) (definitions_part bs) k (length b.definitions)
    unfolding init_definitions
    init-definitions-are =
        ap (keep (λ d. is_init_role (role_at b.files d.file))) (definitions-parts k s.within)
        ∙ keep-last _ mains inits (mains-good (λ c. c ≡ false) refl) (inits-good (λ c. c ≡ true) refl)

  -- ---- The trees of definitions and files, at roots
  pub definition-tree-fits : (d : ℕ) → d < length b.definitions → T (forest_fits (length b.names) Root (tree_at (nodes_part bs) (entry_at (definitions_part bs) d).root))
  definition-tree-fits d h =
      let names : ℕ = length b.names in
      let files : ℕ = length b.files in
      let at : ℕ → Entry = entry_at (definitions_part bs) in
      let make : Entry → Definition = definition_at (nodes_part bs) in
      (definition-fits names files (make (at d))
      (made-passes at make b.definitions (definitions-are bs w) d h (definition_fits names files) (admitted-parts bs w).definitions)).2

-- ---- An admitted book, by its contents
module _ {bs : List ℕ} {c : Contents} (a : Admitted bs c) where
  pub files-held : EntryWithin (files_part bs) c.files
  files-held = rw (files-count a) (files-within bs a.laid)

  pub file-table : FileTable (files_part bs) c.files c.nodes
  file-table =
      rw (files-count a, nodes-count a)
      (record {
        held = files-within bs a.laid;
        some = some-files bs a.laid;
        few = few-files bs a.laid;
        main = main-first bs a.laid;
        root = file-root bs a.laid;
      })

  pub file-roots : FileRoots (nodes_part bs) (files_part bs) c.files
  file-roots = rw (files-count a) (record { whole = λ f h n. ((file-stored bs a.laid f h).tree n).whole })

  pub files-in : a.book.files ≡ files_in (nodes_part bs) (files_part bs) c.files
  files-in = files-are bs a.laid ∙ sym (ap (files_in (nodes_part bs) (files_part bs)) (files-count a))

  pub files-some : 1 ≤ c.files
  files-some = rw (files-count a) (some-files bs a.laid)

  pub names-book : (read bs).names ≡ a.book.names
  unfolding read
  names-book = names-read bs a.laid

  pub hashes-book : {hs : List ℕ} → HashesOf hs (read bs).names → HashesAgree hs a.book.names
  hashes-book {hs} o = subst (HashesAgree hs) names-book o.agree
