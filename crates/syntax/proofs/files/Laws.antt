-- The files that are left of a book's, and the service imports among them. Assumes nothing.
--     files_from, from-cons, ..     the files from one on
--     is-import, no-import, ..     a service import, by its role
--     ImportsLeft                  the loop of `list_imports`
use mathlib.Core.Path.{◌≡◌, refl, sym, ap, subst, ◌∙◌}
use mathlib.Core.Bool.{Bool, true, false, cond, true≢false, false≢true}
use mathlib.Core.List.{List, [], ◌∷◌, ◌++◌, map, map-append, append_assoc, append-nil}
use Prim.Native.Nat.{ℕ, zero, suc, ◌+◌, ◌-◌, ◌≤◌, ◌<◌}
use native.Mathlib.Nat.{zero-add, sub-zero}
use native.Mathlib.Decide.{ℕ_discrete}
use native.Mathlib.Omega.{arith}
use borrow.Author.Tests.{ne_eqb, eq-eqb, eqb-true, not-false}
use lib.Dec.{eqb}
use lib.ListN.{length, length-append, get_or, take}
use Rattle.std.specs.Prelude.{Option, Some, None, is_some, not, All, Result, Ok, Err}
use Rattle.std.specs.List.{prefix_len}
use Rattle.std.proofs.lemmas.Iterator.{YieldsList}
use Rattle.std.proofs.lemmas.List.Elements.{All-nil, All-push}
use Rattle.std.proofs.lemmas.List.Folds.{length-prefix_len}
use Rattle.std.proofs.lemmas.List.Sums.{prefix_len-le-length, prefix_len_passes, prefix_len_stops}
use Rattle.format.specs.Forest.{no_trees}
use Rattle.format.specs.Book.{File}
use Rattle.format.specs.Encode.{Entry}
use Rattle.format.specs.Layout.{run, entry_at, nodes_part, files_part, role_of}
use Rattle.format.specs.Whole.{WholeAt, actor_at, file_at}
use Rattle.format.proofs.Lists.{run-none, run-cons, run-length, run-at}
use Rattle.format.proofs.Stored.{tree-opens, actor-none, actor-some}
use Rattle.refusals.specs.declared.Refusal as refusal
use Rattle.refusals.specs.declared.Refusal.{Refusal}
use Rattle.refusals.specs.Verdict.{Verdict, verdict_of}
use Rattle.book.specs.declared.kinds.Contents.{Contents}
use Rattle.book.specs.declared.walks.Entries.{Entries}
use Rattle.book.specs.Reading.{Admitted, as_entry, stored_root}
use Rattle.book.specs.Walks.{OverEntries, WalksEntries}
use Rattle.book.proofs.Walking.{entries-yield}
use Rattle.judgement.specs.Actor.{is_service_import, service_imports}
use Rattle.judgement.specs.Check.{imports_verdict}
use Rattle.syntax.specs.Files.{files_in, FileRoots, FileTable, init_at, SplitAs, listed_files, ImportsAs, FilesAs}
use Rattle.syntax.proofs.Book.{file-roots, files-in}

-- ---- files from file i on
abbrev pub files_from : List ℕ → List ℕ → ℕ → ℕ → List File
files_from ns fs count i = map (file_at ns) (run (entry_at fs) i (count - i))

module _ (ns fs : List ℕ) (count : ℕ) where
  pub from-first : files_from ns fs count 0 ≡ files_in ns fs count
  from-first = rw (sub-zero count)

  pub from-none : (i : ℕ) → count ≤ i → files_from ns fs count i ≡ []
  from-none i h = let z : count - i ≡ 0 = omega arith in rw (z, run-none (entry_at fs) i)

  pub from-cons : (i : ℕ) → i < count → (e : Entry) → e ≡ entry_at fs i → files_from ns fs count i ≡ file_at ns e ∷ files_from ns fs count (i + 1)
  from-cons i h e is =
      let z : count - i ≡ suc (count - (i + 1)) = omega arith in
      ap (map (file_at ns)) (ap (run (entry_at fs) i) z ∙ run-cons (entry_at fs) i (count - (i + 1)) ∙ ap (λ (x : Entry). x ∷ run (entry_at fs) (i + 1) (count - (i + 1))) (sym is))

-- ---- a service import by its role's number
import-role : (k : ℕ) → is_service_import (role_of k) ≡ eqb k 2
unfolding is_service_import role_of
import-role zero = refl
import-role (suc zero) = refl
import-role (suc (suc zero)) = refl
import-role (suc (suc (suc k))) = sym (ne_eqb (suc (suc (suc k))) 2 (λ e. let f : ⊥ = omega arith in f))

module _ (ns : List ℕ) (e : Entry) (fs : List File) where
  pub is-import : e.owner ≡ 2 → service_imports (file_at ns e ∷ fs) ≡ file_at ns e ∷ service_imports fs
  unfolding service_imports
  is-import h = rw (import-role e.owner, h)

  pub no-import : (e.owner ≡ 2 → ⊥) → service_imports (file_at ns e ∷ fs) ≡ service_imports fs
  unfolding service_imports
  no-import h = rw (import-role e.owner, ne_eqb e.owner 2 h)

-- ---- a tree or none, by its root
pub tree-some : (ns : List ℕ) (n : ℕ) → WholeAt ns n → (n ≡ 65535 → ⊥) → no_trees (actor_at ns n) ≡ false
unfolding no_trees
tree-some ns n w h = rw (actor-some ns n h, tree-opens w)

pub tree-none : (ns : List ℕ) (n : ℕ) → n ≡ 65535 → no_trees (actor_at ns n) ≡ true
unfolding no_trees
tree-none ns n h = rw (actor-none ns n h)

-- whether there is one
pub root-none : {n : ℕ} → is_some (stored_root n) ≡ false → n ≡ 65535
unfolding stored_root
root-none {n} h = go (ℕ_discrete n 65535)
  where
    go : Dec (n ≡ 65535) → n ≡ 65535
    go (yes e) = e
    go (no k) = let z : is_some (cond (eqb n 65535) None (Some n)) ≡ true = rw (ne_eqb n 65535 k) in absurd (true≢false (sym z ∙ h))

pub root-some : {n : ℕ} → is_some (stored_root n) ≡ true → n ≡ 65535 → ⊥
unfolding stored_root
root-some h e = false≢true (rw e at h)

-- ---- 12 of a file
module _ (ns : List ℕ) (e : Entry) (fs : List File) where
  abbrev verdict : Verdict
  verdict = imports_verdict (service_imports (file_at ns e ∷ fs))

  lacks : e.owner ≡ 2 → e.root ≡ 65535 → Err (refusal.Refusal.ImportWithoutActor e.name) ≡ verdict
  unfolding imports_verdict
  lacks o r = rw (is-import ns e fs o, tree-none ns e.root r)

  has : e.owner ≡ 2 → WholeAt ns e.root → (e.root ≡ 65535 → ⊥) → imports_verdict (service_imports fs) ≡ verdict
  unfolding imports_verdict
  has o w r = rw (is-import ns e fs o, tree-some ns e.root w r)

  other : (e.owner ≡ 2 → ⊥) → imports_verdict (service_imports fs) ≡ verdict
  other o = rw (no-import ns e fs o)

-- ---- the first file is main's, and no import
no-main : {fs : List ℕ} {count nodes : ℕ} → FileTable fs count nodes → (f : ℕ) → (entry_at fs f).owner ≡ 2 → 1 ≤ f
no-main x zero o = absurd (omega (arith, x.main, o))
no-main x (suc f) o = omega arith

-- ---- the loop of `list_imports`: the files that are left give the verdict, and the imports that are not listed yet
pub record ImportsLeft (fs : List ℕ) (count : ℕ) (numbers : List ℕ) (f : ℕ) : Type 0 where
  pub few : length numbers ≤ f - 1
  pub passed : f ≤ count
  pub inside : All (λ g. g < count) numbers
  pub rooted : All (λ g. (entry_at fs g).root ≡ 65535 → ⊥) numbers
  pub same : (ns : List ℕ) → FileRoots ns fs count → imports_verdict (service_imports (files_from ns fs count f)) ≡ imports_verdict (service_imports (files_in ns fs count))
  pub listed : (ns : List ℕ) → listed_files ns fs numbers ++ service_imports (files_from ns fs count f) ≡ service_imports (files_in ns fs count)

module _ {fs : List ℕ} {count nodes : ℕ} (x : FileTable fs count nodes) where
  pub imports-start : ImportsLeft fs count [] 0
  imports-start =
      record {
        few = omega arith;
        passed = omega arith;
        inside = All-nil (λ g. g < count);
        rooted = All-nil (λ g. (entry_at fs g).root ≡ 65535 → ⊥);
        same = λ ns w. ap (λ (l : List File). imports_verdict (service_imports l)) (from-first ns fs count);
        listed = λ ns. ap service_imports (from-first ns fs count);
      }

  module _ {numbers : List ℕ} {f : ℕ} (l : ImportsLeft fs count numbers f) where
    none-left : count ≤ f → (ns : List ℕ) → service_imports (files_from ns fs count f) ≡ []
    unfolding service_imports
    none-left h ns = ap service_imports (from-none ns fs count f h)

    pub imports-end : count ≤ f → ImportsAs fs count (Ok numbers)
    unfolding imports_verdict
    imports-end h =
        record {
          verdict = λ ns w. ap imports_verdict (sym (none-left h ns)) ∙ l.same ns w;
          listed = record {
            few = omega (arith, l.few, l.passed, x.few);
            inside = l.inside;
            rooted = l.rooted;
            are = λ ns. sym (sym (append-nil (listed_files ns fs numbers)) ∙ ap (λ (r : List File). listed_files ns fs numbers ++ r) (sym (none-left h ns)) ∙ l.listed ns);
          };
        }

    pub imports-room : f < count → length numbers < 16
    imports-room h = omega (arith, l.few, x.few)

    module _ (h : f < count) (e : Entry) (is : e ≡ entry_at fs f) where
      opens : (ns : List ℕ) → files_from ns fs count f ≡ file_at ns e ∷ files_from ns fs count (f + 1)
      opens ns = from-cons ns fs count f h e is

      pub imports-stop : e.owner ≡ 2 → e.root ≡ 65535 → ImportsAs fs count (Err (refusal.Refusal.ImportWithoutActor e.name))
      imports-stop o r =
          record {
            verdict = λ ns w.
                lacks ns e (files_from ns fs count (f + 1)) o r ∙ ap (λ (q : List File). imports_verdict (service_imports q)) (sym (opens ns)) ∙ l.same ns w;
            listed = tt;
          }

      later : e.owner ≡ 2 → 1 ≤ f
      later o = no-main x f (ap (λ (y : Entry). y.owner) (sym is) ∙ o)

      -- an import that has an actor is listed
      pub imports-on : e.owner ≡ 2 → (e.root ≡ 65535 → ⊥) → ImportsLeft fs count (numbers ++ f ∷ []) (f + 1)
      imports-on o r =
          record {
            few = omega (arith, l.few, later o, length-append numbers (f ∷ []));
            passed = omega arith;
            inside = All-push (λ g. g < count) numbers f l.inside h;
            rooted = All-push (λ g. (entry_at fs g).root ≡ 65535 → ⊥) numbers f l.rooted (λ z. r (ap (λ (y : Entry). y.root) is ∙ z));
            same = λ ns w.
                has ns e (files_from ns fs count (f + 1)) o (rw is (w.whole f h (λ z. r (ap (λ (y : Entry). y.root) is ∙ z)))) r
                ∙ ap (λ (q : List File). imports_verdict (service_imports q)) (sym (opens ns)) ∙ l.same ns w;
            listed = λ ns.
                let rest = service_imports (files_from ns fs count (f + 1)) in
                ap (λ (q : List File). q ++ rest) (map-append (λ (g : ℕ). file_at ns (entry_at fs g)) numbers (f ∷ []))
                ∙ append_assoc (listed_files ns fs numbers) (file_at ns (entry_at fs f) ∷ []) rest
                ∙ ap (λ (q : List File). listed_files ns fs numbers ++ q)
                (ap (λ (y : Entry). file_at ns y ∷ rest) (sym is) ∙ sym (is-import ns e (files_from ns fs count (f + 1)) o) ∙ ap service_imports (sym (opens ns)))
                ∙ l.listed ns;
          }

      -- any other file is passed over
      pub imports-over : (e.owner ≡ 2 → ⊥) → ImportsLeft fs count numbers (f + 1)
      imports-over o =
          record {
            few = omega (arith, l.few);
            passed = omega arith;
            inside = l.inside;
            rooted = l.rooted;
            same = λ ns w.
                other ns e (files_from ns fs count (f + 1)) o ∙ ap (λ (q : List File). imports_verdict (service_imports q)) (sym (opens ns)) ∙ l.same ns w;
            listed = λ ns.
                ap (λ (q : List File). listed_files ns fs numbers ++ q)
                (sym (no-import ns e (files_from ns fs count (f + 1)) o) ∙ ap service_imports (sym (opens ns)))
                ∙ l.listed ns;
          }

-- ---- How many entries come before the first that fails a test
pub entries-yielded : {es : List ℕ} {count : ℕ} {s t : Entries} → OverEntries es count s → s.at ≡ 0 → t ≡ s → YieldsList WalksEntries as_entry t (run (entry_at es) 0 count)
entries-yielded {es} {count} {s} o z e =
    let from : YieldsList WalksEntries as_entry s (run (entry_at es) 0 (count - 0)) =
    subst (λ (n : ℕ). YieldsList WalksEntries as_entry s (run (entry_at es) n (count - n))) z (entries-yield o) in
    rw e (rw (sub-zero count) at from)

pub record Before (es : List ℕ) (count : ℕ) (test : Entry → Bool) (k : ℕ) : Type 0 where
  pub within : k ≤ count
  pub passed : (d : ℕ) → d < k → test (entry_at es d) ≡ true
  pub next : k < count → test (entry_at es k) ≡ false

pub counted : (es : List ℕ) (count : ℕ) (test : Entry → Bool) {k : ℕ} → k ≡ length (take (prefix_len test (run (entry_at es) 0 count)) (run (entry_at es) 0 count)) → Before es count test k
counted es count test {k} h =
    let all = run (entry_at es) 0 count in
    let none = entry_at es 0 in
    let is : k ≡ prefix_len test all = h ∙ length-prefix_len test all in
    let long : length all ≡ count = run-length (entry_at es) 0 count in
    let at : (d : ℕ) → d < count → get_or all d none ≡ entry_at es d = λ d l. run-at (entry_at es) 0 count d none l ∙ ap (entry_at es) (zero-add d) in
    let within : prefix_len test all ≤ count = omega (arith, long, prefix_len-le-length test all) in
    rw is
    (record {
      within = within;
      passed = λ d l. ap test (sym (at d (omega arith))) ∙ prefix_len_passes test all d none l;
      next = λ l. ap test (sym (at _ l)) ∙ prefix_len_stops test all none (omega (arith, long));
    })

-- the first of file `init`
unfoldable pub of_other : ℕ → Entry → Bool
of_other init e = not (eqb e.owner init)

pub split-counted : {es : List ℕ} {count init k : ℕ} → Before es count (of_other init) k → SplitAs es count init k
unfolding of_other
split-counted {es} {init = init} {k = k} b =
    record {
      within = b.within;
      before = λ d l e. false≢true (sym (ap not (eq-eqb _ init e)) ∙ b.passed d l);
      next = λ l. eqb-true (entry_at es k).owner init (not-false _ (b.next l));
    }

-- ---- All of it
module _ {bs : List ℕ} {c : Contents} where
  says : {r : Result (List ℕ) Refusal} → ImportsAs (files_part bs) c.files r → (a : Admitted bs c) → verdict_of r ≡ imports_verdict (service_imports a.book.files)
  says x a = x.verdict (nodes_part bs) (file-roots a) ∙ ap (λ (l : List File). imports_verdict (service_imports l)) (sym (files-in a))

  pub files-refused : {r : Refusal} → ImportsAs (files_part bs) c.files (Err r) → FilesAs bs c (Err r)
  files-refused x = record { verdict = says x; files = tt }

  pub files-as : {root : Option ℕ} {i : List ℕ} {init : ℕ} → root ≡ stored_root (entry_at (files_part bs) 0).root → ImportsAs (files_part bs) c.files (Ok i) →
      init ≡ init_at (files_part bs) c.files → FilesAs bs c (Ok (record { root = root; imports = i; init = init }))
  files-as r x e =
      record { verdict = says x; files = record { passed = λ a. sym (says x a); root = r; init = e; listed = x.listed } }
