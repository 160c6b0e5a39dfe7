-- The tests of entries, one by one as code makes them. Assumes nothing.
use mathlib.Core.Path.{◌≡◌, refl, sym, ap, subst, ◌∙◌}
use mathlib.Core.Bool.{Bool, true, false, not, ◌||◌, beq, false≢true}
use mathlib.Core.List.{List, [], ◌∷◌}
use Prim.Native.Nat.{ℕ, suc, ◌+◌, ◌-◌, ◌≤◌, ◌<◌}
use native.Mathlib.Decide.{ℕ_discrete}
use native.Mathlib.Omega.{arith}
use borrow.Author.Tests.{lt-ltb, eq-eqb, ne_eqb}
use lib.Dec.{T, T_not, eqb, eqb→eq}
use Rattle.std.proofs.Math.Facts.{yes_eqb}
use Rattle.format.specs.Forest.{Forest, end, tree, count, no_trees}
use Rattle.format.specs.Encode.{Row, Entry}
use Rattle.format.specs.Layout.{run, row_at, entry_at, row_trees}
use Rattle.format.specs.Rules.{good_role, good_files, good_entries, no_entries}
use Rattle.format.specs.Whole.{Whole}
use Rattle.format.proofs.Logic.{is-true, is-false, of-true, both₃, says}
use Rattle.format.proofs.Rows.{Opened, opens, none, count-row_trees}
use Rattle.format.proofs.Lists.{run-none, run-cons}
use Rattle.std.specs.Prelude.{None, Some}
use Rattle.book.specs.declared.read.Node.{Node}
use Rattle.book.specs.declared.walks.Siblings.{Siblings}
use Rattle.book.specs.Walks.{Over, NextTree}
use Rattle.book.proofs.Walking.{whole, at, over-next}
use Rattle.book.specs.Steps.{definition_fine, file_fine, DefinitionAs, DefinitionsAs, FileTests, FileAs}

-- a tree is left: its size counts it and all below it
module _ {ns : List ℕ} {next nodes : ℕ} (w : Whole ns next nodes) (h : next < nodes) where
  root-size : suc (count (row_trees ns (next + 1) (next + (row_at ns next).size))) ≡ (row_at ns next).size
  root-size = let o = opens w h in omega (arith, count-row_trees ns (next + 1) (next + (row_at ns next).size), o.here.one)

-- a walk over trees goes over its own rows, up to its own end
own : (s : Siblings) → Over s.rows.now s.until s
own s = record { rows = refl; until = refl }

-- ---- definitions
module _ (names files file next : ℕ) (e : Entry) (es fs : List Entry) where
  pub definition-fine : (f : Forest Row) → T (good_entries names files file next (e ∷ es) fs f) → T (definition_fine names files file next e)
  unfolding good_entries definition_fine
  definition-fine end h = absurd h
  definition-fine (tree r kids after) h = (both₃ (definition_fine names files file next e) _ _ h).0

  -- with a tree: its root is not of kind 26, and the tests go on
  definition-root : (r : Row) (kids after : Forest Row) → T (good_entries names files file next (e ∷ es) fs (tree r kids after)) → r.kind ≡ 26 → ⊥
  unfolding good_entries definition_fine
  definition-root r kids after h k = T_not (eqb r.kind 26) (both₃ (definition_fine names files file next e) _ _ h).1 (rw k tt)

  definition-on : (r : Row) (kids after : Forest Row) → definition_fine names files file next e ≡ true → (r.kind ≡ 26 → ⊥) →
      good_entries names files file next (e ∷ es) fs (tree r kids after) ≡ good_entries names files e.owner (next + suc (count kids)) es fs after
  unfolding good_entries definition_fine
  definition-on r kids after t k = rw (t, ne_eqb _ _ k)

module _ (names files file : ℕ) (e : Entry) (s : Siblings) where
  pub definition-none : s.at ≡ s.until → DefinitionAs names files s.rows.now s.until file s.at e None
  unfolding good_entries
  definition-none h es fs x = rw (none s.rows.now s.at s.until (omega arith)) at x

  module _ {n : ℕ} {root : Node} {t : Siblings} (x : NextTree s n root t) where
    pub definition-init : root.kind ≡ 26 → DefinitionAs names files s.rows.now s.until file s.at e None
    definition-init k es fs y =
        definition-root names files file s.at e es fs _ _ _ (rw (opens s.whole x.left).opened at y) (sym (ap (λ (q : Row). q.kind) x.row) ∙ k)

    pub definition-next : definition_fine names files file s.at e ≡ true → (root.kind ≡ 26 → ⊥) →
        DefinitionAs names files s.rows.now s.until file s.at e (Some t.at)
    definition-next f k = (
      whole (over-next (own s) x),
      λ es fs.
          let o : Opened s.rows.now s.at s.until = opens s.whole x.left in
          rw (o.opened, x.at)
          (definition-on names files file s.at e es fs (row_at s.rows.now s.at) _ _ f (λ q. k (ap (λ (q : Row). q.kind) x.row ∙ q))
          ∙ ap (λ (m : ℕ). good_entries names files e.owner (s.at + m) es fs (row_trees s.rows.now (s.at + (row_at s.rows.now s.at).size) s.until)) (root-size s.whole x.left)),
    )

-- ---- files
-- a role that is not 3
not-three : (n : ℕ) → T (not (eqb n 3)) → n ≡ 3 → ⊥
not-three n h e = T_not (eqb n 3) h (rw e tt)

or-not : (a b : Bool) → (T a → T b → ⊥) → T (not a || not b)
or-not true true f = f tt tt
or-not true false f = tt
or-not false b f = tt

not-both : (a b : Bool) → T (not a || not b) → T a → T b → ⊥
not-both true true h x y = h
not-both true false h x y = y
not-both false b h x y = x

-- the test of an entry is that of `FileTests`
module _ {names : ℕ} {main last : Bool} {e : Entry} {b : Bool} (is : b ≡ file_fine names main last e) where
  pub fine-tests : b ≡ true → FileTests names main last e
  unfolding file_fine
  fine-tests h =
      let t = of-true (file_fine names main last e) (sym is ∙ h) in
      let p = simp says at t in
      record { name = p.0.0.0; role = p.0.0.1; reserved = p.0.1; rootless = λ x y. not-both _ _ p.1 (yes_eqb x) (yes_eqb y) }

  pub fine-fails : b ≡ false → FileTests names main last e → ⊥
  unfolding file_fine
  fine-fails h t =
      let no' = λ (x : T (eqb e.root 65535)) (y : T (eqb e.owner 3)). t.rootless (eqb→eq _ _ x) (eqb→eq _ _ y) in
      subst T (sym is ∙ h) (simp says (((t.name, t.role), t.reserved), or-not (eqb e.root 65535) (eqb e.owner 3) no'))

module _ (names next : ℕ) (main : Bool) (e : Entry) (es : List Entry) where
  pub file-tests : (f : Forest Row) → T (good_files names main next (e ∷ es) f) → FileTests names main (no_entries es) e
  unfolding good_files
  file-tests end h =
      let p = simp says at h in
      record { name = p.0.0.0.0.0; role = p.0.0.0.0.1; reserved = p.0.0.0.1; rootless = λ x. not-three e.owner p.0.1 }
  file-tests (tree r kids after) h =
      let p = simp says at h in
      record {
        name = p.0.0.0;
        role = p.0.0.1;
        reserved = p.0.1;
        rootless = λ x. let q = simp (eq-eqb e.root 65535 x, says) at h in not-three e.owner q.1.0;
      }

  -- a file without a tree
  pub file-rootless : (f : Forest Row) → FileTests names main (no_entries es) e → e.root ≡ 65535 →
      good_files names main next (e ∷ es) f ≡ good_files names false next es f
  unfolding good_files
  file-rootless end t x =
      rw (lt-ltb _ _ t.name, is-true (good_role main (no_entries es) e.owner) t.role, eq-eqb _ _ t.reserved, x, ne_eqb _ _ (t.rootless x))
  file-rootless (tree r kids after) t x =
      rw (lt-ltb _ _ t.name, is-true (good_role main (no_entries es) e.owner) t.role, eq-eqb _ _ t.reserved, x, ne_eqb _ _ (t.rootless x))

  -- one with a tree: its root, and both or neither of kind 26 and role 3
  pub record Rooted (r : Row) : Type 0 where
    pub root : e.root ≡ next
    pub init : beq (eqb r.kind 26) (eqb e.owner 3) ≡ true

  file-rooted : (r : Row) (kids after : Forest Row) → T (good_files names main next (e ∷ es) (tree r kids after)) → (e.root ≡ 65535 → ⊥) → Rooted r
  unfolding good_files
  file-rooted r kids after h x =
      let p = simp (ne_eqb e.root 65535 x, says) at h in
      record { root = p.1.0.0; init = is-true _ p.1.0.1 }

  file-on : (r : Row) (kids after : Forest Row) → FileTests names main (no_entries es) e → (e.root ≡ 65535 → ⊥) → Rooted r →
      good_files names main next (e ∷ es) (tree r kids after) ≡ good_files names false (next + suc (count kids)) es after
  unfolding good_files
  file-on r kids after t x k =
      rw (lt-ltb _ _ t.name, is-true (good_role main (no_entries es) e.owner) t.role, eq-eqb _ _ t.reserved, ne_eqb _ _ x, eq-eqb _ _ k.root, k.init)

module _ (names : ℕ) (main last : Bool) (e : Entry) (s : Siblings) (x : e.root ≡ 65535 → ⊥) where
  pub file-none : s.at ≡ s.until → FileAs names s.rows.now s.until main last s.at e None
  unfolding good_files
  file-none h es l y = let p = simp says at (rw (none s.rows.now s.at s.until (omega arith)) at y) in x p.0.0.1

  module _ {n : ℕ} {root : Node} {t : Siblings} (z : NextTree s n root t) where
    file-rooted-here : (es : List Entry) → T (good_files names main s.at (e ∷ es) (row_trees s.rows.now s.at s.until)) → Rooted names s.at main e es (row_at s.rows.now s.at)
    file-rooted-here es y = file-rooted names s.at main e es _ _ _ (rw (opens s.whole z.left).opened at y) x

    pub file-elsewhere : (e.root ≡ n → ⊥) → FileAs names s.rows.now s.until main last s.at e None
    file-elsewhere f es l y = f ((file-rooted-here es y).root ∙ sym z.place)

    pub file-init : beq (eqb root.kind 26) (eqb e.owner 3) ≡ false → FileAs names s.rows.now s.until main last s.at e None
    file-init f es l y = false≢true (sym f ∙ ap (λ (q : Row). beq (eqb q.kind 26) (eqb e.owner 3)) z.row ∙ (file-rooted-here es y).init)

    pub file-next : FileTests names main last e → e.root ≡ n → beq (eqb root.kind 26) (eqb e.owner 3) ≡ true →
        FileAs names s.rows.now s.until main last s.at e (Some t.at)
    file-next f r i = (
      whole (over-next (own s) z),
      λ es l.
          let o : Opened s.rows.now s.at s.until = opens s.whole z.left in
          let k : Rooted names s.at main e es (row_at s.rows.now s.at) =
          record { root = r ∙ z.place; init = ap (λ (q : Row). beq (eqb q.kind 26) (eqb e.owner 3)) (sym z.row) ∙ i } in
          rw (o.opened, z.at)
          (file-on names s.at main e es (row_at s.rows.now s.at) _ _ (rw l f) x k
          ∙ ap (λ (m : ℕ). good_files names false (s.at + m) es (row_trees s.rows.now (s.at + (row_at s.rows.now s.at).size) s.until)) (root-size s.whole z.left)),
    )

-- ---- the loops over entries: what is left is judged as all of it
-- an entry is left: it, and those after it
pub run-left : {A : Type 0} (f : ℕ → A) (d count : ℕ) → d < count → run f d (count - d) ≡ f d ∷ run f (d + 1) (count - (d + 1))
run-left f d count h = let e : count - d ≡ suc (count - (d + 1)) = omega arith in rw e (run-cons f d (count - (d + 1)))

pub run-over : {A : Type 0} (f : ℕ → A) (d count : ℕ) → count ≤ d → run f d (count - d) ≡ []
run-over f d count h = let e : count - d ≡ 0 = omega arith in rw e (run-none f d)

pub record DefinitionsLeft (names files count nodes : ℕ) (ds ns : List ℕ) (d file next : ℕ) : Type 0 where
  pub passed : d ≤ count
  pub left : Whole ns next nodes
  pub same : (fs : List Entry) → good_entries names files file next (run (entry_at ds) d (count - d)) fs (row_trees ns next nodes)
      ≡ good_entries names files 0 0 (run (entry_at ds) 0 count) fs (row_trees ns 0 nodes)

module _ {names files count nodes : ℕ} {ds ns : List ℕ} {d file next : ℕ} (l : DefinitionsLeft names files count nodes ds ns d file next) where
  pub definitions-end : count ≤ d → DefinitionsAs names files ds count ns nodes (Some next)
  unfolding good_entries
  definitions-end h = (l.left, λ fs. sym (l.same fs) ∙ rw (run-over (entry_at ds) d count h))

  module _ (h : d < count) (e : Entry) (is : e ≡ entry_at ds d) where
    pub definitions-stop : DefinitionAs names files ns nodes file next e None → DefinitionsAs names files ds count ns nodes None
    definitions-stop no' fs x = no' (run (entry_at ds) (d + 1) (count - (d + 1))) fs (rw is (rw (run-left (entry_at ds) d count h) at (subst T (sym (l.same fs)) x)))

    pub definitions-on : (after : ℕ) → DefinitionAs names files ns nodes file next e (Some after) → DefinitionsLeft names files count nodes ds ns (d + 1) e.owner after
    definitions-on after y =
        record {
          passed = omega arith;
          left = y.0;
          same = λ fs.
              sym (y.1 (run (entry_at ds) (d + 1) (count - (d + 1))) fs)
              ∙ ap (λ (es : List Entry). good_entries names files file next es fs (row_trees ns next nodes)) (ap (λ (q : Entry). q ∷ run (entry_at ds) (d + 1) (count - (d + 1))) is ∙ sym (run-left (entry_at ds) d count h))
              ∙ l.same fs;
        }

pub record FilesLeft (names count nodes from : ℕ) (es ns : List ℕ) (f next : ℕ) : Type 0 where
  pub passed : f ≤ count
  pub left : Whole ns next nodes
  pub same : good_files names (eqb f 0) next (run (entry_at es) f (count - f)) (row_trees ns next nodes)
      ≡ good_files names true from (run (entry_at es) 0 count) (row_trees ns from nodes)

-- the entry at f is the last one if it stands before the end
last-left : (at : ℕ → Entry) (f count : ℕ) → f < count → no_entries (run at (f + 1) (count - (f + 1))) ≡ eqb (f + 1) count
unfolding no_entries
last-left at f count h = go (ℕ_discrete (f + 1) count)
  where
    go : Dec (f + 1 ≡ count) → no_entries (run at (f + 1) (count - (f + 1))) ≡ eqb (f + 1) count
    go (yes e) = rw (run-over at (f + 1) count (omega arith), eq-eqb _ _ e)
    go (no n) = rw (run-left at (f + 1) count (omega arith), ne_eqb _ _ n)

module _ {names count nodes from : ℕ} {es ns : List ℕ} {f next : ℕ} (l : FilesLeft names count nodes from es ns f next) where
  pub files-end : count ≤ f → eqb next nodes ≡ good_files names true from (run (entry_at es) 0 count) (row_trees ns from nodes)
  unfolding good_files no_trees
  files-end h = go (ℕ_discrete next nodes) ∙ l.same
    where
      go : Dec (next ≡ nodes) → eqb next nodes ≡ good_files names (eqb f 0) next (run (entry_at es) f (count - f)) (row_trees ns next nodes)
      go (yes e) = rw (run-over (entry_at es) f count h, none ns next nodes (omega arith), eq-eqb _ _ e)
      go (no n) = rw (run-over (entry_at es) f count h, (opens l.left (omega (arith, l.left.ordered))).opened, ne_eqb _ _ n)

  module _ (h : f < count) (e : Entry) (is : e ≡ entry_at es f) where
    here : good_files names (eqb f 0) next (e ∷ run (entry_at es) (f + 1) (count - (f + 1))) (row_trees ns next nodes)
        ≡ good_files names true from (run (entry_at es) 0 count) (row_trees ns from nodes)
    here =
        ap (λ (q : List Entry). good_files names (eqb f 0) next q (row_trees ns next nodes)) (ap (λ (q : Entry). q ∷ run (entry_at es) (f + 1) (count - (f + 1))) is ∙ sym (run-left (entry_at es) f count h))
        ∙ l.same

    pub files-stop : FileAs names ns nodes (eqb f 0) (eqb (f + 1) count) next e None →
        false ≡ good_files names true from (run (entry_at es) 0 count) (row_trees ns from nodes)
    files-stop no' = sym (is-false _ (λ x. no' (run (entry_at es) (f + 1) (count - (f + 1))) (last-left (entry_at es) f count h) (subst T (sym here) x)))

    pub files-on : (after : ℕ) → FileAs names ns nodes (eqb f 0) (eqb (f + 1) count) next e (Some after) → FilesLeft names count nodes from es ns (f + 1) after
    files-on after y =
        record {
          passed = omega arith;
          left = y.0;
          same = rw (ne_eqb (f + 1) 0 (omega arith)) (sym (y.1 (run (entry_at es) (f + 1) (count - (f + 1))) (last-left (entry_at es) f count h)) ∙ here);
        }
