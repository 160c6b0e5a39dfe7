-- Two tables of roots: how they are compared, and the loop that makes them one. Assumes nothing.
--     first-none, roots-same, ..           two roots
--     SameAt, FoundAs, merged-as           the lowest name on which two tables differ
--     MergedLeft, merged-end               the loop that makes the table of both
--     merged-roots, merged-binds           that table is one of roots, and has what the merged definitions say
use mathlib.Core.Path.{◌≡◌, sym, ap, ap₂, ◌∙◌}
use mathlib.Core.Bool.{Bool, true, false}
use mathlib.Core.List.{List}
use Prim.Native.Nat.{ℕ, zero, suc, ◌+◌, ◌≤◌, ◌<◌}
use native.Mathlib.Decide.{ℕ_discrete, dec_lt}
use native.Mathlib.Omega.{arith}
use borrow.Author.Tests.{ne_eqb}
use lib.ListN.{length, get_or, get_or-eq_default}
use Rattle.format.specs.declared.Place.TheVariants.{Root}
use Rattle.format.specs.Book.{Definition}
use Rattle.format.specs.Encode.{Row}
use Rattle.format.specs.Layout.{row_at, siblings}
use Rattle.format.specs.Whole.{Whole, WholeAt, tree_at}
use Rattle.format.proofs.Stored.{tree-whole}
use Rattle.refusals.specs.declared.Refusal as refusal
use Rattle.refusals.specs.declared.Refusal.{Refusal}
use Rattle.refusals.specs.Verdict.{Verdict, passes, and_then, unless}
use Rattle.std.specs.Prelude.{Option, Some, None, Err, MatchOption}
use Rattle.judgement.specs.Environment.{find_type, merge_definitions, same_forest}
use Rattle.judgement.specs.Check.{each_name, same_verdict, merge_verdict}
use Rattle.judgement.proofs.Lookup.{merge-first, merge-second}
use Rattle.judgement.proofs.Each.{passed-names}
use Rattle.environment.specs.Tables.{Roots, found_at, Binds}
use Rattle.book.specs.Tables.{HashesAgree}
use Rattle.environment.specs.Merging.{ComparedRoots, same_roots, either_root, MergedAs}
use Rattle.environment.proofs.Links.{found-none, found-some}
use Rattle.environment.proofs.merge.Lockstep.{SameAs}

-- ---- two roots
module _ (names : List (List ℕ)) (ns : List ℕ) (a b : ℕ) where
  pub first-none : a ≡ 65535 → true ≡ same_roots names ns a b
  unfolding same_roots
  first-none e = rw e

  pub second-none : (a ≡ 65535 → ⊥) → b ≡ 65535 → true ≡ same_roots names ns a b
  unfolding same_roots
  second-none h e = rw (ne_eqb a 65535 h, e)

  both-some : (a ≡ 65535 → ⊥) → (b ≡ 65535 → ⊥) → same_forest names Root (tree_at ns a) (tree_at ns b) ≡ same_roots names ns a b
  unfolding same_roots
  both-some h k = rw (ne_eqb a 65535 h, ne_eqb b 65535 k)

  -- the verdict on a name
  roots-verdict : (n : ℕ) → same_verdict names n (found_at ns a) (found_at ns b) ≡ unless (same_roots names ns a b) (refusal.Refusal.Differs n)
  unfolding same_verdict
  roots-verdict n = go (ℕ_discrete a 65535) (ℕ_discrete b 65535)
    where
      go : Dec (a ≡ 65535) → Dec (b ≡ 65535) → same_verdict names n (found_at ns a) (found_at ns b) ≡ unless (same_roots names ns a b) (refusal.Refusal.Differs n)
      go (yes e) d = rw (found-none ns a e, ← first-none e)
      go (no h) (yes e) = rw (found-some ns a h, found-none ns b e, ← second-none h e)
      go (no h) (no k) = rw (found-some ns a h, found-some ns b k, ← both-some h k)

-- as `root_of` gives one
abbrev pub RootOf : ℕ → ℕ → Type 0
RootOf r i = (i ≡ r) × (i ≡ 65535 → ⊥)

module _ {ns : List ℕ} {a b i j : ℕ} (x : ComparedRoots ns a b) (here : RootOf a i) (there : RootOf b j) where
  first-tree : WholeAt ns i
  first-tree = rw here.0 (x.nodes.tree a (x.first (λ e. here.1 (here.0 ∙ e)))).whole

  second-tree : WholeAt ns j
  second-tree = rw there.0 (x.nodes.tree b (x.second (λ e. there.1 (there.0 ∙ e)))).whole

  module _ (r s : Row) (is : r ≡ row_at ns i) (at : s ≡ row_at ns j) where
    pub first-whole : Whole ns i (i + r.size)
    first-whole = rw is (tree-whole first-tree)

    pub second-whole : Whole ns j (j + s.size)
    second-whole = rw at (tree-whole second-tree)

    pub roots-same : (hashes : List ℕ) {v : Bool} → SameAs ns hashes Root i (i + r.size) j (j + s.size) v → (names : List (List ℕ)) → HashesAgree hashes names → v ≡ same_roots names ns a b
    roots-same hashes m names agree =
        m names agree
        ∙ ap₂ (λ (p q : Row). same_forest names Root (siblings ns i (i + p.size)) (siblings ns j (j + q.size))) is at
        ∙ rw (← here.0, ← there.0) (both-some names ns i j here.1 there.1)

-- ---- the names from 0 on: the lowest on which the tables differ
-- What the comparison answers.
abbrev pub MergeAs : List ℕ → List ℕ → List ℕ → List ℕ → ℕ → Verdict → Type 0
MergeAs ns hashes init main names v =
    (ls : List (List ℕ)) (ids ds : List Definition) → HashesAgree hashes ls → length ls ≡ names → Binds ns init ids → Binds ns main ds → v ≡ merge_verdict ls ids ds

abbrev pub differs : Option ℕ → Verdict
differs None = passes
differs (Some n) = Err (refusal.Refusal.Differs n)

-- of k numbers from n on, of which w is the first that is refused
first-refused : (f : ℕ → Verdict) (n k w : ℕ) (e : Refusal) → n ≤ w → w < n + k → f w ≡ Err e → ((i : ℕ) → n ≤ i → i < w → f i ≡ passes) → each_name f n k ≡ Err e
unfolding each_name
first-refused f n zero w e l u q h = let z : ⊥ = omega arith in absurd z
first-refused f n (suc k) w e l u q h = go (ℕ_discrete n w) (λ m. first-refused f (suc n) k w e m (omega arith) q (λ i a b. h i (omega arith) b))
  where
    go : Dec (n ≡ w) → (suc n ≤ w → each_name f (suc n) k ≡ Err e) → and_then (f n) (each_name f (suc n) k) ≡ Err e
    go (yes d) r = rw (d, q)
    go (no d) r = rw (h n (omega arith) (omega arith)) (r (omega arith))

module _ (ns hashes init main : List ℕ) where
  -- What it finds of name n.
  abbrev pub SameAt : Bool → ℕ → Type 0
  SameAt v n = (ls : List (List ℕ)) → HashesAgree hashes ls → v ≡ same_roots ls ns (get_or init n 65535) (get_or main n 65535)

  module _ (ls : List (List ℕ)) (ids ds : List Definition) (a : HashesAgree hashes ls) (i : Binds ns init ids) (m : Binds ns main ds) where
    verdict-at : (n : ℕ) {v : Bool} → SameAt v n → same_verdict ls n (find_type ids n) (find_type ds n) ≡ unless v (refusal.Refusal.Differs n)
    verdict-at n s =
        ap₂ (same_verdict ls n) (i n) (m n)
        ∙ roots-verdict ls ns _ _ n
        ∙ ap (λ (t : Bool). unless t (refusal.Refusal.Differs n)) (sym (s ls a))

  -- The first of so many on which they differ, or none.
  abbrev pub FoundAs : ℕ → Option ℕ → Type 0
  FoundAs names r = MatchOption r ((n : ℕ) → 0 ≤ n → n < names → SameAt true n) (λ n. (0 ≤ n) × (n < names) × SameAt false n × ((k : ℕ) → 0 ≤ k → k < n → SameAt true k))

  pub merged-as : (names : ℕ) (r : Option ℕ) → FoundAs names r → MergeAs ns hashes init main names (differs r)
  unfolding merge_verdict
  merged-as names None h ls ids ds a e i m = rw e (sym (passed-names _ 0 names (λ n l u. verdict-at ls ids ds a i m n (h n l (omega arith)))))
  merged-as names (Some n) h ls ids ds a e i m =
      rw e (sym (first-refused _ 0 names n _ (omega arith) (omega (arith, h.1)) (verdict-at ls ids ds a i m n h.2) (λ k l u. verdict-at ls ids ds a i m k (h.3 k l u))))

-- ---- the loop that makes the table of both
pub record MergedLeft (init main roots : List ℕ) (n : ℕ) : Type 0 where
  pub passed : n ≤ 1024
  pub long : length roots ≡ 1024
  pub done : (m : ℕ) → m < n → get_or roots m 65535 ≡ either_root (get_or init m 65535) (get_or main m 65535)

module _ {init main roots : List ℕ} {n : ℕ} (long : length init ≡ 1024) (long' : length main ≡ 1024) (l : MergedLeft init main roots n) where
  pub merged-end : 1024 ≤ n → MergedAs init main roots
  unfolding either_root
  merged-end h = record { long = l.long; root = λ m. go m (dec_lt m n) }
    where
      go : (m : ℕ) → Dec (m < n) → get_or roots m 65535 ≡ either_root (get_or init m 65535) (get_or main m 65535)
      go m (yes i) = l.done m i
      go m (no i) =
          rw (
            get_or-eq_default roots 65535 {n = m} (omega (arith, l.long)),
            get_or-eq_default init 65535 {n = m} (omega arith),
            get_or-eq_default main 65535 {n = m} (omega arith),
          )

-- ---- what that table is
first-kept : (a b : ℕ) → (a ≡ 65535 → ⊥) → either_root a b ≡ a
unfolding either_root
first-kept a b h = rw (ne_eqb a 65535 h)

second-taken : (a b : ℕ) → a ≡ 65535 → either_root a b ≡ b
unfolding either_root
second-taken a b e = rw e

module _ {init main roots : List ℕ} (g : MergedAs init main roots) where
  pub merged-roots : {count : ℕ} → Roots init count → Roots main count → Roots roots count
  merged-roots {count} y z = record { long = g.long; node = λ n h. go n h (ℕ_discrete (get_or init n 65535) 65535) }
    where
      go : (n : ℕ) → (get_or roots n 65535 ≡ 65535 → ⊥) → Dec (get_or init n 65535 ≡ 65535) → get_or roots n 65535 < count
      go n h (yes e) = let q = g.root n ∙ second-taken _ _ e in rw q (z.node n (λ f. h (q ∙ f)))
      go n h (no e) = rw (g.root n ∙ first-kept _ _ e) (y.node n e)

  pub merged-binds : (ns : List ℕ) (ids ds : List Definition) → Binds ns init ids → Binds ns main ds → Binds ns roots (merge_definitions ids ds)
  merged-binds ns ids ds i m n = go (ℕ_discrete (get_or init n 65535) 65535)
    where
      go : Dec (get_or init n 65535 ≡ 65535) → find_type (merge_definitions ids ds) n ≡ found_at ns (get_or roots n 65535)
      go (yes e) = merge-second ids ds n (i n ∙ found-none ns _ e) ∙ m n ∙ ap (found_at ns) (sym (g.root n ∙ second-taken _ _ e))
      go (no e) =
          let b = found-some ns (get_or init n 65535) e in
          merge-first ids ds n (tree_at ns (get_or init n 65535)) (i n ∙ b) ∙ sym b ∙ ap (found_at ns) (sym (g.root n ∙ first-kept _ _ e))
