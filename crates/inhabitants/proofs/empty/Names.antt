-- The flags of the names that are empty, by which nodes fill. Assumes nothing.
--     FlagsLeft, flags-start, flags-on      the loop
--     flags-end                             its flags are those of the empty names
use mathlib.Core.Path.{◌≡◌, refl, sym, ap, subst, ◌∙◌}
use mathlib.Core.Logic.{◌↔◌}
use mathlib.Core.Bool.{cond}
use mathlib.Core.List.{List}
use Prim.Native.Nat.{ℕ, zero, suc, ◌+◌, ◌≤◌, ◌<◌}
use native.Mathlib.Decide.{ℕ_discrete}
use native.Mathlib.Omega.{arith}
use borrow.Author.Tests.{eq-eqb, ne_eqb}
use lib.Dec.{T, eqb}
use lib.ListN.{length, get_or, set, replicate, length-set, length-replicate}
use lib.Seq.{get_or-set_same, get_or-set_other}
use Rattle.format.specs.Forest.{end}
use Rattle.format.specs.Book.{Definition}
use Rattle.format.specs.Node.{VarT}
use Rattle.format.specs.Whole.{tree_at}
use Rattle.format.proofs.References.{everywhere}
use Rattle.format.proofs.Stored.{tree-opens}
use Rattle.judgement.specs.Environment.{find_type, body}
use Rattle.judgement.proofs.Lookup.{found-defined, find-missing}
use Rattle.listing.specs.Empty.{Fills, Empty}
use Rattle.listing.proofs.Filling.{name-fills}
use Rattle.listing.specs.Recursive.{sorted}
use Rattle.listing.specs.Empty.{unfilled}
use Rattle.listing.proofs.Empty.{unfilled-exact}
use Rattle.judgement.specs.Check.{member}
use Rattle.judgement.proofs.Lookup.{member-says}
use Rattle.format.proofs.Logic.{same-test}
use Rattle.book.specs.Tables.{flagged, is_set}
use Rattle.environment.specs.Tables.{Binds}
use Rattle.environment.specs.declared.scope.Scope.{Scope}
use Rattle.environment.proofs.Links.{found-none, found-some}
use Rattle.inhabitants.specs.declared.waiting.Waiting.{Waiting}
use Rattle.inhabitants.specs.Empty.{EmptiedAs}
use Rattle.inhabitants.specs.Filling.{NodeFills, FillingOf}

-- What the flag of a name is: 1 if its definition waits, else 0.
unfoldable pub flag_of : List ℕ → ℕ → ℕ
flag_of left root = cond (eqb root 65535) 0 (cond (eqb (get_or left root 0) 0) 0 1)

-- The flags of the names before n are set.
pub record FlagsLeft (s : Scope) (f : Waiting) (flags : List ℕ) (n : ℕ) : Type 0 where
  pub long : length flags ≡ 1024
  pub done : (m : ℕ) → m < n → get_or flags m 0 ≡ flag_of f.left (get_or s.roots.now m 65535)
  pub blank : (m : ℕ) → n ≤ m → get_or flags m 0 ≡ 0

pub flags-start : (s : Scope) (f : Waiting) → FlagsLeft s f (replicate 1024 0) 0
flags-start s f = record { long = length-replicate {A = ℕ} 1024 0; done = λ m b. absurd (omega arith); blank = λ m b. everywhere 1024 m 0 }

module _ {s : Scope} {f : Waiting} {flags : List ℕ} {n : ℕ} (h : FlagsLeft s f flags n) where
  -- a name without definition keeps its flag
  pub flags-none : get_or s.roots.now n 65535 ≡ 65535 → FlagsLeft s f flags (n + 1)
  unfolding flag_of
  flags-none e = record { long = h.long; done = λ m b. go m b (ℕ_discrete m n); blank = λ m b. h.blank m (omega arith) }
    where
      go : (m : ℕ) → m < n + 1 → Dec (m ≡ n) → get_or flags m 0 ≡ flag_of f.left (get_or s.roots.now m 65535)
      go m b (yes p) = h.blank m (omega arith) ∙ rw (p, e) refl
      go m b (no d) = h.done m (omega arith)

  pub flags-some : n < 1024 → {root v : ℕ} → root ≡ get_or s.roots.now n 65535 → (root ≡ 65535 → ⊥) → v ≡ cond (eqb (get_or f.left root 0) 0) 0 1 → FlagsLeft s f (set flags n v) (n + 1)
  unfolding flag_of
  flags-some small {root} {v} e some is =
      record { long = length-set flags n v ∙ h.long; done = λ m b. go m b (ℕ_discrete m n); blank = λ m b. get_or-set_other flags n m v 0 (λ p. omega (arith, p)) ∙ h.blank m (omega arith) }
    where
      go : (m : ℕ) → m < n + 1 → Dec (m ≡ n) → get_or (set flags n v) m 0 ≡ flag_of f.left (get_or s.roots.now m 65535)
      go m b (yes p) = rw (p, ← e, ne_eqb root 65535 some, ← is) (get_or-set_same flags n v 0 (omega (arith, small, h.long)))
      go m b (no d) = get_or-set_other flags n m v 0 d ∙ h.done m (omega arith)

-- flags that tell a set give its names, ascending
flagged-sorted : (flags set : List ℕ) (n k : ℕ) → ((m : ℕ) → m < n + k → is_set flags m ≡ member m set) → flagged flags n k ≡ sorted set n k
unfolding flagged sorted
flagged-sorted flags set n zero h = refl
flagged-sorted flags set n (suc k) h = rw (h n (omega arith), flagged-sorted flags set (suc n) k (λ m b. h m (omega arith))) refl

module _ {s : Scope} {f : Waiting} (fills : FillingOf s f) {flags : List ℕ} {n : ℕ} (h : FlagsLeft s f flags n) (all : s.names ≤ n) where
  module _ (ds : List Definition) (b : Binds s.rows.now s.roots.now ds) (m : ℕ) where
    root : ℕ
    root = get_or s.roots.now m 65535

    tells : m < n → T (is_set flags m) ↔ Empty ds m
    unfolding root flag_of
    tells l = go (ℕ_discrete root 65535) (ℕ_discrete (get_or f.left root 0) 0)
      where
        flag : get_or flags m 0 ≡ flag_of f.left root
        flag = h.done m l

        set-by : {v : ℕ} → flag_of f.left root ≡ v → get_or flags m 0 ≡ v
        set-by e = flag ∙ e

        unset : flag_of f.left root ≡ 0 → T (is_set flags m) → ⊥
        unset e t = subst T (ap (λ (v : ℕ). eqb v 1) (set-by e)) t

        found : (root ≡ 65535 → ⊥) → find_type ds m ≡ body (tree_at s.rows.now root)
        found d = b m ∙ found-some s.rows.now root d

        node : (root ≡ 65535 → ⊥) → Fills ds (VarT m) end ↔ NodeFills s.rows.now ds root
        node d = name-fills ds end (found d ∙ ap body (tree-opens (s.whole.tree root (s.bound.node m d)).whole))

        go : Dec (root ≡ 65535) → Dec (get_or f.left root 0 ≡ 0) → T (is_set flags m) ↔ Empty ds m
        go (yes e) d = (λ t. absurd (unset (rw (eq-eqb root 65535 e) refl) t), λ x. absurd (find-missing ds m (b m ∙ found-none s.rows.now root e) x.defined))
        go (no e) (yes z) = (
          λ t. absurd (unset (rw (ne_eqb root 65535 e, eq-eqb (get_or f.left root 0) 0 z) refl) t),
          λ x. absurd (x.unfilled ((node e).1 ((fills root (s.bound.node m e) ds b).0 z))),
        )
        go (no e) (no z) =
            let set : flag_of f.left root ≡ 1 = rw (ne_eqb root 65535 e, ne_eqb (get_or f.left root 0) 0 z) refl in (
              λ t. record { defined = found-defined ds m (tree_at s.rows.now root) (found e); unfilled = λ x. z ((fills root (s.bound.node m e) ds b).1 ((node e).0 x)) },
              λ x. subst T (sym (ap (λ (v : ℕ). eqb v 1) (set-by set))) tt,
            )

  pub flags-end : EmptiedAs s.rows.now s.roots.now s.names flags
  flags-end = record {
    long = h.long;
    is = λ ds b.
        flagged-sorted flags (unfilled ds) 0 s.names (λ m l.
        let t = tells ds b m (omega arith) in
        let u = unfilled-exact ds m in
        let i = member-says m (unfilled ds) in
        same-test (is_set flags m) (member m (unfilled ds)) (λ x. i.1 (u.1 (t.0 x)), λ x. t.1 (u.0 (i.0 x))));
  }
