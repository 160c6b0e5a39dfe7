-- What a table says of definitions: one made of entries of those that the entries say, and any of some. Assumes nothing.
--     defined-binds      a table without repeats has what the definitions say
--     defined-once       the verdict is that of the check
--     defined-length     there are as many definitions as entries
--     binds-some         every table has what some definitions say
use mathlib.Core.Path.{◌≡◌, refl, sym, ap, ◌∙◌}
use mathlib.Core.Bool.{Bool, true, false, cond, not}
use mathlib.Core.List.{List, [], ◌∷◌, map}
use Prim.Native.Nat.{ℕ, zero, suc, ◌+◌, ◌-◌, ◌≤◌, ◌<◌}
use native.Mathlib.Decide.{ℕ_discrete}
use native.Mathlib.Nat.{zero-add}
use native.Mathlib.Omega.{arith}
use borrow.Author.Tests.{eq-eqb, ne_eqb}
use lib.Dec.{eqb}
use lib.ListN.{length, get_or, length-map}
use Rattle.format.specs.Book.{Definition}
use Rattle.format.specs.Encode.{Entry}
use Rattle.format.specs.Layout.{run, entry_at}
use Rattle.format.specs.Whole.{tree_at, definition_at}
use Rattle.format.proofs.Lists.{All, all-between, run-length}
use Rattle.refusals.specs.declared.Refusal as refusal
use Rattle.refusals.specs.Verdict.{Verdict, passes, and_then, unless}
use Rattle.std.specs.Prelude.{Err}
use Rattle.judgement.specs.Environment.{missing, body, find_type}
use Rattle.judgement.specs.Check.{member, once_verdict}
use Rattle.environment.specs.Tables.{Entries, definitions_in, root_in, found_at, Binds, repeated, DefinesAs}
use Rattle.environment.proofs.Links.{found-none, found-some}

-- ---- entries one by one
module _ (ns : List ℕ) where
  found-in : (l : List Entry) → All (λ (e : Entry). e.root ≡ 65535 → ⊥) l → (n : ℕ) → find_type (map (definition_at ns) l) n ≡ found_at ns (root_in l n)
  unfolding find_type root_in
  found-in [] a n = sym (found-none ns 65535 refl)
  found-in (e ∷ l) a n = go (eqb e.name n) (found-in l a.1 n)
    where
      go : (b : Bool) → find_type (map (definition_at ns) l) n ≡ found_at ns (root_in l n) →
          cond b (body (tree_at ns e.root)) (find_type (map (definition_at ns) l) n) ≡ found_at ns (cond b e.root (root_in l n))
      go true i = sym (found-some ns e.root a.0)
      go false i = i

  once-in : (l : List Entry) (seen : List ℕ) → once_verdict seen (map (definition_at ns) l) ≡ repeated seen l
  unfolding once_verdict repeated
  once-in [] seen = refl
  once-in (e ∷ l) seen = go (member e.name seen) (once-in l (e.name ∷ seen))
    where
      go : (b : Bool) → once_verdict (e.name ∷ seen) (map (definition_at ns) l) ≡ repeated (e.name ∷ seen) l →
          and_then (unless (not b) (refusal.Refusal.Twice e.name)) (once_verdict (e.name ∷ seen) (map (definition_at ns) l))
          ≡ cond b (Err (refusal.Refusal.Twice e.name)) (repeated (e.name ∷ seen) l)
      go true i = refl
      go false i = i

-- ---- all entries
module _ (ns : List ℕ) {es : List ℕ} {names count from to : ℕ} (x : Entries es names count from to) where
  pub defined-length : length (definitions_in ns es from to) ≡ to - from
  defined-length = length-map (run (entry_at es) from (to - from)) (definition_at ns) ∙ run-length (entry_at es) from (to - from)

  pub defined-binds : {roots : List ℕ} → DefinesAs es count from to roots passes → count ≤ 4096 → Binds ns roots (definitions_in ns es from to)
  defined-binds {roots} d few n =
      let l = run (entry_at es) from (to - from) in
      found-in ns l
      (all-between (λ (e : Entry). e.root ≡ 65535 → ⊥) (entry_at es) from (to - from)
      (λ i a b e. let f : ⊥ = omega (arith, x.root i a (omega (arith, x.ordered))) in f))
      n
      ∙ ap (found_at ns) (sym (d.root n))

  pub defined-once : {roots : List ℕ} {v : Verdict} → DefinesAs es count from to roots v → v ≡ once_verdict [] (definitions_in ns es from to)
  defined-once d = d.is ∙ sym (once-in ns (run (entry_at es) from (to - from)) [])

-- ---- any table: a definition for each root that it has, the first root being that of name n
module _ (ns : List ℕ) where
  rooted : ℕ → List ℕ → List Definition
  rooted n [] = []
  rooted n (root ∷ roots) = cond (eqb root 65535) (rooted (suc n) roots) (record { name = n; file = 0; body = tree_at ns root } ∷ rooted (suc n) roots)

  rooted-below : (n : ℕ) (roots : List ℕ) (m : ℕ) → m < n → find_type (rooted n roots) m ≡ missing
  unfolding find_type rooted
  rooted-below n [] m h = refl
  rooted-below n (root ∷ roots) m h = go (eqb root 65535) (rooted-below (suc n) roots m (omega arith))
    where
      go : (b : Bool) → find_type (rooted (suc n) roots) m ≡ missing → find_type (cond b (rooted (suc n) roots) (record { name = n; file = 0; body = tree_at ns root } ∷ rooted (suc n) roots)) m ≡ missing
      go true i = i
      go false i = rw (ne_eqb n m (λ e. let f : ⊥ = omega arith in f)) i

  rooted-at : (n : ℕ) (roots : List ℕ) (k : ℕ) → find_type (rooted n roots) (n + k) ≡ found_at ns (get_or roots k 65535)
  unfolding find_type rooted
  rooted-at n [] k = sym (found-none ns 65535 refl)
  rooted-at n (root ∷ roots) zero = go (ℕ_discrete root 65535)
    where
      go : Dec (root ≡ 65535) → find_type (rooted n (root ∷ roots)) (n + 0) ≡ found_at ns root
      go (yes e) = rw (eq-eqb root 65535 e) (rooted-below (suc n) roots (n + 0) (omega arith) ∙ sym (found-none ns root e))
      go (no h) = rw (ne_eqb root 65535 h, eq-eqb n (n + 0) (omega arith)) (sym (found-some ns root h))
  rooted-at n (root ∷ roots) (suc k) = go (eqb root 65535) (ap (find_type (rooted (suc n) roots)) (omega arith) ∙ rooted-at (suc n) roots k)
    where
      go : (b : Bool) → find_type (rooted (suc n) roots) (n + suc k) ≡ found_at ns (get_or roots k 65535) →
          find_type (cond b (rooted (suc n) roots) (record { name = n; file = 0; body = tree_at ns root } ∷ rooted (suc n) roots)) (n + suc k) ≡ found_at ns (get_or roots k 65535)
      go true i = i
      go false i = rw (ne_eqb n (n + suc k) (λ e. let f : ⊥ = omega arith in f)) i

  pub binds-some : (roots : List ℕ) → (ds : List Definition) × Binds ns roots ds
  binds-some roots = (rooted 0 roots, λ n. ap (find_type (rooted 0 roots)) (sym (zero-add n)) ∙ rooted-at 0 roots n)
