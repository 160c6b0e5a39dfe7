-- How many names an alias chain crosses: `chain` and `alias_length` against `Across`, the way from type to type, and `NeverEnds`. Assumes nothing;
-- where it matters that each name is defined once, the lemma says so.
--     crossed-other, crossed-on, ..     the names crossed, link by link
--     ended                             a chain that is no circle ends
--     crossed-first, crossed-missing    the first is the name that the type is; one without definition is not crossed
--     crossed-defined, crossed-most     all have a definition, and there are at most as many as definitions
--     crosses-ends, crosses-unbound,    what is crossed in each case of the end: the way there, or, where it never ends, as many names as there
--     crosses-circle                    are definitions
--     leads-across, comes-across        a type leads to another, or comes to a name, exactly if there is a way there
--     across-chain, across-lost         where each name is defined once: any such way is the chain
--     across-only                       so there is only one
--     crosses-never                     and a chain that never ends crosses as many names as there are definitions
use mathlib.Core.Path.{◌≡◌, refl, sym, ap, subst, ◌∙◌}
use mathlib.Core.Logic.{◌↔◌, ⊎_elim}
use mathlib.Core.List.Memᴰ
use mathlib.Core.List.{List, [], ◌∷◌, map, Memᴰ}
use Prim.Native.Nat.{ℕ, zero, suc, ◌≤◌}
use native.Mathlib.Omega.{arith}
use lib.ListN.{length}
use Rattle.format.specs.Forest.{Forest}
use Rattle.format.specs.Node.{Node}
use Rattle.format.specs.Book.{Definition}
use Rattle.format.specs.Distinct.{Distinct}
use Rattle.judgement.specs.Environment.{body, find_type, named, other, head}
use Rattle.judgement.specs.Aliases.{End, unbound, circle, ends, Chain, link, chain_from, chain, alias_end, alias_length}
use Rattle.judgement.specs.WellFormed.{defined_name, Defined, Leads, arrived}
use Rattle.judgement.specs.WellFormed as formed
use Rattle.judgement.specs.Rows.{NeverEnds}
use Rattle.judgement.specs.Meaning.{ComesTo, Across, here, onward}
use Rattle.judgement.specs.Meaning as meaning
use Rattle.judgement.proofs.Lookup.{find-body, find-defined, find-missing, missing-find, found-defined, find-named}
use Rattle.judgement.proofs.Chains.{Run, stops, loses, crosses, chain-on, run-chain, run-short, never-circle, Next, no_name, no_type, some_type, next, outcome}

module _ (ds : List Definition) where
  -- ---- Link by link

  -- what a chain that ends crosses
  run-crossed : {t : Forest Node} {ns : List ℕ} {e : End} → Run ds t ns e → chain ds t ≡ record { crossed = ns; last = e }
  unfolding chain
  run-crossed r = run-chain ds r (length ds) (run-short ds r)

  pub crossed-other : (t : Forest Node) → head t ≡ other → (chain ds t).crossed ≡ []
  crossed-other t h = ap (λ (c : Chain). c.crossed) (run-crossed (stops h))

  pub crossed-missing : (t : Forest Node) (n : ℕ) → head t ≡ named n → (Defined ds n → ⊥) → (chain ds t).crossed ≡ []
  crossed-missing t n h m = ap (λ (c : Chain). c.crossed) (run-crossed (loses (record { is-name = h; no-type = missing-find ds n m })))

  -- a chain that does not run for ever ends, and crosses these
  pub ended : (t : Forest Node) → (alias_end ds t ≡ circle → ⊥) → Run ds t (chain ds t).crossed (alias_end ds t)
  unfolding alias_end chain
  ended t h = ⊎_elim (λ r. r) (λ p. absurd (h p.0)) (outcome ds (length ds) t).either

  pub crossed-on : (t u : Forest Node) (n : ℕ) → head t ≡ named n → find_type ds n ≡ body u → (alias_end ds u ≡ circle → ⊥) →
      (chain ds t).crossed ≡ n ∷ (chain ds u).crossed
  crossed-on t u n h f e = ap (λ (c : Chain). c.crossed) (run-crossed (crosses {u = u} (record { is-name = h; is-type = f }) (ended u e)))

  -- types that are one name
  pub crossed-same : (t u : Forest Node) (n : ℕ) → head t ≡ named n → head u ≡ named n → (chain ds t).crossed ≡ (chain ds u).crossed
  unfolding chain chain_from link
  crossed-same t u n h g = go (length ds)
    where
      go : (k : ℕ) → (chain_from k ds t).crossed ≡ (chain_from k ds u).crossed
      go zero = rw (h, g)
      go (suc k) = rw (h, g)

  pub crossed-first : (t : Forest Node) (n : ℕ) → head t ≡ named n → Defined ds n → (ms : List ℕ) × ((chain ds t).crossed ≡ n ∷ ms)
  unfolding chain
  crossed-first t n h d = let f = find-defined ds n d in go (length ds) refl f.0 f.1
    where
      go : (k : ℕ) → length ds ≡ k → (u : Forest Node) → find_type ds n ≡ body u → (ms : List ℕ) × ((chain_from k ds t).crossed ≡ n ∷ ms)
      go zero e u f = absurd (none ds e d)
        where
          none : (l : List Definition) → length l ≡ 0 → Defined l n → ⊥
          none [] e m = Memᴰ.not-nil m
          none (x ∷ l) e m = omega arith
      go (suc k) e u f = ((chain_from k ds u).crossed, ap (λ (c : Chain). c.crossed) (chain-on ds {u = u} (record { is-name = h; is-type = f }) k))

  -- ---- All of them
  none-crossed : (l : List ℕ) (m : ℕ) → length l ≤ 0 → Memᴰ m l → ⊥
  none-crossed [] m h i = Memᴰ.not-nil i
  none-crossed (n ∷ l) m h i = omega arith

  defined-within : (k : ℕ) (t : Forest Node) (m : ℕ) → Memᴰ m (chain_from k ds t).crossed → Defined ds m
  defined-within zero t m i = absurd (none-crossed (chain_from zero ds t).crossed m (outcome ds zero t).short i)
  defined-within (suc k) t m i = go (next ds t) (λ u. defined-within k u m)
    where
      done : {e : End} → Run ds t [] e → Defined ds m
      done r = absurd (Memᴰ.not-nil (subst (Memᴰ m) (ap (λ (c : Chain). c.crossed) (run-chain ds r (suc k) (omega arith))) i))

      go : Next ds t → ((u : Forest Node) → Memᴰ m (chain_from k ds u).crossed → Defined ds m) → Defined ds m
      go (no_name h) below = done (stops h)
      go (no_type b) below = done (loses b)
      go (some_type {u = u} {n = n} s) below =
          ⊎_elim (λ (q : m ≡ n). found-defined ds m u (ap (find_type ds) q ∙ s.is-type)) (below u)
          (Memᴰ.cases_cons (subst (Memᴰ m) (ap (λ (c : Chain). c.crossed) (chain-on ds s k)) i))

  pub crossed-defined : (t : Forest Node) (m : ℕ) → Memᴰ m (chain ds t).crossed → Defined ds m
  unfolding chain
  crossed-defined t m i = defined-within (length ds) t m i

  pub crossed-most : (t : Forest Node) → alias_length ds t ≤ length ds
  unfolding alias_length chain
  crossed-most t = (outcome ds (length ds) t).short

  -- ---- In each case of the end
  -- where a way stops
  abbrev Stop : Forest Node → End → Type 0
  Stop u (unbound n) = (head u ≡ named n) × (Defined ds n → ⊥)
  Stop u circle = ⊥
  Stop u (ends v) = (u ≡ v) × (head v ≡ other)

  run-across : {t : Forest Node} {ns : List ℕ} {e : End} → Run ds t ns e → (u : Forest Node) × Across ds ns t u × Stop u e
  run-across {t} (stops h) = (t, here, (refl, h))
  run-across {t} (loses {n = n} b) = (t, here, (b.is-name, find-missing ds n b.no-type))
  run-across (crosses {u = v} {n = n} {ns = ns} s r) =
      let p = run-across r in
      let x = find-body ds n v s.is-type in
      (p.0, onward {u = p.0} {ns = ns} s.is-name x.listed x.of-name (rw x.of-body p.1), p.2)

  pub crosses-ends : (t u : Forest Node) → alias_end ds t ≡ ends u → Across ds (chain ds t).crossed t u × (head u ≡ other)
  crosses-ends t u e =
      let p = run-across (ended t (λ c. let z : ◌≡◌ {A = ℕ} 0 1 = cc in omega arith)) in
      let q = subst (Stop p.0) e p.2 in
      (subst (Across ds (chain ds t).crossed t) q.0 p.1, q.1)

  pub crosses-unbound : (t : Forest Node) (n : ℕ) → alias_end ds t ≡ unbound n →
      (u : Forest Node) × Across ds (chain ds t).crossed t u × (head u ≡ named n) × (Defined ds n → ⊥)
  crosses-unbound t n e =
      let p = run-across (ended t (λ c. let z : ◌≡◌ {A = ℕ} 0 1 = cc in omega arith)) in
      let q = subst (Stop p.0) e p.2 in
      (p.0, p.1, q.0, q.1)

  no-circle-ends : {t : Forest Node} {ns : List ℕ} {e : End} → Run ds t ns e → e ≡ circle → ⊥
  no-circle-ends r q = subst (Stop (run-across r).0) q (run-across r).2

  full : (k : ℕ) (t : Forest Node) → (chain_from k ds t).last ≡ circle → length (chain_from k ds t).crossed ≡ k
  full zero t c = let s = (outcome ds zero t).short in omega arith
  full (suc k) t c = go (next ds t) (full k)
    where
      done : {e : End} → Run ds t [] e → length (chain_from (suc k) ds t).crossed ≡ suc k
      done r = absurd (no-circle-ends r (sym (ap (λ (x : Chain). x.last) (run-chain ds r (suc k) (omega arith))) ∙ c))

      go : Next ds t → ((u : Forest Node) → (chain_from k ds u).last ≡ circle → length (chain_from k ds u).crossed ≡ k) → length (chain_from (suc k) ds t).crossed ≡ suc k
      go (no_name h) below = done (stops h)
      go (no_type b) below = done (loses b)
      go (some_type {u = u} s) below =
          let o = chain-on ds s k in
          ap (λ (x : Chain). length x.crossed) o ∙ ap suc (below u (sym (ap (λ (x : Chain). x.last) o) ∙ c))

  pub crosses-circle : (t : Forest Node) → alias_end ds t ≡ circle → alias_length ds t ≡ length ds
  unfolding alias_end alias_length chain
  crosses-circle t c = full (length ds) t c

  -- ---- The way
  across-leads : {ns : List ℕ} {t u : Forest Node} → Across ds ns t u → head u ≡ other → Leads ds t u
  across-leads here h = arrived h
  across-leads {u = u} (onward e i q a) h = formed.onward {u = u} e i q (across-leads a h)

  leads-way : {t u : Forest Node} → Leads ds t u → (ns : List ℕ) × Across ds ns t u × (head u ≡ other)
  leads-way (arrived h) = ([], here, h)
  leads-way (formed.onward {n = n} e i q l) = let p = leads-way l in (n ∷ p.0, onward e i q p.1, p.2)

  pub leads-across : (t u : Forest Node) → Leads ds t u ↔ ((ns : List ℕ) × Across ds ns t u × (head u ≡ other))
  leads-across t u = (leads-way, λ p. across-leads p.1 p.2)

  across-comes : {ns : List ℕ} {t u : Forest Node} {n : ℕ} → Across ds ns t u → head u ≡ named n → ComesTo ds t n
  across-comes here h = meaning.here h
  across-comes {n = n} (onward e i q a) h = meaning.onward {n = n} e i q (across-comes a h)

  comes-way : {t : Forest Node} {n : ℕ} → ComesTo ds t n → (ns : List ℕ) × (u : Forest Node) × Across ds ns t u × (head u ≡ named n)
  comes-way {t} (meaning.here h) = ([], t, here, h)
  comes-way (meaning.onward {m = m} e i q c) = let p = comes-way c in (m ∷ p.0, p.1, onward e i q p.2, p.3)

  pub comes-across : (t : Forest Node) (n : ℕ) → ComesTo ds t n ↔ ((ns : List ℕ) × (u : Forest Node) × Across ds ns t u × (head u ≡ named n))
  comes-across t n = (comes-way, λ p. across-comes p.2 p.3)

  module _ (once : Distinct (map defined_name ds)) where
    pub crosses-never : (t : Forest Node) → NeverEnds ds t → alias_length ds t ≡ length ds
    crosses-never t h = crosses-circle t (never-circle ds once t h)

    across-run : {ns : List ℕ} {t u : Forest Node} {e : End} → Across ds ns t u → Run ds u [] e → Run ds t ns e
    across-run here r = r
    across-run (onward {n = n} {d = d} h i q a) r = crosses {u = d.body} (record { is-name = h; is-type = find-named ds once d n i q }) (across-run a r)

    pub across-chain : {ns : List ℕ} {t u : Forest Node} → Across ds ns t u → head u ≡ other → chain ds t ≡ record { crossed = ns; last = ends u }
    across-chain a h = run-crossed (across-run a (stops h))

    pub across-lost : {ns : List ℕ} {t u : Forest Node} {n : ℕ} → Across ds ns t u → head u ≡ named n → (Defined ds n → ⊥) →
        chain ds t ≡ record { crossed = ns; last = unbound n }
    across-lost {n = n} a h m = run-crossed (across-run a (loses (record { is-name = h; no-type = missing-find ds n m })))

    pub across-only : {ns ms : List ℕ} {t u v : Forest Node} → Across ds ns t u → head u ≡ other → Across ds ms t v → head v ≡ other → (ns ≡ ms) × (u ≡ v)
    across-only {ns} {ms} {t} {u} {v} a h b g =
        let e = sym (across-chain a h) ∙ across-chain b g in
        let l : ends u ≡ ends v = ap (λ (c : Chain). c.last) e in
        (ap (λ (c : Chain). c.crossed) e, cc)
