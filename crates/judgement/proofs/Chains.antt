-- Where the alias chain of a type ends: `alias_end` against `Leads`, `NeverEnds` and `MeetsUnbound`. Assumes nothing; where it matters that
-- each name is defined once, the lemma says so.
--     Run, run-chain               a chain that ends, with the names that it crosses: as much fuel finds it
--     run-distinct, run-short      it crosses no name twice, so at most as many as there are definitions
--     outcome                      what fuel gives, and how many names are crossed
--     Means, alias-end             what each end says of the type, for every type
--     leads-end, meets-end, ..     where each name is defined once: the end from what is said of the type
--     circle-says, no-circle       a chain that never ends; where those of all definitions end there is none
--     root-says, func-says, ..     a test at the end
--     bound-stands                 where all names are bound, a chain that runs in no circle ends at a type
use mathlib.Core.Path.{◌≡◌, refl, sym, ap, subst, ◌∙◌}
use mathlib.Core.Logic.{◌↔◌, ◌⊎◌, inl, inr, ⊎_elim, ⊎_map}
use mathlib.Core.Bool.{Bool, true, false}
use mathlib.Core.List.Memᴰ
use mathlib.Core.List.{List, [], ◌∷◌, map, Memᴰ}
use Prim.Native.Nat.{ℕ, zero, suc, ◌+◌, ◌≤◌, ◌<◌}
use native.Mathlib.Omega.{arith}
use lib.Dec.{T}
use lib.ListN.{length, length-map}
use Rattle.format.specs.Forest.{Forest, end, tree, breadth}
use Rattle.format.specs.Node.{Kind, Node}
use Rattle.format.specs.Book.{Definition}
use Rattle.judgement.specs.Environment.{missing, body, find_type, Head, named, other, head, is_func_kind, is_serv_kind}
use Rattle.judgement.specs.Aliases.{End, unbound, circle, ends, Chain, met, link, cross, chain_from, chain, alias_end, root_passes, as_func, as_service}
use Rattle.judgement.specs.Check.{is_circle}
use Rattle.format.specs.Distinct.{Distinct, none, more}
use Rattle.judgement.specs.WellFormed.{defined_name, Defined, Leads, arrived, onward, RootIs, StandsFor, Bound}
use Rattle.judgement.specs.Rows.{GoesOn, NeverEnds}
use Rattle.judgement.specs.Meaning.{ComesTo, MeetsUnbound}
use Rattle.judgement.specs.Meaning as meaning
use Rattle.format.proofs.Distinct.{pigeonhole}
use Rattle.judgement.proofs.Lookup.{found-cases, find-body, found-defined, find-missing, missing-find, find-named, listed-defined}
use Rattle.judgement.proofs.Heads.{head-refers, other-named}

-- What an end of the chain says of the type it started from.
abbrev pub Means : List Definition → Forest Node → End → Type 0
Means ds t (unbound n) = MeetsUnbound ds n t
Means ds t circle = NeverEnds ds t
Means ds t (ends u) = Leads ds t u

circle-is : (e : End) → T (is_circle e) → e ≡ circle
unfolding is_circle
circle-is (unbound n) c = absurd c
circle-is circle c = refl
circle-is (ends t) c = absurd c

module _ (ds : List Definition) where
  -- ---- A chain that ends

  -- A type is a name, and that name's type is u.
  pub record Step (t : Forest Node) (n : ℕ) (u : Forest Node) : Type 0 where
    pub is-name : head t ≡ named n
    pub is-type : find_type ds n ≡ body u

  -- A type is a name without definition.
  pub record Lost (t : Forest Node) (n : ℕ) : Type 0 where
    pub is-name : head t ≡ named n
    pub no-type : find_type ds n ≡ missing

  -- The chain from a type ends, and these are the names that it crosses.
  pub data Run : Forest Node → List ℕ → End → Type 0 where
    stops : {t : Forest Node} → head t ≡ other → Run t [] (ends t)
    loses : {t : Forest Node} {n : ℕ} → Lost t n → Run t [] (unbound n)
    crosses : {t u : Forest Node} {n : ℕ} {ns : List ℕ} {e : End} → Step t n u → Run u ns e → Run t (n ∷ ns) e

  -- what fuel gives: none left at a name, and some
  chain-out : {t u : Forest Node} {n : ℕ} → Step t n u → chain_from zero ds t ≡ record { crossed = []; last = circle }
  unfolding chain_from link met
  chain-out s = rw (s.is-name, s.is-type)

  pub chain-on : {t u : Forest Node} {n : ℕ} → Step t n u → (k : ℕ) → chain_from (suc k) ds t ≡ cross n (chain_from k ds u)
  unfolding chain_from link met
  chain-on s k = rw (s.is-name, s.is-type)

  -- A chain that ends is found with fuel for the names that it crosses.
  pub run-chain : {t : Forest Node} {ns : List ℕ} {e : End} → Run t ns e → (k : ℕ) → length ns ≤ k → chain_from k ds t ≡ record { crossed = ns; last = e }
  unfolding chain_from link met
  run-chain (stops h) zero l = rw h
  run-chain (stops h) (suc k) l = rw h
  run-chain (loses b) zero l = rw (b.is-name, b.no-type)
  run-chain (loses b) (suc k) l = rw (b.is-name, b.no-type)
  run-chain (crosses s r) zero l = absurd (omega arith)
  run-chain (crosses {n = n} s r) (suc k) l = chain-on s k ∙ ap (cross n) (run-chain r k (omega arith))

  pub run-unique : {t : Forest Node} {ns ms : List ℕ} {e f : End} → Run t ns e → Run t ms f → ns ≡ ms
  run-unique {ns = ns} {ms = ms} r s =
      let k : ℕ = length ns + length ms in
      ap (λ (c : Chain). c.crossed) (sym (run-chain r k (omega arith)) ∙ run-chain s k (omega arith))

  -- from a crossed name's type the chain is shorter
  run-inside : {t u : Forest Node} {ns : List ℕ} {e : End} {n : ℕ} → Run t ns e → Memᴰ n ns → find_type ds n ≡ body u →
      (ms : List ℕ) × Run u ms e × (length ms < length ns)
  run-inside (stops h) m g = absurd (Memᴰ.not-nil m)
  run-inside (loses b) m g = absurd (Memᴰ.not-nil m)
  run-inside {u = u} {e = e} {n = n} (crosses {u = v} {n = c} {ns = ns} s r) m g = go (Memᴰ.cases_cons m) (λ (k : Memᴰ n ns). run-inside r k g)
    where
      go : (n ≡ c) ⊎ Memᴰ n ns → (Memᴰ n ns → (ms : List ℕ) × Run u ms e × (length ms < length ns)) →
          (ms : List ℕ) × Run u ms e × (length ms < suc (length ns))
      go (inl q) below = let p : v ≡ u = cc in (ns, subst (λ w. Run w ns e) p r, omega arith)
      go (inr k) below = let p = below k in (p.0, p.1, omega arith)

  pub run-distinct : {t : Forest Node} {ns : List ℕ} {e : End} → Run t ns e → Distinct ns
  run-distinct (stops h) = none
  run-distinct (loses b) = none
  run-distinct (crosses s r) = more (λ m. let p = run-inside r m s.is-type in omega (arith, ap length (run-unique r p.1))) (run-distinct r)

  pub run-defined : {t : Forest Node} {ns : List ℕ} {e : End} → Run t ns e → (n : ℕ) → Memᴰ n ns → Defined ds n
  run-defined (stops h) n m = absurd (Memᴰ.not-nil m)
  run-defined (loses b) n m = absurd (Memᴰ.not-nil m)
  run-defined (crosses {u = u} {n = c} s r) n m =
      ⊎_elim (λ (q : n ≡ c). found-defined ds n u (ap (find_type ds) q ∙ s.is-type)) (λ k. run-defined r n k) (Memᴰ.cases_cons m)

  pub run-short : {t : Forest Node} {ns : List ℕ} {e : End} → Run t ns e → length ns ≤ length ds
  run-short r = rw (length-map ds defined_name) at (pigeonhole (run-distinct r) (map defined_name ds) (run-defined r))

  -- So the fuel of `alias_end` is enough.
  pub run-end : {t : Forest Node} {ns : List ℕ} {e : End} → Run t ns e → alias_end ds t ≡ e
  unfolding alias_end chain
  run-end r = ap (λ (c : Chain). c.last) (run-chain r (length ds) (run-short r))

  run-no-circle : {A : Type 0} {t : Forest Node} {ns : List ℕ} {e : End} → Run t ns e → e ≡ circle → A
  run-no-circle (stops h) q = let z : ◌≡◌ {A = ℕ} 0 1 = cc in absurd (omega arith)
  run-no-circle (loses b) q = let z : ◌≡◌ {A = ℕ} 0 1 = cc in absurd (omega arith)
  run-no-circle (crosses s r) q = run-no-circle r q

  -- ---- What an end says of the type
  goes-on : {t u : Forest Node} {n : ℕ} → Step t n u → (k : ℕ) → GoesOn ds k u → GoesOn ds (suc k) t
  goes-on {u = u} {n = n} s k g = let x = find-body ds n u s.is-type in (n, x.definition, s.is-name, x.listed, x.of-name, rw x.of-body g)

  goes-less : (t : Forest Node) (k : ℕ) → GoesOn ds (suc k) t → GoesOn ds k t
  goes-less t zero g = tt
  goes-less t (suc k) g = (g.0, g.1, g.2, g.3, g.4, goes-less g.1.body k g.5)

  means-on : {t u : Forest Node} {n : ℕ} → Step t n u → (e : End) → Means ds u e → Means ds t e
  means-on {u = u} {n = n} s (unbound m) b =
      let x = find-body ds n u s.is-type in (meaning.onward {n = m} s.is-name x.listed x.of-name (rw x.of-body b.0), b.1)
  means-on {t} s circle g = λ k. goes-less t k (goes-on s k (g k))
  means-on {u = u} {n = n} s (ends v) l = let x = find-body ds n u s.is-type in onward {u = v} s.is-name x.listed x.of-name (rw x.of-body l)

  pub run-means : {t : Forest Node} {ns : List ℕ} {e : End} → Run t ns e → Means ds t e
  run-means (stops h) = arrived h
  run-means (loses {n = n} b) = (meaning.here b.is-name, find-missing ds n b.no-type)
  run-means (crosses {e = e} s r) = means-on s e (run-means r)

  -- ---- Fuel for k names: no more are crossed, and the chain ends or goes on for one more
  pub record Outcome (t : Forest Node) (k : ℕ) (c : Chain) : Type 0 where
    pub short : length c.crossed ≤ k
    pub either : Run t c.crossed c.last ⊎ ((c.last ≡ circle) × GoesOn ds (suc k) t)

  -- What stands at a type's head: no name, one without definition, or one with.
  pub data Next : Forest Node → Type 0 where
    no_name : {t : Forest Node} → head t ≡ other → Next t
    no_type : {t : Forest Node} {n : ℕ} → Lost t n → Next t
    some_type : {t u : Forest Node} {n : ℕ} → Step t n u → Next t

  pub next : (t : Forest Node) → Next t
  next t = go (head t) refl
    where
      go : (h : Head) → head t ≡ h → Next t
      go other e = no_name e
      go (named n) e =
          elim (found-cases (find_type ds n)) [
            | inl f ↦ no_type (record { is-name = e; no-type = f })
            | inr f ↦ some_type (record { is-name = e; is-type = f.1 })
          ]

  ended : {t : Forest Node} {e : End} (k : ℕ) → Run t [] e → Outcome t k (chain_from k ds t)
  ended {t} k r = rw (run-chain r k (omega arith)) (record { short = omega arith; either = inl r })

  pub outcome : (k : ℕ) (t : Forest Node) → Outcome t k (chain_from k ds t)
  outcome zero t = go (next t)
    where
      go : Next t → Outcome t zero (chain_from zero ds t)
      go (no_name h) = ended zero (stops h)
      go (no_type b) = ended zero (loses b)
      go (some_type s) = rw (chain-out s) (record { short = omega arith; either = inr (refl, goes-on s zero tt) })
  outcome (suc k) t = go (next t) (outcome k)
    where
      go : Next t → ((u : Forest Node) → Outcome u k (chain_from k ds u)) → Outcome t (suc k) (chain_from (suc k) ds t)
      go (no_name h) below = ended (suc k) (stops h)
      go (no_type b) below = ended (suc k) (loses b)
      go (some_type {u = u} s) below =
          let o = below u in
          rw (chain-on s k) (record { short = omega (arith, o.short); either = ⊎_map (crosses s) (λ p. (p.0, goes-on s (suc k) p.1)) o.either })

  pub alias-end : (t : Forest Node) → Means ds t (alias_end ds t)
  unfolding alias_end chain
  alias-end t = go (outcome (length ds) t).either
    where
      go : Run t (chain ds t).crossed (alias_end ds t) ⊎ ((alias_end ds t ≡ circle) × GoesOn ds (suc (length ds)) t) → Means ds t (alias_end ds t)
      go (inl r) = run-means r
      go (inr p) = rw p.0 (λ k. ⊎_elim (λ r. run-no-circle r (sym (run-end r) ∙ p.0)) (λ g. goes-less t k g.1) (outcome k t).either)

  pub circle-never : (t : Forest Node) → alias_end ds t ≡ circle → NeverEnds ds t
  circle-never t e = subst (Means ds t) e (alias-end t)

  pub end-leads : (t u : Forest Node) → alias_end ds t ≡ ends u → Leads ds t u
  end-leads t u e = subst (Means ds t) e (alias-end t)

  pub unbound-meets : (t : Forest Node) (n : ℕ) → alias_end ds t ≡ unbound n → MeetsUnbound ds n t
  unbound-meets t n e = subst (Means ds t) e (alias-end t)

  -- ---- A test at the end
  pub root-stands : (test : Kind → Bool) (t : Forest Node) → T (root_passes test (alias_end ds t)) → StandsFor test ds t
  unfolding root_passes
  root-stands test t = go (alias_end ds t) (alias-end t)
    where
      go : (e : End) → Means ds t e → T (root_passes test e) → StandsFor test ds t
      go (unbound n) m p = absurd p
      go circle m p = absurd p
      go (ends end) m p = absurd p
      go (ends (tree n kids next)) m p = record { type = tree n kids next; leads = m; root = p }

  -- ---- Where each name is defined once
  module _ (once : Distinct (map defined_name ds)) where
    pub leads-run : {t u : Forest Node} → Leads ds t u → (ns : List ℕ) × Run t ns (ends u)
    leads-run (arrived h) = ([], stops h)
    leads-run (onward {n = n} {d = d} h m e l) =
        let p = leads-run l in (n ∷ p.0, crosses {u = d.body} (record { is-name = h; is-type = find-named ds once d n m e }) p.1)

    pub leads-end : {t u : Forest Node} → Leads ds t u → alias_end ds t ≡ ends u
    leads-end l = run-end (leads-run l).1

    meets-run : {t : Forest Node} {n : ℕ} → ComesTo ds t n → (Defined ds n → ⊥) → (ns : List ℕ) × Run t ns (unbound n)
    meets-run {n = n} (meaning.here h) u = ([], loses (record { is-name = h; no-type = missing-find ds n u }))
    meets-run (meaning.onward {m = m} {d = d} h i e c) u =
        let p = meets-run c u in (m ∷ p.0, crosses {u = d.body} (record { is-name = h; is-type = find-named ds once d m i e }) p.1)

    pub meets-end : {t : Forest Node} {n : ℕ} → MeetsUnbound ds n t → alias_end ds t ≡ unbound n
    meets-end x = run-end (meets-run x.0 x.1).1

    -- a chain that ends does not go on beyond
    run-over : {t : Forest Node} {ns : List ℕ} {e : End} → Run t ns e → GoesOn ds (suc (length ns)) t → ⊥
    run-over (stops h) g = other-named h g.2
    run-over (loses {n = n} b) g =
        let q : g.0 ≡ n = cc (b.is-name, g.2) in find-missing ds n b.no-type (listed-defined g.3 (g.4 ∙ q))
    run-over (crosses {u = u} {n = n} {ns = ns} s r) g =
        let q : g.0 ≡ n = cc (s.is-name, g.2) in
        let f = find-named ds once g.1 n g.3 (g.4 ∙ q) in
        let p : g.1.body ≡ u = cc (f, s.is-type) in
        run-over r (subst (GoesOn ds (suc (length ns))) p g.5)

    pub never-circle : (t : Forest Node) → NeverEnds ds t → alias_end ds t ≡ circle
    unfolding alias_end chain
    never-circle t h =
        ⊎_elim (λ (r : Run t (chain ds t).crossed (alias_end ds t)). absurd (run-over r (h (suc (length (chain ds t).crossed))))) (λ p. p.0) (outcome (length ds) t).either

    pub circle-says : (t : Forest Node) → T (is_circle (alias_end ds t)) ↔ NeverEnds ds t
    unfolding is_circle
    circle-says t = (λ c. circle-never t (circle-is (alias_end ds t) c), λ h. rw (never-circle t h) tt)

    -- where the chains of all definitions end, every chain ends
    pub no-circle : ((d : Definition) → Memᴰ d ds → StandsFor (λ k. true) ds d.body) → (t : Forest Node) → NeverEnds ds t → ⊥
    no-circle ends' t h =
        let g = h 1 in
        let s = ends' g.1 g.3 in
        let r = leads-run (onward {u = s.type} g.2 g.3 g.4 s.leads) in
        run-over r.1 (h (suc (length r.0)))

    pub leads-unique : {t u v : Forest Node} → Leads ds t u → Leads ds t v → u ≡ v
    leads-unique {t} {u} {v} l m = let e : ends u ≡ ends v = sym (leads-end l) ∙ leads-end m in cc

    pub stands-root : (test : Kind → Bool) (t : Forest Node) → StandsFor test ds t → T (root_passes test (alias_end ds t))
    unfolding root_passes
    stands-root test t s = rw (leads-end s.leads) (go s.type s.root)
      where
        go : (u : Forest Node) → RootIs test u → T (root_passes test (ends u))
        go end p = p
        go (tree n kids next) p = p

    pub root-says : (test : Kind → Bool) (t : Forest Node) → T (root_passes test (alias_end ds t)) ↔ StandsFor test ds t
    root-says test t = (root-stands test t, stands-root test t)

    pub func-says : (t : Forest Node) → T (as_func ds t) ↔ StandsFor is_func_kind ds t
    unfolding as_func
    func-says = root-says is_func_kind

    pub service-says : (t : Forest Node) → T (as_service ds t) ↔ StandsFor is_serv_kind ds t
    unfolding as_service
    service-says = root-says is_serv_kind

  -- ---- Where all names are bound
  -- what holds of a type and of all bodies holds where it leads
  pub leads-keeps : (P : Forest Node → Type 0) → ((d : Definition) → Memᴰ d ds → P d.body) → {t u : Forest Node} → Leads ds t u → P t → P u
  leads-keeps P h (arrived e) p = p
  leads-keeps P h (onward {d = d} e m q l) p = leads-keeps P h l (h d m)

  module _ (bodies : (d : Definition) → Memᴰ d ds → Bound ds d.body) where
    comes-bound : {t : Forest Node} {n : ℕ} → ComesTo ds t n → Bound ds t → Defined ds n
    comes-bound {t} {n} (meaning.here h) b = b n (head-refers t h)
    comes-bound (meaning.onward {d = d} h m e c) b = comes-bound c (bodies d m)

    pub bound-leads : (t : Forest Node) → Bound ds t → is_circle (alias_end ds t) ≡ false → (u : Forest Node) × Leads ds t u
    unfolding is_circle
    bound-leads t b = go (alias_end ds t) (alias-end t)
      where
        go : (e : End) → Means ds t e → is_circle e ≡ false → (u : Forest Node) × Leads ds t u
        go (unbound n) x c = absurd (x.1 (comes-bound x.0 b))
        go circle m c = let z : ◌≡◌ {A = ℕ} 0 1 = cc in absurd (omega arith)
        go (ends u) m c = (u, m)

    pub bound-stands : ((d : Definition) → Memᴰ d ds → breadth d.body ≡ 1) → (t : Forest Node) → Bound ds t → breadth t ≡ 1 →
        is_circle (alias_end ds t) ≡ false → StandsFor (λ k. true) ds t
    unfolding breadth
    bound-stands sole t b s c = let p = bound-leads t b c in go p.0 p.1 (leads-keeps (λ u. breadth u ≡ 1) sole p.1 s)
      where
        go : (u : Forest Node) → Leads ds t u → breadth u ≡ 1 → StandsFor (λ k. true) ds t
        go end l e = absurd (omega arith)
        go (tree n kids next) l e = record { type = tree n kids next; leads = l; root = tt }
