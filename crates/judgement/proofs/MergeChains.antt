-- The alias chains of an init file's definitions merged with main's. Assumes that the names that init defines exist, as those of a book
-- that fits do; that both define the same is not needed: a chain that comes to one of init's names stays among init's and ends there.
--     merged-no-circle    where the definitions of each of the two pass, no chain of the merged runs in a circle
use mathlib.Core.Path.{◌≡◌, refl, sym, subst, ◌∙◌}
use mathlib.Core.Logic.{inl, inr, ⊎_elim}
use mathlib.Core.Bool.{true, false, not}
use mathlib.Core.List.Memᴰ
use mathlib.Core.List.{List, [], ◌∷◌, Memᴰ}
use Prim.Native.Nat.{ℕ, ◌<◌}
use native.Mathlib.Omega.{arith}
use lib.Dec.{T}
use lib.ListN.{length}
use Rattle.format.specs.Forest.{Forest, end, tree, breadth}
use Rattle.format.specs.Node.{Node}
use Rattle.format.specs.Book.{Definition}
use Rattle.refusals.specs.declared.Refusal.TheVariants.{Unbound, Circle}
use Rattle.std.specs.Prelude.{Err}
use Rattle.refusals.specs.Verdict.{Verdict, passes}
use Rattle.judgement.specs.Environment.{merge_definitions, Found, missing, body, find_type, named, head}
use Rattle.judgement.specs.Aliases.{End, unbound, ends, chain, alias_end}
use Rattle.judgement.specs.Check.{name_verdict, kind_verdict, check_forest, once_verdict, bodies_verdict, each_name, is_circle, circle_verdict, decs_verdict}
use Rattle.refusals.proofs.Verdicts.{refused-passed, both-pass, unless-passed, passed-unless}
use Rattle.judgement.proofs.Lookup.{found-cases, not-both-found, find-body, merge-first, merge-second}
use Rattle.judgement.proofs.Heads.{other-named, named-var}
use Rattle.judgement.proofs.Chains.{Run, stops, loses, crosses, run-end, outcome}
use Rattle.judgement.proofs.Each.{names-passed, passed-names}

-- ---- One set of definitions
module _ (ds : List Definition) where
  -- The chain from a type ends somewhere.
  record Ended (t : Forest Node) : Type 0 where
    names : List ℕ
    last : End
    run : Run ds t names last

  run-ended : {t : Forest Node} {ns : List ℕ} {e : End} → Run ds t ns e → T (not (is_circle e))
  unfolding is_circle
  run-ended (stops h) = tt
  run-ended (loses b) = tt
  run-ended (crosses s r) = run-ended r

  ended-passed : (n : ℕ) (f : Found) → ((t : Forest Node) → f ≡ body t → Ended t) → circle_verdict ds n f ≡ passes
  unfolding circle_verdict
  ended-passed n missing h = refl
  ended-passed n (body t) h =
      let x = h t refl in
      passed-unless (not (is_circle (alias_end ds t))) (Circle n) (subst (λ (e : End). T (not (is_circle e))) (sym (run-end ds x.run)) (run-ended x.run))

  open-ended : (t : Forest Node) → T (not (is_circle (alias_end ds t))) → Ended t
  unfolding alias_end chain is_circle
  open-ended t c =
      elim (outcome ds (length ds) t).either [
        | inl r ↦ record { names = (chain ds t).crossed; last = alias_end ds t; run = r }
        | inr p ↦ absurd (subst (λ (e : End). T (not (is_circle e))) p.0 c)
      ]

  passed-ended : (n : ℕ) (f : Found) (t : Forest Node) → f ≡ body t → circle_verdict ds n f ≡ passes → Ended t
  unfolding circle_verdict
  passed-ended n missing t q e = not-both-found refl q
  passed-ended n (body u) t q e =
      let p : u ≡ t = cc in
      subst Ended p (open-ended u (unless-passed (not (is_circle (alias_end ds u))) (Circle n) e))

  -- A type that is a name is one with a definition.
  abbrev BoundHead : Forest Node → Type 0
  BoundHead t = (n : ℕ) → head t ≡ named n → find_type ds n ≡ missing → ⊥

  walk-bound : (t : Forest Node) → check_forest true false ds t ≡ passes → BoundHead t
  unfolding check_forest head kind_verdict name_verdict
  walk-bound end e n h m = other-named refl h
  walk-bound (tree c kids next) e n h m =
      let v = kind_verdict ds c.kind (breadth kids) (check_forest true false ds kids) in
      let p = both-pass v _ (both-pass _ (check_forest true false ds next) e).0 in
      let q : v ≡ Err (Unbound n) = rw (named-var c.kind h, m) in
      refused-passed (sym q ∙ p.0)

  bodies-bound : (es : List Definition) → bodies_verdict ds es ≡ passes → (d : Definition) → Memᴰ d es → BoundHead d.body
  unfolding bodies_verdict
  bodies-bound [] e d m = absurd (Memᴰ.not-nil m)
  bodies-bound (c ∷ es) e d m =
      let p = both-pass (check_forest true false ds c.body) (bodies_verdict ds es) e in
      ⊎_elim (λ (q : d ≡ c). rw q (walk-bound c.body p.0)) (bodies-bound es p.1 d) (Memᴰ.cases_cons m)

  -- What passes: names have definitions, and each name's chain ends.
  module _ (k : ℕ) (passed : decs_verdict k ds ≡ passes) where
    decs-bound : (n : ℕ) (t : Forest Node) → find_type ds n ≡ body t → BoundHead t
    unfolding decs_verdict
    decs-bound n t g =
        let p = both-pass (bodies_verdict ds ds) _ (both-pass (once_verdict [] ds) _ passed).1 in
        let x = find-body ds n t g in
        subst BoundHead x.of-body (bodies-bound ds p.0 x.definition x.listed)

    decs-ended : (n : ℕ) (t : Forest Node) → n < k → find_type ds n ≡ body t → Ended t
    unfolding decs_verdict
    decs-ended n t l g =
        let verdict : ℕ → Verdict = λ m. circle_verdict ds m (find_type ds m) in
        let p = both-pass (bodies_verdict ds ds) _ (both-pass (once_verdict [] ds) _ passed).1 in
        let q = both-pass (each_name verdict 0 k) _ p.1 in
        passed-ended n (find_type ds n) t g (names-passed verdict 0 k q.0 n (omega arith) (omega arith))

-- ---- Both
module _
    (k : ℕ)
    (ids ds : List Definition)
    (exists : (d : Definition) → Memᴰ d ids → d.name < k)
    (init : decs_verdict k ids ≡ passes)
    (main : decs_verdict k ds ≡ passes) where
  abbrev merged : List Definition
  merged = merge_definitions ids ds

  -- a chain among init's definitions is one of the merged
  init-run : {t : Forest Node} {ns : List ℕ} {e : End} → BoundHead ids t → Run ids t ns e → Run merged t ns e
  init-run b (stops h) = stops h
  init-run b (loses {n = n} l) = absurd (b n l.is-name l.no-type)
  init-run b (crosses {u = u} {n = n} s r) =
      crosses (record { is-name = s.is-name; is-type = merge-first ids ds n u s.is-type }) (init-run (decs-bound ids k init n u s.is-type) r)

  init-ended : (n : ℕ) (t : Forest Node) → find_type ids n ≡ body t → Ended merged t
  init-ended n t g =
      let x = find-body ids n t g in
      let y = decs-ended ids k init n t (subst (λ m. m < k) x.of-name (exists x.definition x.listed)) g in
      record { names = y.names; last = y.last; run = init-run (decs-bound ids k init n t g) y.run }

  -- one step: to a name of init, or to one that main alone may have
  step-ended : {t u : Forest Node} {n : ℕ} → head t ≡ named n → find_type merged n ≡ body u → Ended merged u → Ended merged t
  step-ended {n = n} h g x = record { names = n ∷ x.names; last = x.last; run = crosses (record { is-name = h; is-type = g }) x.run }

  name-ended : {t : Forest Node} {n : ℕ} → head t ≡ named n → (find_type ids n ≡ missing → Ended merged t) → Ended merged t
  name-ended {n = n} h alone =
      elim (found-cases (find_type ids n)) [
        | inl m ↦ alone m
        | inr f ↦ step-ended h (merge-first ids ds n f.0 f.1) (init-ended n f.0 f.1)
      ]

  main-run : {t : Forest Node} {ns : List ℕ} {e : End} → Run ds t ns e → Ended merged t
  main-run {t = t} (stops h) = record { names = []; last = ends t; run = stops h }
  main-run (loses {n = n} l) =
      name-ended l.is-name (λ m. record { names = []; last = unbound n; run = loses (record { is-name = l.is-name; no-type = merge-second ids ds n m ∙ l.no-type }) })
  main-run (crosses {n = n} s r) =
      let x = main-run r in
      name-ended s.is-name (λ m. step-ended s.is-name (merge-second ids ds n m ∙ s.is-type) x)

  merged-ended : (n : ℕ) (t : Forest Node) → n < k → find_type merged n ≡ body t → Ended merged t
  merged-ended n t l g =
      elim (found-cases (find_type ids n)) [
        | inl m ↦ main-run (decs-ended ds k main n t l (sym (merge-second ids ds n m) ∙ g)).run
        | inr f ↦ let e : body f.0 ≡ body t = sym (merge-first ids ds n f.0 f.1) ∙ g in init-ended n t (f.1 ∙ e)
      ]

  pub merged-no-circle : each_name (λ n. circle_verdict (merge_definitions ids ds) n (find_type (merge_definitions ids ds) n)) 0 k ≡ passes
  merged-no-circle =
      passed-names (λ n. circle_verdict merged n (find_type merged n)) 0 k
      (λ n l u. ended-passed merged n (find_type merged n) (λ t g. merged-ended n t (omega arith) g))
