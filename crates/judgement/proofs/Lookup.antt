-- Definitions by name: what is found, what is missing, and what stands once. Assumes nothing.
--     member-says                  the test for a number in a list
--     find-body, find-listed, ..   what `find_type` finds
--     keep-says, keep-distinct     the definitions that pass a test
--     keep-first, keep-last        those are the first ones, or the last
--     merge-first, merge-says, ..  the definitions of two files, those of the first first
use mathlib.Core.Path.{◌≡◌, refl, sym, ap, subst, ◌∙◌}
use mathlib.Core.Logic.{◌↔◌, ◌⊎◌, inl, inr, ⊎_elim, ⊎_map}
use mathlib.Core.Bool.{Bool, true, false, cond, ◌||◌}
use mathlib.Core.List.{List, [], ◌∷◌, ◌++◌, append-nil, map, map-append, Memᴰ}
use Prim.Native.Nat.{ℕ}
use native.Mathlib.Decide.{ℕ_discrete}
use native.Mathlib.Omega.{arith}
use borrow.Author.Tests.{eq-eqb, ne_eqb}
use lib.Dec.{T, eqb}
use Rattle.format.specs.Forest.{Forest}
use Rattle.format.specs.Node.{Node}
use Rattle.format.specs.Book.{Definition}
use Rattle.format.proofs.Lists.{All}
use Rattle.judgement.specs.Environment.{keep, Found, missing, body, find_type, is_missing, merge_definitions}
use Rattle.judgement.specs.Check.{member}
use Rattle.format.specs.Distinct.{Distinct, more}
use Rattle.format.proofs.Distinct.{distinct-head, distinct-tail, distinct-append}
use Rattle.judgement.specs.WellFormed.{defined_name, Defined}

-- The test for a number in a list.
pub member-says : (n : ℕ) (l : List ℕ) → T (member n l) ↔ Memᴰ n l
unfolding member
member-says n [] = (λ (t : ⊥). absurd t, λ m. absurd (mathlib.Core.List.Memᴰ.not-nil m))
member-says n (a ∷ l) = go (ℕ_discrete n a) (member-says n l)
  where
    go : Dec (n ≡ a) → T (member n l) ↔ Memᴰ n l → T (eqb n a || member n l) ↔ Memᴰ n (a ∷ l)
    go (yes e) i = rw (eq-eqb n a e) (λ t. mathlib.Core.List.Memᴰ.head e, λ m. tt)
    go (no h) i = rw (ne_eqb n a h) (λ t. mathlib.Core.List.Memᴰ.tail (i.0 t), λ m. ⊎_elim (λ (e : n ≡ a). absurd (h e)) i.1 (mathlib.Core.List.Memᴰ.cases_cons m))

pub listed-or-not : (n : ℕ) (l : List ℕ) → Memᴰ n l ⊎ (Memᴰ n l → ⊥)
listed-or-not n l = go (member n l) (member-says n l)
  where
    go : (b : Bool) → T b ↔ Memᴰ n l → Memᴰ n l ⊎ (Memᴰ n l → ⊥)
    go true i = inl (i.0 tt)
    go false i = inr i.1

-- ---- What is found
pub found-cases : (f : Found) → (f ≡ missing) ⊎ ((t : Forest Node) × (f ≡ body t))
found-cases missing = inl refl
found-cases (body t) = inr (t, refl)

pub not-both-found : {A : Type 0} {f : Found} {t : Forest Node} → f ≡ missing → f ≡ body t → A
not-both-found e g = let z : ◌≡◌ {A = ℕ} 0 1 = cc in absurd (omega arith)

find-here : (d : Definition) (ds : List Definition) (n : ℕ) → d.name ≡ n → find_type (d ∷ ds) n ≡ body d.body
unfolding find_type
find-here d ds n e = rw (eq-eqb d.name n e)

find-later : (d : Definition) (ds : List Definition) (n : ℕ) → (d.name ≡ n → ⊥) → find_type (d ∷ ds) n ≡ find_type ds n
unfolding find_type
find-later d ds n h = rw (ne_eqb d.name n h)

-- A definition of this name and with this body.
pub record FoundIn (ds : List Definition) (n : ℕ) (t : Forest Node) : Type 0 where
  pub definition : Definition
  pub listed : Memᴰ definition ds
  pub of-name : definition.name ≡ n
  pub of-body : definition.body ≡ t

pub find-body : (ds : List Definition) (n : ℕ) (t : Forest Node) → find_type ds n ≡ body t → FoundIn ds n t
unfolding find_type
find-body [] n t e = not-both-found refl e
find-body (d ∷ ds) n t e = go (ℕ_discrete d.name n) (find-body ds n t)
  where
    go : Dec (d.name ≡ n) → (find_type ds n ≡ body t → FoundIn ds n t) → FoundIn (d ∷ ds) n t
    go (yes q) below =
        let p : body d.body ≡ body t = sym (find-here d ds n q) ∙ e in
        record { definition = d; listed = mathlib.Core.List.Memᴰ.head refl; of-name = q; of-body = cc }
    go (no h) below =
        let f = below (sym (find-later d ds n h) ∙ e) in
        record { definition = f.definition; listed = mathlib.Core.List.Memᴰ.tail f.listed; of-name = f.of-name; of-body = f.of-body }

pub listed-defined : {ds : List Definition} {d : Definition} {n : ℕ} → Memᴰ d ds → d.name ≡ n → Defined ds n
listed-defined m e = mathlib.Core.List.Memᴰ.cast (sym e) (mathlib.Core.List.Memᴰ.map defined_name m)

pub found-defined : (ds : List Definition) (n : ℕ) (t : Forest Node) → find_type ds n ≡ body t → Defined ds n
found-defined ds n t e = let f = find-body ds n t e in listed-defined f.listed f.of-name

pub find-defined : (ds : List Definition) (n : ℕ) → Defined ds n → (t : Forest Node) × (find_type ds n ≡ body t)
find-defined [] n m = absurd (mathlib.Core.List.Memᴰ.not-nil m)
find-defined (d ∷ ds) n m = go (ℕ_discrete d.name n) (mathlib.Core.List.Memᴰ.cases_cons m) (λ (k : Defined ds n). find-defined ds n k)
  where
    go : Dec (d.name ≡ n) → (n ≡ d.name) ⊎ Defined ds n → (Defined ds n → (t : Forest Node) × (find_type ds n ≡ body t)) →
        (t : Forest Node) × (find_type (d ∷ ds) n ≡ body t)
    go (yes e) c below = (d.body, find-here d ds n e)
    go (no h) (inl e) below = absurd (h (sym e))
    go (no h) (inr k) below = let f = below k in (f.0, find-later d ds n h ∙ f.1)

pub find-missing : (ds : List Definition) (n : ℕ) → find_type ds n ≡ missing → Defined ds n → ⊥
find-missing ds n e m = not-both-found e (find-defined ds n m).1

pub missing-find : (ds : List Definition) (n : ℕ) → (Defined ds n → ⊥) → find_type ds n ≡ missing
missing-find ds n h = elim (found-cases (find_type ds n)) [ inl e ↦ e | inr f ↦ absurd (h (found-defined ds n f.0 f.1)) ]

pub missing-says : (ds : List Definition) (n : ℕ) → (find_type ds n ≡ missing) ↔ (Defined ds n → ⊥)
missing-says ds n = (find-missing ds n, missing-find ds n)

-- A name is found exactly if it is defined.
pub found-says : (ds : List Definition) (n : ℕ) → (find_type ds n ≡ missing → ⊥) ↔ Defined ds n
found-says ds n = (
  λ h. elim (found-cases (find_type ds n)) [ inl e ↦ absurd (h e) | inr f ↦ found-defined ds n f.0 f.1 ],
  λ d e. not-both-found e (find-defined ds n d).1,
)

-- Where each name is defined once, its definition is the one that is found.
pub find-listed : (ds : List Definition) → Distinct (map defined_name ds) → (d : Definition) → Memᴰ d ds → find_type ds d.name ≡ body d.body
find-listed [] once d m = absurd (mathlib.Core.List.Memᴰ.not-nil m)
find-listed (c ∷ ds) once d m = go (mathlib.Core.List.Memᴰ.cases_cons m) (find-listed ds (distinct-tail once) d)
  where
    go : (d ≡ c) ⊎ Memᴰ d ds → (Memᴰ d ds → find_type ds d.name ≡ body d.body) → find_type (c ∷ ds) d.name ≡ body d.body
    go (inl e) below = find-here c ds d.name (ap defined_name (sym e)) ∙ ap (λ (x : Definition). body x.body) (sym e)
    go (inr k) below = find-later c ds d.name (λ e. distinct-head once (mathlib.Core.List.Memᴰ.cast e (mathlib.Core.List.Memᴰ.map defined_name k))) ∙ below k

pub find-named : (ds : List Definition) → Distinct (map defined_name ds) → (d : Definition) (n : ℕ) → Memᴰ d ds → d.name ≡ n → find_type ds n ≡ body d.body
find-named ds once d n m e = ap (find_type ds) (sym e) ∙ find-listed ds once d m

-- ---- The definitions that pass a test
module _ (test : Definition → Bool) where
  keep-cons : (P : List Definition → Type 0) (d : Definition) (ds : List Definition) →
      (T (test d) → P (d ∷ keep test ds)) → ((T (test d) → ⊥) → P (keep test ds)) → P (keep test (d ∷ ds))
  unfolding keep
  keep-cons P d ds = go (test d)
    where
      go : (b : Bool) → (T b → P (d ∷ keep test ds)) → ((T b → ⊥) → P (keep test ds)) → P (cond b (d ∷ keep test ds) (keep test ds))
      go true y n = y tt
      go false y n = n (λ t. t)

  keep-listed : (ds : List Definition) (d : Definition) → Memᴰ d (keep test ds) → Memᴰ d ds × T (test d)
  unfolding keep
  keep-listed [] d m = absurd (mathlib.Core.List.Memᴰ.not-nil m)
  keep-listed (c ∷ ds) d m =
      let later : Memᴰ d (keep test ds) → Memᴰ d (c ∷ ds) × T (test d) = λ k. let p = keep-listed ds d k in (mathlib.Core.List.Memᴰ.tail p.0, p.1) in
      let first : T (test c) → d ≡ c → Memᴰ d (c ∷ ds) × T (test d) = λ t e. (mathlib.Core.List.Memᴰ.head e, subst (λ (x : Definition). T (test x)) (sym e) t) in
      keep-cons (λ l. Memᴰ d l → Memᴰ d (c ∷ ds) × T (test d)) c ds (λ t k. ⊎_elim (first t) later (mathlib.Core.List.Memᴰ.cases_cons k)) (λ n. later) m

  listed-keep : (ds : List Definition) (d : Definition) → Memᴰ d ds → T (test d) → Memᴰ d (keep test ds)
  listed-keep [] d m t = absurd (mathlib.Core.List.Memᴰ.not-nil m)
  listed-keep (c ∷ ds) d m t = keep-cons (λ l. Memᴰ d l) c ds
      (λ y. ⊎_elim (λ (e : d ≡ c). mathlib.Core.List.Memᴰ.head e) (λ k. mathlib.Core.List.Memᴰ.tail (listed-keep ds d k t)) (mathlib.Core.List.Memᴰ.cases_cons m))
      (λ n. ⊎_elim (λ (e : d ≡ c). absurd (n (subst (λ (x : Definition). T (test x)) e t))) (λ k. listed-keep ds d k t) (mathlib.Core.List.Memᴰ.cases_cons m))

  pub keep-says : (ds : List Definition) (d : Definition) → Memᴰ d (keep test ds) ↔ (Memᴰ d ds × T (test d))
  keep-says ds d = (keep-listed ds d, λ p. listed-keep ds d p.0 p.1)

  pub keep-defined : (ds : List Definition) (n : ℕ) → Defined (keep test ds) n → Defined ds n
  keep-defined ds n m = let f = mathlib.Core.List.Memᴰ.of_map defined_name (keep test ds) m in listed-defined (keep-listed ds f.0 f.1).0 f.2

  pub keep-distinct : (ds : List Definition) → Distinct (map defined_name ds) → Distinct (map defined_name (keep test ds))
  unfolding keep
  keep-distinct [] once = once
  keep-distinct (c ∷ ds) once =
      let rest = keep-distinct ds (distinct-tail once) in
      keep-cons (λ l. Distinct (map defined_name l)) c ds (λ t. more (λ m. distinct-head once (keep-defined ds c.name m)) rest) (λ n. rest)

  -- all of them pass, none of them, and a part of each
  keep-all : (ds : List Definition) → All (λ (d : Definition). test d ≡ true) ds → keep test ds ≡ ds
  unfolding keep
  keep-all [] h = refl
  keep-all (d ∷ ds) h = rw h.0 (ap (λ (l : List Definition). d ∷ l) (keep-all ds h.1))

  pub keep-none : (ds : List Definition) → All (λ (d : Definition). test d ≡ false) ds → keep test ds ≡ []
  unfolding keep
  keep-none [] h = refl
  keep-none (d ∷ ds) h = rw h.0 (keep-none ds h.1)

  keep-append : (xs ys : List Definition) → keep test (xs ++ ys) ≡ keep test xs ++ keep test ys
  unfolding keep
  keep-append [] ys = refl
  keep-append (d ∷ xs) ys = go (test d) (keep-append xs ys)
    where
      go : (b : Bool) → keep test (xs ++ ys) ≡ keep test xs ++ keep test ys →
          cond b (d ∷ keep test (xs ++ ys)) (keep test (xs ++ ys)) ≡ cond b (d ∷ keep test xs) (keep test xs) ++ keep test ys
      go true e = ap (λ (l : List Definition). d ∷ l) e
      go false e = e

  pub keep-first : (xs ys : List Definition) → All (λ (d : Definition). test d ≡ true) xs → All (λ (d : Definition). test d ≡ false) ys → keep test (xs ++ ys) ≡ xs
  keep-first xs ys h n = keep-append xs ys ∙ rw (keep-all xs h, keep-none ys n) (append-nil xs)

  pub keep-last : (xs ys : List Definition) → All (λ (d : Definition). test d ≡ false) xs → All (λ (d : Definition). test d ≡ true) ys → keep test (xs ++ ys) ≡ ys
  keep-last xs ys n h = keep-append xs ys ∙ rw (keep-none xs n, keep-all ys h)

  -- a name all of whose definitions pass
  find-keep : (n : ℕ) → ((d : Definition) → d.name ≡ n → T (test d)) → (ds : List Definition) → find_type (keep test ds) n ≡ find_type ds n
  unfolding keep find_type
  find-keep n h [] = refl
  find-keep n h (c ∷ ds) = keep-cons (λ l. find_type l n ≡ find_type (c ∷ ds) n) c ds (kept (find-keep n h ds)) (λ f. left f (find-keep n h ds))
    where
      kept : find_type (keep test ds) n ≡ find_type ds n → T (test c) → find_type (c ∷ keep test ds) n ≡ find_type (c ∷ ds) n
      kept e t = rw e

      left : (T (test c) → ⊥) → find_type (keep test ds) n ≡ find_type ds n → find_type (keep test ds) n ≡ find_type (c ∷ ds) n
      left f e = e ∙ sym (find-later c ds n (λ q. f (h c q)))

-- ---- The definitions of two files, those of the first first
find-append : (xs ys : List Definition) (n : ℕ) → find_type (xs ++ ys) n ≡ cond (is_missing (find_type xs n)) (find_type ys n) (find_type xs n)
unfolding find_type is_missing
find-append [] ys n = refl
find-append (d ∷ xs) ys n = go (eqb d.name n) (find-append xs ys n)
  where
    go : (b : Bool) → find_type (xs ++ ys) n ≡ cond (is_missing (find_type xs n)) (find_type ys n) (find_type xs n) →
        cond b (body d.body) (find_type (xs ++ ys) n)
        ≡ cond (is_missing (cond b (body d.body) (find_type xs n))) (find_type ys n) (cond b (body d.body) (find_type xs n))
    go true e = refl
    go false e = e

missing-test : (f : Found) → T (is_missing f) ↔ (f ≡ missing)
unfolding is_missing
missing-test missing = (λ t. refl, λ e. tt)
missing-test (body t) = (λ (z : ⊥). absurd z, λ e. not-both-found e refl)

module _ (init main : List Definition) where
  abbrev only_main : Definition → Bool
  only_main d = is_missing (find_type init d.name)

  pub merge-first : (n : ℕ) (t : Forest Node) → find_type init n ≡ body t → find_type (merge_definitions init main) n ≡ body t
  unfolding merge_definitions is_missing
  merge-first n t e = find-append init (keep only_main main) n ∙ rw e

  pub merge-second : (n : ℕ) → find_type init n ≡ missing → find_type (merge_definitions init main) n ≡ find_type main n
  unfolding merge_definitions is_missing
  merge-second n e =
      let passes : (d : Definition) → d.name ≡ n → T (only_main d) = λ d q. (missing-test (find_type init d.name)).1 (ap (find_type init) q ∙ e) in
      find-append init (keep only_main main) n ∙ rw e (find-keep only_main n passes main)

  only-says : (d : Definition) → Memᴰ d (keep only_main main) ↔ (Memᴰ d main × (Defined init d.name → ⊥))
  only-says d =
      let test = missing-test (find_type init d.name) in
      let kept = keep-says only_main main d in
      let found = missing-says init d.name in
      (λ m. ((kept.0 m).0, found.0 (test.0 (kept.0 m).1)), λ p. kept.1 (p.0, test.1 (found.1 p.1)))

  pub merge-listed : (d : Definition) → Memᴰ d (merge_definitions init main) ↔ (Memᴰ d init ⊎ (Memᴰ d main × (Defined init d.name → ⊥)))
  unfolding merge_definitions
  merge-listed d = (
    λ m. ⊎_map (λ i. i) (only-says d).0 (mathlib.Core.List.Memᴰ.append_cases init m),
    ⊎_elim (mathlib.Core.List.Memᴰ.append_left (keep only_main main)) (λ p. mathlib.Core.List.Memᴰ.append_right init ((only-says d).1 p)),
  )

  pub merge-says : (n : ℕ) → Defined (merge_definitions init main) n ↔ (Defined init n ⊎ Defined main n)
  merge-says n = (there, back (found-cases (find_type init n)))
    where
      there : Defined (merge_definitions init main) n → Defined init n ⊎ Defined main n
      there m =
          let f = mathlib.Core.List.Memᴰ.of_map defined_name (merge_definitions init main) m in
          elim ((merge-listed f.0).0 f.1) [ inl i ↦ inl (listed-defined i f.2) | inr p ↦ inr (listed-defined p.0 f.2) ]

      back : (find_type init n ≡ missing) ⊎ ((t : Forest Node) × (find_type init n ≡ body t)) → Defined init n ⊎ Defined main n → Defined (merge_definitions init main) n
      back (inr f) d = found-defined (merge_definitions init main) n f.0 (merge-first n f.0 f.1)
      back (inl e) (inl d) = absurd (find-missing init n e d)
      back (inl e) (inr d) = let f = find-defined main n d in found-defined (merge_definitions init main) n f.0 (merge-second n e ∙ f.1)

  pub merge-distinct : Distinct (map defined_name init) → Distinct (map defined_name main) → Distinct (map defined_name (merge_definitions init main))
  unfolding merge_definitions
  merge-distinct i m =
      let kept = keep only_main main in
      rw (map-append defined_name init kept) (distinct-append i (map defined_name kept) (keep-distinct only_main main m) apart)
    where
      apart : (n : ℕ) → Defined init n → Defined (keep only_main main) n → ⊥
      apart n p q =
          let f = mathlib.Core.List.Memᴰ.of_map defined_name (keep only_main main) q in
          ((only-says f.0).0 f.1).1 (mathlib.Core.List.Memᴰ.cast f.2 p)
