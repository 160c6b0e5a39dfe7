-- Laws of lists. Assumes nothing.
--     All, all-append, ..    each element is good
--     run-length, ..         f n, f (n + 1) and so on
--     made-at, made-passes   what g makes of such a run
--     number-at              a table whose entries are numbered
use mathlib.Core.Path.{◌≡◌, sym, ap, ap₂, subst, ◌∙◌, refl}
use mathlib.Core.Bool.{Bool, ◌&&◌}
use mathlib.Core.List.{List, [], ◌∷◌, ◌++◌, map, append_assoc}
use Prim.Native.Nat.{ℕ, zero, suc, ◌+◌, ◌≤◌, ◌<◌}
use native.Mathlib.Nat.{zero-add, suc-add, add-zero, add-suc, not-suc-le-zero, le_of_suc-le-suc}
use native.Mathlib.Numerals.{add-one}
use native.Mathlib.Omega.{arith}
use lib.Dec.{T, eqb, eqb→eq}
use lib.ListN.{length, get_or, take, drop}
use lib.Seq.{take-append_seam, drop-append_seam}
use Rattle.refusals.specs.Lists.{flat}
use Rattle.format.specs.Fits.{every}
use Rattle.format.specs.Layout.{run}
use Rattle.format.proofs.Logic.{both}

-- Lists in two parts, where the first parts are as long as each other: the parts are the same.
pub same-parts : {A : Type 0} (a b c d : List A) → length a ≡ length c → a ++ b ≡ c ++ d → (a ≡ c) × (b ≡ d)
same-parts a b c d l e = (
  sym (take-append_seam a b) ∙ ap₂ take l e ∙ take-append_seam c d,
  sym (drop-append_seam a b) ∙ ap₂ drop l e ∙ drop-append_seam c d,
)

pub flat-append : {A : Type 0} (f : A → List ℕ) (xs ys : List A) → flat f (xs ++ ys) ≡ flat f xs ++ flat f ys
unfolding flat
flat-append f [] ys = refl
flat-append f (x ∷ xs) ys = rw (flat-append f xs ys, append_assoc (f x) (flat f xs) (flat f ys))

-- ---- Each element is good
abbrev pub All : {A : Type 0} → (A → Type 0) → List A → Type 0
All Good [] = Unit {0}
All Good (a ∷ l) = Good a × All Good l

module _ {A : Type 0} (Good : A → Type 0) where
  pub all-parts : (l m : List A) → All Good (l ++ m) → All Good l × All Good m
  all-parts [] m h = (tt, h)
  all-parts (a ∷ l) m h = let g = all-parts l m h.1 in ((h.0, g.0), g.1)

  pub all-append : (l m : List A) → All Good l → All Good m → All Good (l ++ m)
  all-append [] m g h = h
  all-append (a ∷ l) m g h = (g.0, all-append l m g.1 h)

  pub all-of : ((a : A) → Good a) → (l : List A) → All Good l
  all-of h [] = tt
  all-of h (a ∷ l) = (h a, all-of h l)

  pub all-run : (f : ℕ → A) → ((n : ℕ) → Good (f n)) → (n k : ℕ) → All Good (run f n k)
  unfolding run
  all-run f h n zero = tt
  all-run f h n (suc k) = (h n, all-run f h (suc n) k)

  pub all-between : (f : ℕ → A) (n k : ℕ) → ((i : ℕ) → n ≤ i → i < n + k → Good (f i)) → All Good (run f n k)
  unfolding run
  all-between f n zero h = tt
  all-between f n (suc k) h = (h n (omega arith) (omega arith), all-between f (suc n) k (λ i l m. h i (omega arith) (omega arith)))

  pub all-at : (l : List A) → All Good l → (i : ℕ) (d : A) → i < length l → Good (get_or l i d)
  all-at [] g i d h = absurd (not-suc-le-zero h)
  all-at (a ∷ l) g zero d h = g.0
  all-at (a ∷ l) g (suc i) d h = all-at l g.1 i d (le_of_suc-le-suc h)

pub all-map : {A : Type 0} {P Q : A → Type 0} → ((a : A) → P a → Q a) → (l : List A) → All P l → All Q l
all-map h [] g = tt
all-map h (a ∷ l) g = (h a g.0, all-map h l g.1)

pub all-every : {A : Type 0} (test : A → Bool) (l : List A) → T (every test l) → All (λ (a : A). T (test a)) l
unfolding every
all-every test [] h = tt
all-every test (a ∷ l) h = let p = both (test a) (every test l) h in (p.0, all-every test l p.1)

pub map-at : {A B : Type 0} (f : A → B) (l : List A) (i : ℕ) (d : B) (a : A) → i < length l → get_or (map f l) i d ≡ f (get_or l i a)
map-at f [] i d a h = absurd (not-suc-le-zero h)
map-at f (x ∷ l) zero d a h = refl
map-at f (x ∷ l) (suc i) d a h = map-at f l i d a (le_of_suc-le-suc h)

-- ---- Runs: f n, f (n + 1) and so on
module _ {A : Type 0} (f : ℕ → A) where
  pub run-length : (n k : ℕ) → length (run f n k) ≡ k
  unfolding run
  run-length n zero = refl
  run-length n (suc k) = ap suc (run-length (suc n) k)

  pub run-append : (n a b : ℕ) → run f n (a + b) ≡ run f n a ++ run f (n + a) b
  unfolding run
  run-append n zero b = rw (zero-add, add-zero)
  run-append n (suc a) b = rw (suc-add, add-suc, ← suc-add n a) (ap (λ (l : List A). f n ∷ l) (run-append (suc n) a b))

  pub run-none : (n : ℕ) → run f n 0 ≡ []
  unfolding run
  run-none n = refl

  pub run-cons : (n k : ℕ) → run f n (suc k) ≡ f n ∷ run f (n + 1) k
  unfolding run
  run-cons n k = ap (λ (m : ℕ). f n ∷ run f m k) (sym (add-one n))

  pub run-at : (n k i : ℕ) (d : A) → i < k → get_or (run f n k) i d ≡ f (n + i)
  unfolding run
  run-at n zero i d h = absurd (not-suc-le-zero h)
  run-at n (suc k) zero d h = rw add-zero
  run-at n (suc k) (suc i) d h = run-at (suc n) k i d (le_of_suc-le-suc h) ∙ ap f (suc-add n i ∙ sym (add-suc n i))

  -- where all elements of a run, as a list es, are good, each is
  pub run-all : (Good : A → Type 0) (k : ℕ) (es : List A) → run f 0 k ≡ es → All Good es → (i : ℕ) → i < k → Good (f i)
  run-all Good k es e g i h =
      subst Good (run-at 0 k i (f 0) h ∙ ap f (zero-add i)) (all-at Good (run f 0 k) (subst (All Good) (sym e) g) i (f 0) (rw (run-length 0 k) h))

  -- a list that g makes of a run: its elements, and what they pass where all do
  module _ {B : Type 0} (g : A → B) (l : List B) (made : l ≡ map g (run f 0 (length l))) (i : ℕ) (h : i < length l) where
    pub made-at : (d : B) → get_or l i d ≡ g (f i)
    made-at d =
        let k : ℕ = length l in
        ap (λ (m : List B). get_or m i d) made ∙ map-at g (run f 0 k) i d (f 0) (rw (run-length 0 k) h) ∙ ap g (run-at 0 k i (f 0) h ∙ ap f (zero-add i))

    pub made-passes : (test : B → Bool) → T (every test l) → T (test (g (f i)))
    made-passes test t = subst (λ (b : B). T (test b)) (made-at (g (f i))) (all-at (λ (b : B). T (test b)) l (all-every test l t) i (g (f i)) h)

-- ---- A table and the numbers of its entries
module _ {A : Type 0} (number : A → ℕ) where
  -- The entries of a table have the numbers from i on, and the default has the number after them.
  unfoldable pub numbered : ℕ → List A → A → Bool
  numbered i [] d = eqb (number d) i
  numbered i (x ∷ xs) d = eqb (number x) i && numbered (suc i) xs d

  pub number-at : (i : ℕ) (xs : List A) (d : A) → T (numbered i xs d) → (k : ℕ) → k ≤ length xs → number (get_or xs k d) ≡ i + k
  unfolding numbered
  number-at i [] d t zero h = eqb→eq (number d) i t ∙ sym (add-zero i)
  number-at i [] d t (suc k) h = absurd (not-suc-le-zero h)
  number-at i (x ∷ xs) d t zero h = eqb→eq (number x) i (both (eqb (number x) i) _ t).0 ∙ sym (add-zero i)
  number-at i (x ∷ xs) d t (suc k) h =
      number-at (suc i) xs d (both (eqb (number x) i) _ t).1 k (le_of_suc-le-suc h) ∙ suc-add i k ∙ sym (add-suc i k)
