-- Verdicts on lists, said both ways: each element in turn, each number in turn, and elements of which no two may have the same key. Assumes
-- nothing.
--     each, says-each                            each element in turn: the first one that is refused
--     names-passed, passed-names, says-names     each number in turn: the lowest one that is refused
--     repeats, says-repeats                      the first element whose key an earlier one has
use mathlib.Core.Path.{◌≡◌, refl, sym, ap, subst, ◌∙◌}
use mathlib.Core.Logic.{◌↔◌, ◌⊎◌, inl, inr, ⊎_elim}
use mathlib.Core.Bool.{not}
use mathlib.Core.List.Memᴰ
use mathlib.Core.List.{List, [], ◌∷◌, ◌++◌, map, Memᴰ}
use Prim.Native.Nat.{ℕ, zero, suc, ◌+◌, ◌≤◌, ◌<◌}
use native.Mathlib.Decide.{ℕ_discrete}
use native.Mathlib.Omega.{arith}
use Rattle.refusals.specs.declared.Refusal.{Refusal}
use Rattle.refusals.specs.Verdict.{Verdict, passes, and_then, unless}
use Rattle.judgement.specs.Check.{member, each_name}
use Rattle.format.specs.Distinct.{Distinct, none, more, FirstRepeat}
use Rattle.refusals.proofs.Verdicts.{passed-refused, both-pass, pass-both}
use Rattle.format.proofs.Distinct.{distinct-head, distinct-tail}
use Rattle.judgement.specs.Order.{First}
use Rattle.judgement.proofs.Lookup.{member-says}
use Rattle.judgement.proofs.Says.{Says, says-if, says-then, says-as}

-- ---- Each element in turn
module _ {A : Type 0} (f : A → Verdict) where
  unfoldable pub each : List A → Verdict
  each [] = passes
  each (a ∷ l) = and_then (f a) (each l)

-- The first bad element of no elements, and of an element and others.
module _ {A : Type 0} {Fine Bad : A → Type 0} where
  no-first : {B : Type 0} → First Fine Bad [] → B
  no-first x = go x.before x.parts
    where
      go : {B : Type 0} (xs : List A) → [] ≡ xs ++ (x.it ∷ x.following) → B
      go [] e = let z : ◌≡◌ {A = ℕ} 0 1 = cc in absurd (omega arith)
      go (c ∷ xs) e = let z : ◌≡◌ {A = ℕ} 0 1 = cc in absurd (omega arith)

  pub first-cons : (a : A) (l : List A) → First Fine Bad (a ∷ l) ↔ (Bad a ⊎ (Fine a × First Fine Bad l))
  first-cons a l = (λ x. there x.before x.following x.parts x.fine x.bad, ⊎_elim now after)
    where
      there : {it : A} (xs ys : List A) → a ∷ l ≡ xs ++ (it ∷ ys) → ((c : A) → Memᴰ c xs → Fine c) → Bad it → Bad a ⊎ (Fine a × First Fine Bad l)
      there {it} [] ys e h b = let q : it ≡ a = cc in inl (subst Bad q b)
      there {it} (c ∷ xs) ys e h b =
          let q : c ≡ a = cc in
          inr (subst Fine q (h c (Memᴰ.head refl)), record { before = xs; it = it; following = ys; parts = cc; fine = λ d m. h d (Memᴰ.tail m); bad = b })

      now : Bad a → First Fine Bad (a ∷ l)
      now b = record { before = []; it = a; following = l; parts = refl; fine = λ c m. absurd (Memᴰ.not-nil m); bad = b }

      after : Fine a × First Fine Bad l → First Fine Bad (a ∷ l)
      after p = let x = p.1 in record {
        before = a ∷ x.before;
        it = x.it;
        following = x.following;
        parts = ap (λ (m : List A). a ∷ m) x.parts;
        fine = λ c m. ⊎_elim (λ (q : c ≡ a). subst Fine (sym q) p.0) (x.fine c) (Memᴰ.cases_cons m);
        bad = x.bad;
      }

pub all-cons : {A : Type 0} {P : A → Type 0} (a : A) (l : List A) → (P a × ((c : A) → Memᴰ c l → P c)) ↔ ((c : A) → Memᴰ c (a ∷ l) → P c)
all-cons {A} {P} a l = (
  λ h c m. ⊎_elim (λ (q : c ≡ a). subst P (sym q) h.0) (h.1 c) (Memᴰ.cases_cons m),
  λ h. (h a (Memᴰ.head refl), λ c m. h c (Memᴰ.tail m)),
)

pub says-each : {A : Type 0} {Fine : A → Type 0} {Bad : A → Refusal → Type 0} (f : A → Verdict) (l : List A) →
    ((a : A) → Memᴰ a l → Says (f a) (Fine a) (Bad a)) → Says (each f l) ((a : A) → Memᴰ a l → Fine a) (λ r. First Fine (λ a. Bad a r) l)
unfolding each
says-each f [] h = record { passed = (λ e a m. absurd (Memᴰ.not-nil m), λ g. refl); refused = λ r. (λ e. passed-refused e, λ x. no-first x) }
says-each f (a ∷ l) h =
    let says = (all-cons a l).1 h in
    says-as (says-then says.0 (λ g. says-each f l says.1)) (all-cons a l) (λ r. let i = first-cons a l in (i.1, i.0))

-- ---- Each number in turn

-- a number from n on is n, or it is greater
from-or : (P : ℕ → Type 0) (n i : ℕ) → n ≤ i → P n → (suc n ≤ i → P i) → P i
from-or P n i l p q = go (ℕ_discrete n i)
  where
    go : Dec (n ≡ i) → P i
    go (yes e) = subst P e p
    go (no h) = q (omega arith)

module _ (f : ℕ → Verdict) where
  pub names-passed : (n k : ℕ) → each_name f n k ≡ passes → (i : ℕ) → n ≤ i → i < n + k → f i ≡ passes
  unfolding each_name
  names-passed n zero e i l u = let z : ⊥ = omega arith in absurd z
  names-passed n (suc k) e i l u =
      let p = both-pass (f n) (each_name f (suc n) k) e in
      from-or (λ j. f j ≡ passes) n i l p.0 (λ m. names-passed (suc n) k p.1 i m (omega arith))

  pub passed-names : (n k : ℕ) → ((i : ℕ) → n ≤ i → i < n + k → f i ≡ passes) → each_name f n k ≡ passes
  unfolding each_name
  passed-names n zero h = refl
  passed-names n (suc k) h =
      pass-both (f n) (each_name f (suc n) k) (h n (omega arith) (omega arith)) (passed-names (suc n) k (λ i l u. h i (omega arith) (omega arith)))

-- The lowest of k bad numbers from n on.
pub record LowestBad (Bad : ℕ → Type 0) (n k : ℕ) : Type 0 where
  pub number : ℕ
  pub from : n ≤ number
  pub under : number < n + k
  pub bad : Bad number
  pub lower : (i : ℕ) → n ≤ i → i < number → Bad i → ⊥

-- None of them is bad.
abbrev NoneBad : (ℕ → Type 0) → ℕ → ℕ → Type 0
NoneBad Bad n k = (i : ℕ) → n ≤ i → i < n + k → Bad i → ⊥

module _ (f : ℕ → Verdict) (refuse : ℕ → Refusal) (Bad : ℕ → Type 0) (says : (i : ℕ) → Says (f i) (Bad i → ⊥) (λ r. (r ≡ refuse i) × Bad i)) where
  abbrev Low : ℕ → ℕ → Refusal → Type 0
  Low n k r = (x : LowestBad Bad n k) × (r ≡ refuse x.number)

  lowest-on : (n k : ℕ) (r : Refusal) → (((r ≡ refuse n) × Bad n) ⊎ ((Bad n → ⊥) × Low (suc n) k r)) ↔ Low n (suc k) r
  lowest-on n k r = (⊎_elim now on, λ h. back h (ℕ_discrete n h.0.number))
    where
      now : (r ≡ refuse n) × Bad n → Low n (suc k) r
      now h = (record { number = n; from = omega arith; under = omega arith; bad = h.1; lower = λ i l u. let z : ⊥ = omega arith in absurd z }, h.0)

      on : (Bad n → ⊥) × Low (suc n) k r → Low n (suc k) r
      on h = let x = h.1.0 in (
        record {
          number = x.number;
          from = omega arith;
          under = omega arith;
          bad = x.bad;
          lower = λ i l u. from-or (λ j. Bad j → ⊥) n i l h.0 (λ m. x.lower i m u);
        },
        h.1.1,
      )

      back : (h : Low n (suc k) r) → Dec (n ≡ h.0.number) → ((r ≡ refuse n) × Bad n) ⊎ ((Bad n → ⊥) × Low (suc n) k r)
      back h (yes e) = inl (h.1 ∙ ap refuse (sym e), subst Bad (sym e) h.0.bad)
      back h (no d) = let x = h.0 in inr (
        x.lower n (omega arith) (omega arith),
        (record { number = x.number; from = omega arith; under = omega arith; bad = x.bad; lower = λ i l u. x.lower i (omega arith) u }, h.1),
      )

  says-from : (n k : ℕ) → Says (each_name f n k) (NoneBad Bad n k) (Low n k)
  unfolding each_name
  says-from n zero = record { passed = (λ e i l u. let z : ⊥ = omega arith in absurd z, λ h. refl); refused = λ r. (λ e. passed-refused e, λ x. absurd (omega (arith, x.0.from, x.0.under))) }
  says-from n (suc k) = says-as (says-then (says n) (λ g. says-from (suc n) k)) none (lowest-on n k)
    where
      none : ((Bad n → ⊥) × NoneBad Bad (suc n) k) ↔ NoneBad Bad n (suc k)
      none = (
        λ h i l u. from-or (λ j. Bad j → ⊥) n i l h.0 (λ m. h.1 i m (omega arith)),
        λ h. (h n (omega arith) (omega arith), λ i l u. h i (omega arith) (omega arith)),
      )

  -- Where bad numbers stand below k, the lowest of all.
  pub says-names : (k : ℕ) → ((i : ℕ) → Bad i → i < k) →
      Says (each_name f 0 k) ((i : ℕ) → Bad i → ⊥) (λ r. (n : ℕ) × (r ≡ refuse n) × Bad n × ((m : ℕ) → m < n → Bad m → ⊥))
  says-names k below = says-as (says-from 0 k) (λ h i b. h i (omega arith) (omega (arith, below i b)) b, λ h i l u. h i) (λ r. (
    λ h. let x = h.0 in (x.number, h.1, x.bad, λ m l. x.lower m (omega arith) l),
    λ h. (record { number = h.0; from = omega arith; under = omega (arith, below h.0 h.2); bad = h.2; lower = λ i l u. h.3 i u }, h.1),
  ))

-- ---- Elements of which no two may have the same key

-- The numbers of a list differ, and none is among those seen before.
record Fresh (seen l : List ℕ) : Type 0 where
  distinct : Distinct l
  apart : (n : ℕ) → Memᴰ n l → Memᴰ n seen → ⊥

-- An element whose key stands among those seen or before it, where those before it are fresh.
record Again {A : Type 0} (key : A → ℕ) (seen : List ℕ) (l : List A) (a : A) : Type 0 where
  before : List A
  following : List A
  parts : l ≡ before ++ (a ∷ following)
  fresh : Fresh seen (map key before)
  known : Memᴰ (key a) seen ⊎ Memᴰ (key a) (map key before)

module _ {A : Type 0} (key : A → ℕ) (refuse : A → Refusal) where
  unfoldable pub repeats : List ℕ → List A → Verdict
  repeats seen [] = passes
  repeats seen (a ∷ l) = and_then (unless (not (member (key a) seen)) (refuse a)) (repeats (key a ∷ seen) l)

  -- none, and one that is new before others that are
  fresh-none : (seen : List ℕ) → Fresh seen []
  fresh-none seen = record { distinct = none; apart = λ n m. absurd (Memᴰ.not-nil m) }

  fresh-cons : (k : ℕ) (seen l : List ℕ) → ((Memᴰ k seen → ⊥) × Fresh (k ∷ seen) l) ↔ Fresh seen (k ∷ l)
  fresh-cons k seen l = (
    λ h. record {
      distinct = more (λ m. h.1.apart k m (Memᴰ.head refl)) h.1.distinct;
      apart = λ n m s. ⊎_elim (λ (q : n ≡ k). h.0 (Memᴰ.cast (sym q) s)) (λ i. h.1.apart n i (Memᴰ.tail s)) (Memᴰ.cases_cons m);
    },
    λ x. (
      x.apart k (Memᴰ.head refl),
      record {
        distinct = distinct-tail x.distinct;
        apart = λ n m s. ⊎_elim (λ (q : n ≡ k). distinct-head x.distinct (Memᴰ.cast (sym q) m)) (x.apart n (Memᴰ.tail m)) (Memᴰ.cases_cons s);
      },
    ),
  )

  abbrev Repeat : List ℕ → List A → Refusal → Type 0
  Repeat seen l r = (a : A) × (r ≡ refuse a) × Again key seen l a

  no-repeat : (seen : List ℕ) {a : A} {B : Type 0} → Again key seen [] a → B
  no-repeat seen {a} x = go x.before x.parts
    where
      go : {B : Type 0} (xs : List A) → [] ≡ xs ++ (a ∷ x.following) → B
      go [] e = let z : ◌≡◌ {A = ℕ} 0 1 = cc in absurd (omega arith)
      go (c ∷ xs) e = let z : ◌≡◌ {A = ℕ} 0 1 = cc in absurd (omega arith)

  repeat-cons : (seen : List ℕ) (b : A) (l : List A) (r : Refusal) →
      (((r ≡ refuse b) × Memᴰ (key b) seen) ⊎ ((Memᴰ (key b) seen → ⊥) × Repeat (key b ∷ seen) l r)) ↔ Repeat seen (b ∷ l) r
  repeat-cons seen b l r = (⊎_elim now after, λ h. let x = h.2 in back h.1 x.before x.following x.parts x.fresh x.known)
    where
      now : (r ≡ refuse b) × Memᴰ (key b) seen → Repeat seen (b ∷ l) r
      now h = (b, h.0, record { before = []; following = l; parts = refl; fresh = fresh-none seen; known = inl h.1 })

      known : {n : ℕ} (xs : List A) → Memᴰ n (key b ∷ seen) ⊎ Memᴰ n (map key xs) → Memᴰ n seen ⊎ Memᴰ n (key b ∷ map key xs)
      known xs (inl m) = elim (Memᴰ.cases_cons m) [ inl q ↦ inr (Memᴰ.head q) | inr k ↦ inl k ]
      known xs (inr m) = inr (Memᴰ.tail m)

      after : (Memᴰ (key b) seen → ⊥) × Repeat (key b ∷ seen) l r → Repeat seen (b ∷ l) r
      after h = let x = h.1.2 in (
        h.1.0,
        h.1.1,
        record {
          before = b ∷ x.before;
          following = x.following;
          parts = ap (λ (m : List A). b ∷ m) x.parts;
          fresh = (fresh-cons (key b) seen (map key x.before)).0 (h.0, x.fresh);
          known = known x.before x.known;
        },
      )

      unknown : {n : ℕ} (xs : List A) → Memᴰ n seen ⊎ Memᴰ n (key b ∷ map key xs) → Memᴰ n (key b ∷ seen) ⊎ Memᴰ n (map key xs)
      unknown xs (inl m) = inl (Memᴰ.tail m)
      unknown xs (inr m) = elim (Memᴰ.cases_cons m) [ inl q ↦ inl (Memᴰ.head q) | inr k ↦ inr k ]

      back : {a : A} → r ≡ refuse a → (xs ys : List A) → b ∷ l ≡ xs ++ (a ∷ ys) → Fresh seen (map key xs) → Memᴰ (key a) seen ⊎ Memᴰ (key a) (map key xs) →
          ((r ≡ refuse b) × Memᴰ (key b) seen) ⊎ ((Memᴰ (key b) seen → ⊥) × Repeat (key b ∷ seen) l r)
      back {a} q [] ys e x k =
          let p : a ≡ b = cc in inl (q ∙ ap refuse p, Memᴰ.cast (sym (ap key p)) (⊎_elim (λ m. m) (λ m. absurd (Memᴰ.not-nil m)) k))
      back {a} q (c ∷ xs) ys e x k =
          let p : c ≡ b = cc in
          let y = (fresh-cons (key b) seen (map key xs)).1 (rw p at x) in
          inr (y.0, (a, q, record { before = xs; following = ys; parts = cc; fresh = y.1; known = unknown xs (rw p at k) }))

  says-repeats-from : (seen : List ℕ) (l : List A) → Says (repeats seen l) (Fresh seen (map key l)) (Repeat seen l)
  unfolding repeats
  says-repeats-from seen [] = record { passed = (λ e. fresh-none seen, λ g. refl); refused = λ r. (λ e. passed-refused e, λ x. no-repeat seen x.2) }
  says-repeats-from seen (b ∷ l) =
      says-as (says-then (says-if (member (key b) seen) (refuse b) (member-says (key b) seen)) (λ g. says-repeats-from (key b ∷ seen) l))
      (fresh-cons (key b) seen (map key l)) (repeat-cons seen b l)

  unseen : {l : List ℕ} → Distinct l → Fresh [] l
  unseen d = record { distinct = d; apart = λ n m s. Memᴰ.not-nil s }

  pub says-repeats : (l : List A) → Says (repeats [] l) (Distinct (map key l)) (λ r. (a : A) × (r ≡ refuse a) × FirstRepeat key l a)
  says-repeats l = says-as (says-repeats-from [] l) (λ x. x.distinct, unseen) (λ r. (
    λ h. let x = h.2 in
        (h.0, h.1, record { before = x.before; following = x.following; parts = x.parts; distinct = x.fresh.distinct; again = ⊎_elim (λ m. absurd (Memᴰ.not-nil m)) (λ m. m) x.known }),
    λ h. let x = h.2 in
        (h.0, h.1, record { before = x.before; following = x.following; parts = x.parts; fresh = unseen x.distinct; known = inr x.again }),
  ))
