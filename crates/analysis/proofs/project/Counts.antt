-- The asked names of a projection as counts. Assumes nothing.
--     counts-start, counts-name, counts-other, counts-end   counting a list
--     member-none, member-some             whether a name is still asked for
--     asking-shrunk                        one asked name less
--     farthest-is, lowest-is               the lowest number that is no name, and the lowest one still asked for
use mathlib.Core.Path.{◌≡◌, refl, sym, ap, ◌∙◌}
use mathlib.Core.Bool.{Bool, true, false, cond}
use mathlib.Core.List.{List, [], ◌∷◌}
use Prim.Native.Nat.{ℕ, zero, suc, ◌+◌, ◌-◌, ◌≤◌, ◌<◌}
use native.Mathlib.Decide.{ℕ_discrete, dec_lt}
use native.Mathlib.Nat.{pos_of_ne-zero}
use native.Mathlib.Numerals.{add-one}
use native.Mathlib.Omega.{arith}
use lib.Dec.{T, leb}
use lib.ListN.{length, get_or, set, drop, replicate, length-set, length-replicate, get_or-replicate, drop_of_length-le}
use lib.Seq.{drop-cons, get_or-set_same, get_or-set_other}
use Rattle.std.specs.Prelude.{Option, Some, None}
use Rattle.std.specs.Option.{option_or}
use Rattle.std.specs.List.{Contains}
use Rattle.std.proofs.lemmas.Bool.{leb-true, le-leb}
use Rattle.judgement.specs.Check.{member}
use Rattle.listing.specs.Project.{one, times, without, shrink, lowest, left_over}
use Rattle.listing.proofs.Project.{one-same, one-other, member-times, without-times, shrink-times, listed-times, lowest-least, lowest-listed}
use Rattle.analysis.specs.Projecting.{FarthestAs, far_numbers, LowestFar, FirstLeft, Asking, outcome_of}

-- ---- How often a name stands in a list
times-cons : (n m : ℕ) (l : List ℕ) → times n (m ∷ l) ≡ one n m + times n l
unfolding times
times-cons n m l = refl

one-most : (n m : ℕ) → one n m ≤ 1
one-most n m = elim (ℕ_discrete n m) [ yes e ↦ omega (arith, one-same n m e) | no h ↦ omega (arith, one-other n m h) ]

times-length : (n : ℕ) (l : List ℕ) → times n l ≤ length l
unfolding times
times-length n [] = omega arith
times-length n (m ∷ l) = omega (arith, one-most n m, times-length n l)

-- Taking a name out of the list takes it once.
shrunk-times : (n : ℕ) (l : List ℕ) (k : ℕ) → times k (cond (member n l) (without n l) l) ≡ times k l - one k n
unfolding shrink
shrunk-times n l k = shrink-times without without-times n l k

-- A name less leaves the other numbers.
farther : (n : ℕ) (l : List ℕ) → n < 1024 → (far : Option ℕ) → FarthestAs far l → FarthestAs far (cond (member n l) (without n l) l)
farther n l h None a = λ m k s. a m k (omega (arith, shrunk-times n l m))
farther n l h (Some f) a = (
  a.0,
  omega (arith, a.1, shrunk-times n l f, one-other f n (λ e. absurd (omega (arith, a.0)))),
  λ m k s. a.2 m k (omega (arith, shrunk-times n l m)),
)

-- ---- Names that are asked for
module _ {left : List ℕ} {far : Option ℕ} {l : List ℕ} (a : Asking left far l) {n : ℕ} (h : n < 1024) where
  pub member-none : get_or left n 0 ≡ 0 → member n l ≡ false
  member-none e = go (member n l) (member-times n l).0
    where
      go : (b : Bool) → (T b → 0 < times n l) → b ≡ false
      go true t = let z : ⊥ = omega (arith, t tt, a.counted n h) in absurd z
      go false t = refl

  pub member-some : (get_or left n 0 ≡ 0 → ⊥) → member n l ≡ true
  member-some e = go (member n l) (member-times n l).1
    where
      go : (b : Bool) → (0 < times n l → T b) → b ≡ true
      go true t = refl
      go false t = absurd (t (pos_of_ne-zero (λ z. e (a.counted n h ∙ z))))

  pub asking-shrunk : {left' : List ℕ} → ((m : ℕ) → m < 1024 → get_or left' m 0 ≡ get_or left m 0 - one m n) → Asking left' far (cond (member n l) (without n l) l)
  asking-shrunk q =
      record {
        counted = λ m k. omega (arith, q m k, a.counted m k, shrunk-times n l m);
        farthest = farther n l h far a.farthest;
      }

-- the counts where a name is not asked for, and where it is asked for once less
pub same-counts : (left : List ℕ) (n : ℕ) → get_or left n 0 ≡ 0 → (m : ℕ) → get_or left m 0 ≡ get_or left m 0 - one m n
same-counts left n e m =
    elim (ℕ_discrete m n) [
      | yes q ↦ rw (one-same m n q, q, e)
      | no q ↦ omega (arith, one-other m n q)
    ]

pub less-counts : (left : List ℕ) (n : ℕ) → n < length left → (m : ℕ) → get_or (set left n (get_or left n 0 - 1)) m 0 ≡ get_or left m 0 - one m n
less-counts left n h m =
    elim (ℕ_discrete m n) [
      | yes q ↦ rw (one-same m n q, q) (get_or-set_same left n (get_or left n 0 - 1) 0 h)
      | no q ↦ get_or-set_other left n m (get_or left n 0 - 1) 0 q ∙ omega (arith, one-other m n q)
    ]

-- ---- Counting a list: the numbers from i on are still to be counted
pub record CountsLeft (list left : List ℕ) (i : ℕ) : Type 0 where
  pub long : length left ≡ 1024
  pub counted : (n : ℕ) → n < 1024 → get_or left n 0 + times n (drop i list) ≡ times n list

pub counts-start : (list : List ℕ) → CountsLeft list (replicate 1024 0) 0
counts-start list =
    record { long = length-replicate {A = ℕ} 1024 0; counted = λ n h. omega (arith, get_or-replicate {A = ℕ} 1024 n 0 0 h) }

module _ {list left : List ℕ} {i : ℕ} (a : CountsLeft list left i) where
  module _ (h : i < length list) where
    -- the number at i, and those after it
    here : (m : ℕ) → times m (drop i list) ≡ one m (get_or list i 0) + times m (drop (i + 1) list)
    here m =
        ap (times m) (drop-cons list i 0 h) ∙ times-cons m (get_or list i 0) (drop (suc i) list)
        ∙ ap (λ (j : ℕ). one m (get_or list i 0) + times m (drop j list)) (sym (add-one i))

    pub counts-few : (n : ℕ) → n < 1024 → get_or left n 0 ≤ length list
    counts-few n k = omega (arith, a.counted n k, times-length n list)

    pub counts-other : 1024 ≤ get_or list i 0 → CountsLeft list left (i + 1)
    counts-other o =
        record { long = a.long; counted = λ m k. omega (arith, a.counted m k, here m, one-other m (get_or list i 0) (λ e. absurd (omega arith))) }

    pub counts-name : get_or list i 0 < 1024 → CountsLeft list (set left (get_or list i 0) (get_or left (get_or list i 0) 0 + 1)) (i + 1)
    counts-name s =
        let n = get_or list i 0 in
        record {
          long = length-set left n (get_or left n 0 + 1) ∙ a.long;
          counted = λ m k. omega (arith, a.counted m k, here m, more m (ℕ_discrete m n));
        }
      where
        more : (m : ℕ) → Dec (m ≡ get_or list i 0) → get_or (set left (get_or list i 0) (get_or left (get_or list i 0) 0 + 1)) m 0 ≡ get_or left m 0 + one m (get_or list i 0)
        more m (yes q) = rw (one-same m (get_or list i 0) q, q) (get_or-set_same left (get_or list i 0) (get_or left (get_or list i 0) 0 + 1) 0 (omega (arith, a.long)))
        more m (no q) = get_or-set_other left (get_or list i 0) m (get_or left (get_or list i 0) 0 + 1) 0 q ∙ omega (arith, one-other m (get_or list i 0) q)

  pub counts-end : length list ≤ i → (n : ℕ) → n < 1024 → get_or left n 0 ≡ times n list
  unfolding times
  counts-end h n k = omega (arith, a.counted n k, ap (times n) (drop_of_length-le list {i = i} h))

-- ---- The lowest number that is no name
-- a number that is none stands among those of the list that are none
kept-on : (b : Bool) (m : ℕ) (ms : List ℕ) (n : ℕ) → Contains ms n → Contains (cond b (m ∷ ms) ms) n
kept-on true m ms n c = (suc c.0, omega (arith, c.1), c.2)
kept-on false m ms n c = c

far-in : (n : ℕ) → 1024 ≤ n → (l : List ℕ) → 0 < times n l → Contains (far_numbers l) n
far-in n h [] s = absurd (omega (arith, times-length n []))
far-in n h (m ∷ l) s =
    elim (ℕ_discrete n m) [
      | yes e ↦ rw (le-leb 1024 m (omega arith)) (0, omega arith, sym e)
      | no e ↦ kept-on (leb 1024 m) m (far_numbers l) n (far-in n h l (omega (arith, times-cons n m l, one-other n m e)))
    ]

far-out : (n : ℕ) (l : List ℕ) → Contains (far_numbers l) n → (1024 ≤ n) × (0 < times n l)
far-out n [] c = absurd (omega (arith, c.1))
far-out n (m ∷ l) c = go (leb 1024 m) (leb-true 1024 m) (λ d. far-out n l d) c
  where
    go : (b : Bool) → (b ≡ true → 1024 ≤ m) → (Contains (far_numbers l) n → (1024 ≤ n) × (0 < times n l)) → Contains (cond b (m ∷ far_numbers l) (far_numbers l)) n →
        (1024 ≤ n) × (0 < times n (m ∷ l))
    go true t later (zero, lt, is) = (omega (arith, t refl), omega (arith, times-cons n m l, one-same n m (sym is)))
    go true t later (suc k, lt, is) = let r = later (k, omega arith, is) in (r.0, omega (arith, r.1, times-cons n m l))
    go false t later c = let r = later c in (r.0, omega (arith, r.1, times-cons n m l))

pub farthest-is : (l : List ℕ) (r : Option ℕ) → LowestFar r l → FarthestAs r l
farthest-is l None q = λ n h s. let c = far-in n h l s in absurd (omega (arith, c.1))
farthest-is l (Some f) q =
    let r = far-out f l q.0 in
    (r.0, r.1, λ n h s. let c = far-in n h l s in omega (arith, q.1 c.0 n c.1, c.2))

-- ---- The lowest number still asked for
lowest-none : (l : List ℕ) → ((m : ℕ) → 0 < times m l → ⊥) → (taken : List ℕ) → left_over l taken ≡ outcome_of None taken
unfolding left_over
lowest-none [] none taken = refl
lowest-none (n ∷ l) none taken = absurd (none n (omega (arith, times-cons n n l, one-same n n refl)))

lowest-some : (l : List ℕ) (r : ℕ) → 0 < times r l → ((m : ℕ) → 0 < times m l → r ≤ m) → (taken : List ℕ) → left_over l taken ≡ outcome_of (Some r) taken
unfolding left_over
lowest-some [] r some least taken = absurd (omega (arith, times-length r []))
lowest-some (n ∷ l) r some least taken =
    let low = lowest n l in
    let k = (listed-times low (n ∷ l)).0 (lowest-listed n l) in
    let e : low ≡ r = omega (arith, least low k, lowest-least n l r ((listed-times r (n ∷ l)).1 some)) in
    rw e

-- the first name that is left, or where there is none the number that is no name
pub lowest-is : (left : List ℕ) (first far : Option ℕ) → FirstLeft left first → (l : List ℕ) → Asking left far l → (taken : List ℕ) → left_over l taken ≡ outcome_of (option_or first far) taken
lowest-is left (Some r) far q l a taken =
    lowest-some l r (omega (arith, a.counted r q.0, pos_of_ne-zero q.1))
    (λ m s. elim (dec_lt m r) [ yes h ↦ absurd (omega (arith, a.counted m (omega (arith, q.0)), q.2 m h)) | no h ↦ omega arith ]) taken
lowest-is left None (Some f) q l a taken =
    lowest-some l f a.farthest.1
    (λ m s. elim (dec_lt m 1024) [ yes h ↦ absurd (omega (arith, a.counted m h, q m h)) | no h ↦ a.farthest.2 m (omega arith) s ]) taken
lowest-is left None None q l a taken =
    lowest-none l (λ m s. elim (dec_lt m 1024) [ yes h ↦ omega (arith, a.counted m h, q m h) | no h ↦ a.farthest m (omega arith) s ]) taken
