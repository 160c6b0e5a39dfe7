-- Adding up from two sides: the uses of each listed name, and for each site how many names are reachable from it. Assumes nothing.
--     kept-count, kept-once           what passes a test: how many, and each once
--     both-sums, counted-either-way   pairs that pass a test, by the first and by the second
--     once-length                     names that are listed once are so many
--     reaches-listed, many-unique     so many are reachable from a type: those of a list that its walk lists
--     together-made, together-unique  and from several together
use mathlib.Core.Path.{◌≡◌, refl, sym, ap, ap₂, subst, ◌∙◌}
use mathlib.Core.Bool.{Bool, true, false, cond}
use mathlib.Core.List.{List, [], ◌∷◌, Memᴰ}
use Prim.Native.Nat.{ℕ, ◌+◌}
use native.Mathlib.Omega.{arith}
use lib.ListN.{length}
use Rattle.std.specs.List.{sum_by, count_by}
use Rattle.std.proofs.lemmas.List.Sums.{sum_by-cons}
use Rattle.std.proofs.lemmas.List.Recursion.{is_count_by}
use Rattle.format.specs.Forest.{Forest}
use Rattle.format.specs.Node.{Node}
use Rattle.format.specs.Book.{Definition}
use Rattle.format.specs.Distinct.{Distinct, none, more}
use Rattle.format.proofs.Distinct.{pigeonhole}
use Rattle.judgement.specs.WellFormed.{Defined}
use Rattle.listing.specs.Chase.{chase_types}
use Rattle.listing.specs.References.{Reachable}
use Rattle.listing.specs.Room.{EachOnce}
use Rattle.listing.specs.Sites.{Site}
use Rattle.listing.specs.Uses.{is_listed, kept}
use Rattle.listing.specs.UseCounts.{ReachesMany, Together}
use Rattle.listing.specs.UseCounts as counted
use Rattle.listing.proofs.Uses.{EachSite, WalkLists, walk-says, kept-cons, kept-says}

-- ---- What passes a test
module _ {A : Type 0} (test : A → Bool) where
  pub kept-count : (l : List A) → length (kept test l) ≡ count_by test l
  unfolding kept
  kept-count = is_count_by (λ l. length (kept test l)) test refl (λ a l. one (test a) a l)
    where
      one : (b : Bool) (a : A) (l : List A) → length (cond b (a ∷ kept test l) (kept test l)) ≡ cond b (1 + length (kept test l)) (length (kept test l))
      one true a l = omega arith
      one false a l = refl

  kept-once : {l : List A} → Distinct l → Distinct (kept test l)
  unfolding kept
  kept-once none = none
  kept-once (more {a = a} {l = l} h d) =
      let rest = kept-once d in
      kept-cons test Distinct a l (λ t. more (λ m. h ((kept-says test l a).0 m).0) rest) (λ no. rest)

-- ---- Sums
module _ {A : Type 0} where
  no-sum : (l : List A) → sum_by (λ a. 0) l ≡ 0
  no-sum [] = refl
  no-sum (a ∷ l) = omega (arith, sum_by-cons (λ (a : A). 0) a l, no-sum l)

  both-sums : (f g : A → ℕ) (l : List A) → sum_by (λ a. f a + g a) l ≡ sum_by f l + sum_by g l
  both-sums f g [] = refl
  both-sums f g (a ∷ l) = omega (arith, sum_by-cons (λ a. f a + g a) a l, sum_by-cons f a l, sum_by-cons g a l, both-sums f g l)

-- Pairs that pass a test: counted by the first, and by the second.
pub counted-either-way : {A B : Type 0} (test : A → B → Bool) (k : List A) (l : List B) →
    sum_by (λ a. count_by (test a) l) k ≡ sum_by (λ b. count_by (λ a. test a b) k) l
counted-either-way test [] l = sym (no-sum l)
counted-either-way test (a ∷ k) l =
    sum_by-cons (λ a. count_by (test a) l) a k
    ∙ ap (λ n. count_by (test a) l + n) (counted-either-way test k l)
    ∙ sym (both-sums (λ b. cond (test a b) 1 0) (λ b. count_by (λ a. test a b) k) l)
    ∙ ap (λ f. sum_by f l) (λ i b. sym (sum_by-cons (λ a. cond (test a b) 1 0) a k) i)

-- ---- How many are reachable
once-length : {P : ℕ → Type 0} {k l : List ℕ} → EachOnce P k → EachOnce P l → length k ≡ length l
once-length {k = k} {l = l} x y =
    omega (arith, pigeonhole x.0 l (λ n m. (y.1 n).1 ((x.1 n).0 m)), pigeonhole y.0 k (λ n m. (x.1 n).1 ((y.1 n).0 m)))

-- Of a list, how many names the walk from a type lists.
abbrev pub listed_from : List Definition → List ℕ → Forest Node → ℕ
listed_from ds l t = count_by (λ n. is_listed n (chase_types ds t)) l

module _ {ds : List Definition} where
  many-unique : {t : Forest Node} {m n : ℕ} → ReachesMany ds t m → ReachesMany ds t n → m ≡ n
  many-unique x y = sym x.long ∙ once-length x.each y.each ∙ y.long

  pub together-unique : {all : List Site} {m n : ℕ} → Together ds all m → Together ds all n → m ≡ n
  together-unique counted.none counted.none = refl
  together-unique (counted.also x p) (counted.also y q) = ap₂ ◌+◌ (many-unique x y) (together-unique p q)

-- A list of definitions, which has all that are reachable.
module _ (ds : List Definition) (l : List ℕ) (once : Distinct l) (defined : (n : ℕ) → Memᴰ n l → Defined ds n) where
  abbrev Within : Forest Node → Type 0
  Within t = WalkLists ds t × ((n : ℕ) → Reachable ds t n → Memᴰ n l)

  reaches-listed : (t : Forest Node) → Within t → ReachesMany ds t (listed_from ds l t)
  reaches-listed t x =
      let test : ℕ → Bool = λ n. is_listed n (chase_types ds t) in
      record {
        names = kept test l;
        each = (
          kept-once test once,
          λ n. let k = kept-says test l n in let s = walk-says ds x.0 n in (λ m. let p = k.0 m in (s.0 p.1, defined n p.0), λ r. k.1 (x.1 n r.0, s.1 r.0)),
        );
        long = kept-count test l;
      }

  pub together-made : (all : List Site) → EachSite Within all → Together ds all (sum_by (λ s. listed_from ds l s.type) all)
  together-made [] h = counted.none
  together-made (s ∷ all) h =
      subst (Together ds (s ∷ all)) (sym (sum_by-cons (λ (s : Site). listed_from ds l s.type) s all))
      (counted.also (reaches-listed s.type (h s (Memᴰ.head refl))) (together-made all (λ r m. h r (Memᴰ.tail m))))
