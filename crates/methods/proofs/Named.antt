-- The names that are asked, and which of a book's names they are. Assumes nothing.
--     first-ended, none-ended     the first name is what stands before the first zero byte
--     joined-asked                names that have no zero byte are asked just as they are
--     among-says                  a name is asked
--     numbers-say, numbers-rise   the numbers are just those of names that are asked, ascending
--     Numbered, ..                the numbers so far
use mathlib.Core.Path.{◌≡◌, refl, sym, ap, subst, ◌∙◌}
use mathlib.Core.Logic.{◌↔◌, ◌⊎◌, inl, inr, ⊎_elim}
use mathlib.Core.Bool.{Bool, true, false, cond, ◌||◌, false≢true}
use mathlib.Core.List.Memᴰ
use mathlib.Core.List.{List, [], ◌∷◌, ◌++◌, append_assoc, append-nil, Memᴰ}
use Prim.Native.Nat.{ℕ, zero, suc, ◌+◌, ◌-◌, ◌≤◌, ◌<◌}
use native.Mathlib.Numerals.{add-one}
use native.Mathlib.Omega.{arith}
use borrow.Author.Tests.{ltb-true, ltb-false, ne_eqb}
use lib.Dec.{T, eqb, ltb}
use lib.ListN.{length, get_or, take, drop, length-append, length-drop}
use lib.Seq.{drop-cons, drop-length, take-length}
use Rattle.std.specs.Prelude.{Some, None}
use Rattle.std.specs.List.{position_or_len}
use Rattle.std.specs.Str.{bytes_eq}
use Rattle.std.proofs.lemmas.Slice.Eq.{bytes_eq-Decides}
use Rattle.format.specs.Book.{Book}
use Rattle.format.specs.Distinct.{Ascends}
use Rattle.format.specs.Layout.{whole, layout, read, name_in}
use Rattle.format.proofs.Logic.{is-true, of-true, clash}
use Rattle.format.proofs.Theorems.{found, read-encode}
use Rattle.book.specs.declared.kinds.Contents.{Contents}
use Rattle.book.specs.Reading.{reading}
use Rattle.book.proofs.Named.{book-of}
use Rattle.book.proofs.Named as named
use Rattle.book.proofs.Opened as opened
use Rattle.methods.specs.Asked.{names_after, ended, is_among, numbers_from}

-- ---- The names that bytes are
abbrev pub first_zero : List ℕ → ℕ
first_zero bs = position_or_len (λ b. eqb b 0) bs

later-zero : (b : ℕ) (bs : List ℕ) → first_zero (suc b ∷ bs) ≡ suc (first_zero bs)
later-zero b bs = let e : eqb (suc b) 0 ≡ false = ne_eqb (suc b) 0 (λ q. omega (arith, q)) in rw e (omega arith)

pub first-ended : (name bs : List ℕ) → first_zero bs < length bs →
    names_after name bs ≡ (name ++ take (first_zero bs) bs) ∷ ended (drop (first_zero bs + 1) bs)
unfolding names_after
first-ended name [] h = absurd (omega arith)
first-ended name (zero ∷ bs) h = rw (append-nil name)
first-ended name (suc b ∷ bs) h =
    let k = first_zero bs in
    let next = first-ended (name ++ (suc b ∷ [])) bs (omega (arith, h, later-zero b bs)) in
    rw (later-zero b bs, add-one (suc k)) (rw (add-one k, append_assoc name (suc b ∷ []) (take k bs)) at next)

pub none-ended : (name bs : List ℕ) → length bs ≤ first_zero bs → names_after name bs ≡ []
unfolding names_after
none-ended name [] h = refl
none-ended name (zero ∷ bs) h = absurd (omega arith)
none-ended name (suc b ∷ bs) h = none-ended (name ++ (suc b ∷ [])) bs (omega (arith, h, later-zero b bs))

-- The same of where the first zero byte is found.
found-some : {i j n : ℕ} → Some i ≡ cond (ltb j n) (Some j) None → (j < n) × (j ≡ i)
found-some {i} {j} {n} e = go (ltb j n) refl e
  where
    go : (t : Bool) → ltb j n ≡ t → Some i ≡ cond t (Some j) None → (j < n) × (j ≡ i)
    go true h e = (ltb-true j n h, cc)
    go false h e = clash cc

found-none : {j n : ℕ} → None ≡ cond (ltb j n) (Some j) None → n ≤ j
found-none {j} {n} e = go (ltb j n) refl e
  where
    go : (t : Bool) → ltb j n ≡ t → None ≡ cond t (Some j) None → n ≤ j
    go true h e = clash cc
    go false h e = ltb-false j n h

pub first-left : (bs : List ℕ) {i : ℕ} → Some i ≡ cond (ltb (first_zero bs) (length bs)) (Some (first_zero bs)) None →
    ended bs ≡ take i bs ∷ ended (take (length bs - (i + 1)) (drop (i + 1) bs))
first-left bs {i} e =
    let x = found-some e in
    let all : take (length bs - (i + 1)) (drop (i + 1) bs) ≡ drop (i + 1) bs = rw (← length-drop (i + 1) bs) (take-length (drop (i + 1) bs)) in
    rw all (subst (λ (j : ℕ). ended bs ≡ take j bs ∷ ended (drop (j + 1) bs)) x.1 (first-ended [] bs x.0))

pub none-left : (bs : List ℕ) → None ≡ cond (ltb (first_zero bs) (length bs)) (Some (first_zero bs)) None → ended bs ≡ []
none-left bs e = none-ended [] bs (found-none e)

-- Each ended by a zero byte.
unfoldable pub joined : List (List ℕ) → List ℕ
joined [] = []
joined (name ∷ names) = name ++ (0 ∷ joined names)

one-ended : (before name rest : List ℕ) → (Memᴰ 0 name → ⊥) → names_after before (name ++ (0 ∷ rest)) ≡ (before ++ name) ∷ ended rest
unfolding names_after
one-ended before [] rest h = rw (append-nil before)
one-ended before (zero ∷ name) rest h = absurd (h (Memᴰ.head refl))
one-ended before (suc b ∷ name) rest h =
    rw (one-ended (before ++ (suc b ∷ [])) name rest (λ m. h (Memᴰ.tail m)), append_assoc before (suc b ∷ []) name)

pub joined-asked : (names : List (List ℕ)) → ((name : List ℕ) → Memᴰ name names → Memᴰ 0 name → ⊥) → ended (joined names) ≡ names
unfolding joined names_after
joined-asked [] h = refl
joined-asked (name ∷ names) h =
    one-ended [] name (joined names) (h name (Memᴰ.head refl))
    ∙ ap (λ (l : List (List ℕ)). name ∷ l) (joined-asked names (λ one m. h one (Memᴰ.tail m)))

-- ---- Whether a name is asked
or-says : (a b : Bool) → T (a || b) ↔ (T a ⊎ T b)
or-says true b = (λ t. inl tt, λ x. tt)
or-says false b = (inr, ⊎_elim (λ t. absurd t) (λ t. t))

same-says : (a b : List ℕ) → T (bytes_eq a b) ↔ (a ≡ b)
same-says a b =
    let d = bytes_eq-Decides a b in (λ t. d.0 (is-true (bytes_eq a b) t), λ e. of-true (bytes_eq a b) (d.1 e))

pub among-says : (name : List ℕ) (asked : List (List ℕ)) → T (is_among name asked) ↔ Memᴰ name asked
among-says name [] = (λ (t : ⊥). absurd t, λ m. absurd (Memᴰ.not-nil m))
among-says name (one ∷ asked) =
    let either = or-says (bytes_eq one name) (is_among name asked) in
    let same = same-says one name in
    let below = among-says name asked in (
      λ t. ⊎_elim (λ h. Memᴰ.head (sym (same.0 h))) (λ h. Memᴰ.tail (below.0 h)) (either.0 t),
      λ m. either.1 (elim (Memᴰ.cases_cons m) [ inl e ↦ inl (same.1 (sym e)) | inr i ↦ inr (below.1 i) ]),
    )

-- ---- Which of a book's names are asked
module _ (asked : List (List ℕ)) where
  -- one name more
  numbers-cons : (n : ℕ) (name : List ℕ) (names : List (List ℕ)) {t : Bool} → is_among name asked ≡ t →
      numbers_from n (name ∷ names) asked ≡ cond t (n ∷ numbers_from (suc n) names asked) (numbers_from (suc n) names asked)
  unfolding numbers_from
  numbers-cons n name names e = rw e

  -- What is asked of number m, where the first name is number n.
  abbrev Stands : ℕ → List (List ℕ) → ℕ → Type 0
  Stands n names m = (i : ℕ) × (m ≡ n + i) × (i < length names) × Memᴰ (get_or names i []) asked

  stands-on : (n : ℕ) (name : List ℕ) (names : List (List ℕ)) {m : ℕ} → Stands (suc n) names m → Stands n (name ∷ names) m
  stands-on n name names x = (suc x.0, omega (arith, x.1), omega (arith, x.2), x.3)

  stands-cases : (n : ℕ) (name : List ℕ) (names : List (List ℕ)) {m : ℕ} → Stands n (name ∷ names) m → ((m ≡ n) × Memᴰ name asked) ⊎ Stands (suc n) names m
  stands-cases n name names (zero, e, h, k) = inl (omega (arith, e), k)
  stands-cases n name names (suc i, e, h, k) = inr (i, omega (arith, e), omega (arith, h), k)

  numbers-stand : (n : ℕ) (names : List (List ℕ)) (m : ℕ) → Memᴰ m (numbers_from n names asked) ↔ Stands n names m
  unfolding numbers_from
  numbers-stand n [] m = (λ i. absurd (Memᴰ.not-nil i), λ x. absurd (omega (arith, x.2)))
  numbers-stand n (name ∷ names) m = go (is_among name asked) refl (numbers-stand (suc n) names m)
    where
      go : (t : Bool) → is_among name asked ≡ t → Memᴰ m (numbers_from (suc n) names asked) ↔ Stands (suc n) names m →
          Memᴰ m (cond t (n ∷ numbers_from (suc n) names asked) (numbers_from (suc n) names asked)) ↔ Stands n (name ∷ names) m
      go true e below = (
        λ i. ⊎_elim (λ (q : m ≡ n). (0, omega (arith, q), omega arith, (among-says name asked).0 (of-true (is_among name asked) e)))
            (λ j. stands-on n name names (below.0 j)) (Memᴰ.cases_cons i),
        λ x. elim (stands-cases n name names x) [ inl y ↦ Memᴰ.head y.0 | inr y ↦ Memᴰ.tail (below.1 y) ],
      )
      go false e below = (
        λ i. stands-on n name names (below.0 i),
        λ x. elim (stands-cases n name names x) [
          | inl y ↦ absurd (false≢true (sym e ∙ is-true (is_among name asked) ((among-says name asked).1 y.1)))
          | inr y ↦ below.1 y
        ],
      )

  rise-from : (n : ℕ) (names : List (List ℕ)) → Ascends (numbers_from n names asked)
  unfolding numbers_from
  rise-from n [] = tt
  rise-from n (name ∷ names) = go (is_among name asked) (rise-from (suc n) names)
    where
      go : (t : Bool) → Ascends (numbers_from (suc n) names asked) → Ascends (cond t (n ∷ numbers_from (suc n) names asked) (numbers_from (suc n) names asked))
      go true below = (λ m i. let x = (numbers-stand (suc n) names m).0 i in omega (arith, x.1), below)
      go false below = below

  -- The numbers are just those of names that are asked, ascending.
  pub numbers-say : (names : List (List ℕ)) (n : ℕ) → Memᴰ n (numbers_from 0 names asked) ↔ ((n < length names) × Memᴰ (get_or names n []) asked)
  numbers-say names n =
      let s = numbers-stand 0 names n in (
        λ i. let x = s.0 i in let e : x.0 ≡ n = omega (arith, x.1) in (omega (arith, x.2, e), subst (λ (k : ℕ). Memᴰ (get_or names k []) asked) e x.3),
        λ x. s.1 (n, omega arith, x.0, x.1),
      )

  pub numbers-rise : (names : List (List ℕ)) → Ascends (numbers_from 0 names asked)
  numbers-rise names = rise-from 0 names

  -- ---- The numbers so far: what is left stands behind them
  pub record Numbered (names : List (List ℕ)) (n : ℕ) (numbers : List ℕ) : Type 0 where
    pub is : numbers ++ numbers_from n (drop n names) asked ≡ numbers_from 0 names asked
    pub few : length numbers ≤ n

  pub numbered-none : (names : List (List ℕ)) → Numbered names 0 []
  numbered-none names = record { is = refl; few = omega arith }

  module _ {names : List (List ℕ)} {n : ℕ} {numbers : List ℕ} (x : Numbered names n numbers) where
    next : {t : Bool} → n < length names → is_among (get_or names n []) asked ≡ t →
        numbers_from n (drop n names) asked
        ≡ cond t (n ∷ numbers_from (n + 1) (drop (n + 1) names) asked) (numbers_from (n + 1) (drop (n + 1) names) asked)
    next h e = rw (drop-cons names n [] h, add-one n) (numbers-cons n (get_or names n []) (drop (suc n) names) e)

    numbered-on : n < length names → is_among (get_or names n []) asked ≡ true → Numbered names (n + 1) (numbers ++ (n ∷ []))
    numbered-on h e = record {
      is = append_assoc numbers (n ∷ []) (numbers_from (n + 1) (drop (n + 1) names) asked) ∙ (rw (next h e) at x.is);
      few = omega (arith, x.few, length-append numbers (n ∷ []));
    }

    numbered-same : n < length names → is_among (get_or names n []) asked ≡ false → Numbered names (n + 1) numbers
    numbered-same h e = record { is = rw (next h e) at x.is; few = omega (arith, x.few) }

    pub numbered-step : {t : Bool} {more : List ℕ} → n < length names → is_among (get_or names n []) asked ≡ t →
        more ≡ cond t (numbers ++ (n ∷ [])) numbers → Numbered names (n + 1) more
    numbered-step {t} h e f = rw f (go t e)
      where
        go : (t : Bool) → is_among (get_or names n []) asked ≡ t → Numbered names (n + 1) (cond t (numbers ++ (n ∷ [])) numbers)
        go true e = numbered-on h e
        go false e = numbered-same h e

    pub numbered-all : n ≡ length names → numbers ≡ numbers_from 0 names asked
    unfolding numbers_from
    numbered-all e = sym (append-nil numbers) ∙ (rw (e, drop-length names) at x.is)

-- Nothing asked, no number.
pub none-numbered : (n : ℕ) (names : List (List ℕ)) → numbers_from n names [] ≡ []
unfolding numbers_from
none-numbered n [] = refl
none-numbered n (name ∷ names) = none-numbered (suc n) names

-- ---- The names of a book that bytes are
pub read-is : (bs : List ℕ) (b : Book) → layout bs ≡ whole b → read bs ≡ b
read-is bs b e = let f = (found bs b).0 e in ap read (sym f.1) ∙ read-encode b f.0

module _ (bs : List ℕ) {c : Contents} (laid : Some c ≡ reading bs) where
  pub names-count : c.names ≡ length (read bs).names
  names-count = let a = book-of bs c laid in opened.names-count a ∙ ap (λ (b : Book). length b.names) (sym (read-is bs a.book a.laid))

  pub names-few : c.names ≤ 1024
  names-few = named.names-few (book-of bs c laid)

  pub name-is : (n : ℕ) → name_in bs n ≡ get_or (read bs).names n []
  unfolding name_in
  name-is n = let a = book-of bs c laid in rw (read-is bs a.book a.laid, a.laid)
