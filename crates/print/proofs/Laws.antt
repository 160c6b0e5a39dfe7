-- What the definitions come to: a text that fits is laid whole, how long a quoted name can be, that a number's digits are that number, that
-- a name, a number and a dash differ, and examples by computation. Assumes nothing.
use mathlib.Core.Path.{◌≡◌, refl, ap, ◌∙◌}
use mathlib.Core.Bool.{Bool, true, false, cond}
use mathlib.Core.List.{List, [], ◌∷◌, ◌++◌}
use Prim.Native.Nat.{ℕ, zero, suc, ◌+◌, ◌-◌, ◌*◌, ◌/◌, ◌%◌, ◌^◌, ◌≤◌, ◌<◌}
use native.Mathlib.Nat.{pow-succ'}
use native.Mathlib.Decide.{dec_lt}
use native.Mathlib.Omega.{arith}
use borrow.Author.Tests.{lt-ltb, le-ltb}
use lib.Dec.{T}
use lib.ListN.{length, get_or, take, drop, length-append}
use lib.Seq.{sets-eq}
use Rattle.refusals.specs.declared.Refusal.TheVariants.{Broken, Unbound, Circle, Absent}
use Rattle.format.specs.Fits.{every, is_name}
use Rattle.format.specs.Layout.{Layout, broken, whole, layout, name_in}
use Rattle.format.proofs.Encoded.{fit-parts}
use Rattle.format.proofs.Logic.{says}
use Rattle.format.proofs.Theorems.{found}
use Rattle.print.specs.Ascii.{ascii}
use Rattle.print.specs.Laid.{over, Laid}
use Rattle.print.specs.Quoted.{plain, hex_digit, escape, escapes, quoted}
use Rattle.print.specs.Decimal.{digit, digits, decimal, value_from}
use Rattle.print.specs.Refused.{in_table, name_or_number, named_or_dash, refusal_of}

-- Where the buffer has room for a text, all of it stands between what was there before and after.
pub laid-whole : {text old new : List ℕ} {at next : ℕ} → Laid text old at next new → at + length text ≤ length old
    → (next ≡ at + length text) × (new ≡ take at old ++ text ++ drop (at + length text) old)
unfolding over
laid-whole {text} {old} {new} {at} p h = (omega (arith, p.place), p.bytes ∙ sets-eq text old at h)

-- A byte prints as three at most. So a name of 255 bytes takes at most 767.
cond-length : (t : Bool) (x y : List ℕ) → length x ≤ 3 → length y ≤ 3 → length (cond t x y) ≤ 3
cond-length true x y h k = h
cond-length false x y h k = k

escapes-length : (name : List ℕ) → length (escapes name) ≤ 3 * length name
unfolding escapes escape
escapes-length [] = omega arith
escapes-length (b ∷ name) =
    omega (arith, length-append (escape b) (escapes name), escapes-length name, cond-length (plain b) (b ∷ []) (92 ∷ hex_digit (b / 16) ∷ hex_digit (b % 16) ∷ []) (omega arith) (omega arith))

pub quoted-length : (name : List ℕ) → length (quoted name) ≤ 3 * length name + 2
unfolding quoted
quoted-length name = omega (arith, length-append (escapes name) (34 ∷ []), escapes-length name)

-- A name of a book has at most 255 bytes.
names-short : (names : List (List ℕ)) (n : ℕ) → T (every is_name names) → length (get_or names n []) ≤ 255
unfolding every is_name
names-short [] n h = omega arith
names-short (a ∷ names) zero h = (simp says at h).0.0
names-short (a ∷ names) (suc n) h = names-short names n (simp says at h).1

pub name-length : (bs : List ℕ) (n : ℕ) → length (name_in bs n) ≤ 255
unfolding name_in
name-length bs n = go (layout bs) refl
  where
    go : (l : Layout) → layout bs ≡ l → length (name_in bs n) ≤ 255
    go broken e = rw e (omega arith)
    go (whole b) e = rw e (names-short b.names n (fit-parts ((found bs b).0 e).0).names)

pub quoted-example : quoted (ascii "a \"\\~" ++ (127 ∷ 0 ∷ 255 ∷ [])) ≡ ascii "\"a \\22\\5c~\\7f\\00\\ff\""
unfolding quoted escapes escape plain hex_digit
quoted-example = refl

-- The last digit alone, and after others.
pub digits-one : (k n : ℕ) → n < 10 → digits (suc k) n ≡ digit n ∷ []
unfolding digits
digits-one k n h = rw (lt-ltb n 10 h)

pub digits-more : (k n : ℕ) → 10 ≤ n → digits (suc k) n ≡ digits k (n / 10) ++ (digit n ∷ [])
unfolding digits
digits-more k n h = rw (le-ltb n 10 h)

-- A number below 10 to the power j + 1 has at most j + 1 digits.
digits-few : (j k n : ℕ) → n < 10 ^ suc j → length (digits k n) ≤ suc j
unfolding digits
digits-few j zero n h = omega arith
digits-few j (suc k) n h = go j (dec_lt n 10) h λ (i : ℕ). digits-few i k (n / 10)
  where
    go : (i : ℕ) → Dec (n < 10) → n < 10 ^ suc i → ((i : ℕ) → n / 10 < 10 ^ suc i → length (digits k (n / 10)) ≤ suc i) → length (digits (suc k) n) ≤ suc i
    go i (yes l) g e = rw (digits-one k n l) (omega arith)
    go zero (no l) g e = absurd (l g)
    go (suc i) (no l) g e =
        rw (digits-more k n (omega arith))
        (omega (arith, length-append (digits k (n / 10)) (digit n ∷ []), e i (let h : n < 10 * 10 ^ suc i = rw (pow-succ' 10 (suc i)) at g in omega arith)))

pub decimal-length : (j n : ℕ) → n < 10 ^ suc j → length (decimal n) ≤ suc j
unfolding decimal
decimal-length j n h = digits-few j (suc n) n h

value_from-last : (n : ℕ) (ds : List ℕ) (d : ℕ) → value_from n (ds ++ (d ∷ [])) ≡ value_from n ds * 10 + (d - 48)
unfolding value_from
value_from-last n [] d = refl
value_from-last n (e ∷ ds) d = value_from-last (n * 10 + (e - 48)) ds d

digits-value : (k n : ℕ) → n < k → value_from 0 (digits k n) ≡ n
unfolding value_from digit
digits-value zero n h = absurd (omega arith)
digits-value (suc k) n h = go (dec_lt n 10) λ (l : 10 ≤ n). digits-value k (n / 10) (omega arith)
  where
    go : Dec (n < 10) → (10 ≤ n → value_from 0 (digits k (n / 10)) ≡ n / 10) → value_from 0 (digits (suc k) n) ≡ n
    go (yes l) e = rw (digits-one k n l) (omega arith)
    go (no l) e =
        let ten : 10 ≤ n = omega arith in
        rw (digits-more k n ten, value_from-last 0 (digits k (n / 10)) (digit n)) (omega (arith, e ten))

-- A number's digits are that number.
pub decimal-value : (n : ℕ) → value_from 0 (decimal n) ≡ n
unfolding decimal
decimal-value n = digits-value (suc n) n (omega arith)

pub decimal-example : decimal 40960 ≡ ascii "40960"
unfolding decimal digits digit
decimal-example = refl

-- ---- What a refusal names
-- The first digit is none of a quote and a dash.
first-before : (l : List ℕ) (d : ℕ) → 48 ≤ get_or l 0 48 → 48 ≤ d → 48 ≤ get_or (l ++ (d ∷ [])) 0 48
first-before [] d h k = k
first-before (e ∷ l) d h k = h

digits-first : (k n : ℕ) → 48 ≤ get_or (digits k n) 0 48
unfolding digits digit
digits-first zero n = omega arith
digits-first (suc k) n = go (dec_lt n 10) (digits-first k (n / 10))
  where
    go : Dec (n < 10) → 48 ≤ get_or (digits k (n / 10)) 0 48 → 48 ≤ get_or (digits (suc k) n) 0 48
    go (yes l) e = rw (digits-one k n l) (omega arith)
    go (no l) e = rw (digits-more k n (omega arith)) (first-before (digits k (n / 10)) (digit n) e (omega arith))

-- So a name, a number and a dash are never mistaken for one another.
pub name-no-number : (name : List ℕ) (n : ℕ) → quoted name ≡ decimal n → ⊥
unfolding quoted decimal
name-no-number name n e = omega (arith, digits-first (suc n) n, ap (λ (l : List ℕ). get_or l 0 48) e)

pub named-no-dash : (bs : List ℕ) (n : ℕ) → name_or_number bs n ≡ ascii "-" → ⊥
unfolding name_or_number quoted decimal
named-no-dash bs n e = go (in_table bs n) (ap (λ (l : List ℕ). get_or l 0 48) e)
  where
    go : (t : Bool) → get_or (cond t (quoted (name_in bs n)) (decimal n)) 0 48 ≡ 45 → ⊥
    go true f = omega arith
    go false f = omega (arith, digits-first (suc n) n)

-- A number from 1,024 on is outside every table.
pub number-outside : (bs : List ℕ) (n : ℕ) → 1024 ≤ n → name_or_number bs n ≡ decimal n
unfolding in_table name_or_number
number-outside bs n h = go (layout bs) refl
  where
    go : (l : Layout) → layout bs ≡ l → name_or_number bs n ≡ decimal n
    go broken e = rw e
    go (whole b) e = rw (e, le-ltb n (length b.names) (omega (arith, (fit-parts ((found bs b).0 e).0).few_names)))

-- So what is named takes at most as many bytes as a name.
pub named-length : (bs : List ℕ) (n : ℕ) → n < 65536 → length (name_or_number bs n) < 768
unfolding name_or_number
named-length bs n h = go (in_table bs n)
  where
    go : (t : Bool) → length (cond t (quoted (name_in bs n)) (decimal n)) < 768
    go true = omega (arith, quoted-length (name_in bs n), name-length bs n)
    go false = omega (arith, decimal-length 4 n (omega arith))

-- A refusal without a name, document 01's P3, and numbers that are no names.
pub refused-nothing : (bs : List ℕ) → refusal_of bs Broken ≡ ascii "refused 1 -\n"
unfolding refusal_of named_or_dash decimal digits digit
refused-nothing bs = refl

pub refused-name : (bs : List ℕ) → in_table bs 0 ≡ true → name_in bs 0 ≡ ascii "a" → refusal_of bs (Circle 0) ≡ ascii "refused 7 \"a\"\n"
unfolding refusal_of named_or_dash name_or_number decimal digits digit quoted escapes escape plain
refused-name bs t e = rw (t, e)

pub refused-outside : (bs : List ℕ) → (refusal_of bs (Absent 1024) ≡ ascii "refused 15 1024\n") × (refusal_of bs (Unbound 65535) ≡ ascii "refused 3 65535\n")
unfolding refusal_of named_or_dash decimal digits digit
refused-outside bs = (rw (number-outside bs 1024 (omega arith)), rw (number-outside bs 65535 (omega arith)))
