-- What the header reads in a code, and that codes that are read alike are of the same verdict or answer. Assumes, where a code is read, that
-- the name and the entries are below the unit of the row: the functions know it of names by their types, and ask it of entries.
--     refusal-read, crossed-read             a refusal, and an alias chain, is read
--     answer-settled, uses-settled, ..       answers that are read alike are the same
--     verdict-settled                        and verdicts, where one is not refused with row 16
use mathlib.Core.Path.{◌≡◌, refl, sym, ap, ◌∙◌}
use mathlib.Core.Logic.{inl, inr}
use mathlib.Core.Bool.{Bool, true, false}
use Rattle.std.specs.Prelude.{Ok, Err}
use Rattle.std.proofs.lemmas.Bool.{false≢true}
use Prim.Native.Nat.{ℕ, ◌+◌, ◌*◌, ◌/◌, ◌%◌, ◌≤◌, ◌<◌}
use native.Mathlib.Nat.{add-zero, div-eq_of_lt, mod-eq_of_lt, mul-add-div_right, mul-add-mod_self_right}
use native.Mathlib.Decide.{ℕ_discrete}
use native.Mathlib.Omega.{arith}
use Rattle.refusals.specs.declared.Count.TheVariants.{Exactly, Many}
use Rattle.refusals.specs.declared.Crossed.{Crossed}
use Rattle.refusals.specs.declared.Refusal.{Refusal}
use Rattle.refusals.specs.declared.Refusal.TheVariants.{Short}
use Rattle.refusals.specs.Verdict.{Verdict}
use Rattle.refusals.specs.Refusal.{number_of, name_of, needed_of}
use Rattle.refusals.specs.Handed.{Answer, AliasAnswer, CountAnswer}
use Rattle.refusals.proofs.Refusals.{number-some, needed-short, row-short, row-settles}
use Rattle.codes.specs.Coded.{low_of, refusal_in, name_in, entries_in, uses_refusal_in, uses_name_in, uses_entries_in, alias_names_in, alias_last_in, SaysVerdict, SaysWhy, SaysAnswer, values_many_in, values_refusal_in, values_number_in, SaysAlias, SaysCount, ReadVerdict, ReadAnswer, ReadUses, ReadAlias, ReadCount}
use Rattle.codes.proofs.Codes.{low-needed, low-name}

-- ---- The high and the low part of a number
high : (unit number low : ℕ) → low < unit → (number * unit + low) / unit ≡ number
high unit number low h = mul-add-div_right (omega arith) number low ∙ rw (div-eq_of_lt h) (add-zero number)

lower : (unit number low : ℕ) → low < unit → (number * unit + low) % unit ≡ low
lower unit number low h = mul-add-mod_self_right number unit low ∙ mod-eq_of_lt h

-- ---- A refusal in the place of an answer
pub refusal-read : (unit : ℕ) {a : Answer} {why : Refusal} {number low : ℕ} → a ≡ Err why → number ≡ number_of why → low ≡ low_of why → low < unit →
    let code = number * unit + low in SaysAnswer a (code / unit) (code % unit) (code % unit)
refusal-read unit {why = why} {number = number} {low = low} e f g h =
    let r = high unit number low h ∙ f in
    let l = lower unit number low h ∙ g in
    rw e (record {
      some = omega (arith, number-some why);
      number = r;
      name = λ n. l ∙ low-name why (λ s. n (r ∙ s));
      needed = λ s. l ∙ low-needed why (sym r ∙ s);
    })

-- ---- Alias chains
pub crossed-read : {a : AliasAnswer} {c : Crossed} → a ≡ Ok c → c.names < 65536 → c.last < 65536 → ReadAlias a (c.names * 65536 + c.last)
crossed-read {c = c} e h k =
    let few : c.names * 65536 + c.last < 4294967296 = omega arith in
    rw e (div-eq_of_lt few, ap (λ (x : ℕ). x / 65536) (mod-eq_of_lt few) ∙ high 65536 c.names c.last k, lower 65536 c.names c.last k)

-- ---- What is read alike is the same
not-read : {A : Type 0} {n : ℕ} → n ≡ 0 → 1 ≤ n → A
not-read e h = absurd (omega arith)

-- a refusal other than row 16 needs no entries
none-needed : (r : Refusal) → (number_of r ≡ 16 → ⊥) → needed_of r ≡ 0
none-needed r h = elim (needed-short r) [ inl e ↦ e | inr e ↦ absurd (h (ap number_of e)) ]

not-both : {A : Type 0} → false ≡ true → A
not-both e = absurd (false≢true e)

module _ (refusal named : ℕ) where
  other-same : (r s : Refusal) → refusal ≡ number_of r → refusal ≡ number_of s → (refusal ≡ 16 → ⊥) → named ≡ name_of r → named ≡ name_of s → r ≡ s
  other-same r s e f n g h =
      row-settles r s (sym e ∙ f) (sym g ∙ h) (none-needed r (λ i. n (e ∙ i)) ∙ sym (none-needed s (λ i. n (f ∙ i))))

  why-same : (entries : ℕ) (r s : Refusal) → SaysWhy r refusal named entries → SaysWhy s refusal named entries → r ≡ s
  why-same entries r s x y = go (ℕ_discrete refusal 16)
    where
      go : Dec (refusal ≡ 16) → r ≡ s
      go (yes e) = row-short r (sym x.number ∙ e) ∙ ap Short (sym (x.needed e) ∙ y.needed e) ∙ sym (row-short s (sym y.number ∙ e))
      go (no n) = other-same r s x.number y.number n (x.name n) (y.name n)

  answer-same : (entries : ℕ) (a b : Answer) → SaysAnswer a refusal named entries → SaysAnswer b refusal named entries → a ≡ b
  answer-same entries (Ok n) (Ok m) x y = ap Ok (sym x.1 ∙ y.1)
  answer-same entries (Ok n) (Err s) x y = not-read x.0 y.some
  answer-same entries (Err r) (Ok m) x y = not-read y.0 x.some
  answer-same entries (Err r) (Err s) x y = ap Err (why-same entries r s x y)

  alias-same : (entries names last : ℕ) (a b : AliasAnswer) → SaysAlias a refusal named entries names last → SaysAlias b refusal named entries names last → a ≡ b
  alias-same entries names last (Ok c) (Ok d) x y =
      ap Ok (λ i. record { names = (sym x.1 ∙ y.1) i; last = (sym x.2 ∙ y.2) i })
  alias-same entries names last (Ok c) (Err s) x y = not-read x.0 y.some
  alias-same entries names last (Err r) (Ok d) x y = not-read y.0 x.some
  alias-same entries names last (Err r) (Err s) x y = ap Err (why-same entries r s x y)

  count-same : (entries : ℕ) (is_many : Bool) (number : ℕ) (a b : CountAnswer) → SaysCount a refusal named entries is_many number → SaysCount b refusal named entries is_many number → a ≡ b
  count-same entries is_many number (Ok (Exactly n)) (Ok (Exactly m)) x y = ap (λ (k : ℕ). Ok (Exactly k)) (sym x.2 ∙ y.2)
  count-same entries is_many number (Ok (Exactly n)) (Ok Many) x y = not-both (sym x.1 ∙ y.1)
  count-same entries is_many number (Ok Many) (Ok (Exactly m)) x y = not-both (sym y.1 ∙ x.1)
  count-same entries is_many number (Ok Many) (Ok Many) x y = refl
  count-same entries is_many number (Ok (Exactly n)) (Err s) x y = not-read x.0 y.0.some
  count-same entries is_many number (Ok Many) (Err s) x y = not-read x.0 y.0.some
  count-same entries is_many number (Err r) (Ok (Exactly m)) x y = not-read y.0 x.0.some
  count-same entries is_many number (Err r) (Ok Many) x y = not-read y.0 x.0.some
  count-same entries is_many number (Err r) (Err s) x y = ap Err (why-same entries r s x.0 y.0)

  -- a verdict's code has no entries needed
  verdict-same : (v w : Verdict) → ((r : Refusal) → v ≡ Err r → number_of r ≡ 16 → ⊥) → SaysVerdict v refusal named → SaysVerdict w refusal named → v ≡ w
  verdict-same (Ok a) (Ok b) n x y = refl
  verdict-same (Ok tt) (Err s) n x y = not-read x y.some
  verdict-same (Err r) (Ok tt) n x y = not-read y x.some
  verdict-same (Err r) (Err s) n x y = ap Err (other-same r s x.number y.number (λ e. n r refl (sym x.number ∙ e)) x.name y.name)

pub answer-settled : (a b : Answer) (code : ℕ) → ReadAnswer a code → ReadAnswer b code → a ≡ b
answer-settled a b code = answer-same (refusal_in code) (name_in code) (entries_in code) a b

pub uses-settled : (a b : Answer) (code : ℕ) → ReadUses a code → ReadUses b code → a ≡ b
uses-settled a b code = answer-same (uses_refusal_in code) (uses_name_in code) (uses_entries_in code) a b

pub alias-settled : (a b : AliasAnswer) (code : ℕ) → ReadAlias a code → ReadAlias b code → a ≡ b
alias-settled a b code = alias-same (uses_refusal_in code) (uses_name_in code) (uses_entries_in code) (alias_names_in code) (alias_last_in code) a b

pub count-settled : (a b : CountAnswer) (code : ℕ) → ReadCount a code → ReadCount b code → a ≡ b
count-settled a b code = count-same (values_refusal_in code) (uses_name_in code) (uses_entries_in code) (values_many_in code) (values_number_in code) a b

pub verdict-settled : (v w : Verdict) (code : ℕ) → ((r : Refusal) → v ≡ Err r → number_of r ≡ 16 → ⊥) → ReadVerdict v code → ReadVerdict w code → v ≡ w
verdict-settled v w code = verdict-same (refusal_in code) (name_in code) v w
