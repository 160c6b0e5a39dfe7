-- Verdicts and answers as one number each, and how include/ludzepin.h takes them apart again. Definitions; assumes nothing.
use Rattle.std.specs.Prelude.{◌≡◌, Bool, true, false, cond, ℕ, ◌+◌, ◌*◌, ◌/◌, ◌%◌, ◌≤◌, ◌<◌, eqb, Ok, Err}
use Rattle.refusals.specs.declared.Count.TheVariants.{Exactly, Many}
use Rattle.refusals.specs.declared.Refusal.{Refusal}
use Rattle.refusals.specs.Verdict.{Verdict}
use Rattle.refusals.specs.Refusal.{number_of, name_of, needed_of}
use Rattle.refusals.specs.Handed.{Answer, AliasAnswer, CountAnswer, UseCountsAnswer}

-- 0 where it passes; else the refusal's number in the high 16 bits, and in the low ones the number of its name, 65,535 for none.
unfoldable pub coded : Verdict → ℕ
coded (Ok tt) = 0
coded (Err r) = number_of r * 65536 + name_of r

-- The low bits of a refused question: the entries needed of row 16, else the name.
unfoldable pub low_of : Refusal → ℕ
low_of r = cond (eqb (number_of r) 16) (needed_of r) (name_of r)

-- The number of entries; or the refusal's row times a unit that is above entries and names alike, and the low bits.
unfoldable pub coded_by : ℕ → Answer → ℕ
coded_by unit (Ok n) = n
coded_by unit (Err r) = number_of r * unit + low_of r

-- Entries that are given, or needed, are below it.
abbrev pub Below : ℕ → Answer → Type 0
Below unit (Ok n) = n < unit
Below unit (Err r) = needed_of r < unit

-- In 32 bits, of which a refusal's row takes the high 16; and in 64 for uses, of which a book may have 3,143,680.
abbrev pub small : ℕ
small = 65536

abbrev pub wide : ℕ
wide = 4294967296

abbrev pub coded_answer : Answer → ℕ
coded_answer a = coded_by small a

abbrev pub coded_uses : Answer → ℕ
coded_uses a = coded_by wide a

-- What is coded of a uses report, as uses are: how many definitions are listed.
unfoldable pub listed_of : UseCountsAnswer → Answer
listed_of (Ok c) = Ok c.listed
listed_of (Err r) = Err r

-- Of an alias chain, in 64 bits too: of the low 32 the high half has the names crossed, the low half the last of them. A refusal is as that of
-- uses.
unfoldable pub coded_alias : AliasAnswer → ℕ
coded_alias (Ok c) = c.names * 65536 + c.last
coded_alias (Err r) = coded_uses (Err r)

-- Of the values of a name, in 64 bits too: their number, or for many the largest that there is, which no refusal is.
abbrev pub many : ℕ
many = 18446744073709551615

unfoldable pub coded_count : CountAnswer → ℕ
coded_count (Ok (Exactly n)) = n
coded_count (Ok Many) = many
coded_count (Err r) = coded_uses (Err r)

-- ---- The arithmetic of include/ludzepin.h, a definition for each function there. No proof reads that file, so its text is to be held
-- against these lines: `answer >> 16` is a division by 2^16, `answer & 65535` its remainder; of uses likewise `answer >> 32` and the cast of
-- `answer` to 32 bits. Of an alias chain that cast is shifted by 16 for the names crossed. UINT64_MAX is many.
abbrev pub refusal_in : ℕ → ℕ
refusal_in answer = answer / 65536

abbrev pub name_in : ℕ → ℕ
name_in answer = answer % 65536

abbrev pub entries_in : ℕ → ℕ
entries_in answer = answer % 65536

abbrev pub uses_refusal_in : ℕ → ℕ
uses_refusal_in answer = answer / 4294967296

abbrev pub uses_name_in : ℕ → ℕ
uses_name_in answer = answer % 4294967296

abbrev pub uses_entries_in : ℕ → ℕ
uses_entries_in answer = answer % 4294967296

abbrev pub alias_names_in : ℕ → ℕ
alias_names_in answer = answer % 4294967296 / 65536

abbrev pub alias_last_in : ℕ → ℕ
alias_last_in answer = answer % 65536

abbrev pub values_many_in : ℕ → Bool
values_many_in answer = eqb answer many

abbrev pub values_refusal_in : ℕ → ℕ
values_refusal_in answer = cond (eqb answer many) 0 (answer / 4294967296)

abbrev pub values_number_in : ℕ → ℕ
values_number_in answer = answer % 4294967296

-- What is read says what a verdict is: refusal 0 of one that passes, else the row, which is never 0, and the name.
pub record SaysRefused (r : Refusal) (refusal named : ℕ) : Type 0 where
  pub some : 1 ≤ refusal
  pub number : refusal ≡ number_of r
  pub name : named ≡ name_of r

abbrev pub SaysVerdict : Verdict → (refusal named : ℕ) → Type 0
SaysVerdict (Ok tt) refusal named = refusal ≡ 0
SaysVerdict (Err r) refusal named = SaysRefused r refusal named

-- And what an answer is: refusal 0 and the entries where they are given, else the row, which is never 0, with the entries needed of row 16
-- and the name of any other.
pub record SaysWhy (r : Refusal) (refusal named entries : ℕ) : Type 0 where
  pub some : 1 ≤ refusal
  pub number : refusal ≡ number_of r
  pub name : (refusal ≡ 16 → ⊥) → named ≡ name_of r
  pub needed : refusal ≡ 16 → entries ≡ needed_of r

abbrev pub SaysAnswer : Answer → (refusal named entries : ℕ) → Type 0
SaysAnswer (Ok n) refusal named entries = (refusal ≡ 0) × (entries ≡ n)
SaysAnswer (Err r) refusal named entries = SaysWhy r refusal named entries

-- Of an alias chain: refusal 0, the names crossed and the last of them; else as of any answer.
abbrev pub SaysAlias : AliasAnswer → (refusal named entries names last : ℕ) → Type 0
SaysAlias (Ok c) refusal named entries names last = (refusal ≡ 0) × (names ≡ c.names) × (last ≡ c.last)
SaysAlias (Err r) refusal named entries names last = SaysWhy r refusal named entries

-- Of values: refusal 0, and either many or their number; else as of any answer.
abbrev pub SaysCount : CountAnswer → (refusal named entries : ℕ) → (is_many : Bool) → (number : ℕ) → Type 0
SaysCount (Ok (Exactly n)) refusal named entries is_many number = (refusal ≡ 0) × (is_many ≡ false) × (number ≡ n)
SaysCount (Ok Many) refusal named entries is_many number = (refusal ≡ 0) × (is_many ≡ true)
SaysCount (Err r) refusal named entries is_many number = SaysWhy r refusal named entries × (is_many ≡ false)

-- What the header reads in a number is this verdict, or this answer. No two answers are read alike in a number (proofs/Read.antt), and no two
-- verdicts of a check (exports, proofs/Settled.antt).
abbrev pub ReadVerdict : Verdict → ℕ → Type 0
ReadVerdict v code = SaysVerdict v (refusal_in code) (name_in code)

abbrev pub ReadAnswer : Answer → ℕ → Type 0
ReadAnswer a code = SaysAnswer a (refusal_in code) (name_in code) (entries_in code)

abbrev pub ReadUses : Answer → ℕ → Type 0
ReadUses a code = SaysAnswer a (uses_refusal_in code) (uses_name_in code) (uses_entries_in code)

abbrev pub ReadAlias : AliasAnswer → ℕ → Type 0
ReadAlias a code = SaysAlias a (uses_refusal_in code) (uses_name_in code) (uses_entries_in code) (alias_names_in code) (alias_last_in code)

abbrev pub ReadCount : CountAnswer → ℕ → Type 0
ReadCount a code = SaysCount a (values_refusal_in code) (uses_name_in code) (uses_entries_in code) (values_many_in code) (values_number_in code)
