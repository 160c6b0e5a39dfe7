-- How an answer is handed over: a number or a refusal, and the lent list. Definitions; assumes nothing.
use Rattle.std.specs.Prelude.{◌≡◌, List, [], ◌∷◌, ◌++◌, ℕ, ◌*◌, ◌/◌, length, drop, sum, Result, Ok, Err}
use Rattle.refusals.specs.declared.Refusal.{Refusal}
use Rattle.refusals.specs.declared.Count.{Count}
use Rattle.refusals.specs.declared.Crossed.{Crossed}
use Rattle.refusals.specs.declared.UseCounts.{UseCounts}
use Rattle.refusals.specs.Lists.{flat}
use Rattle.refusals.specs.Outcome.{Outcome, refused, given, fit}

-- What a question answers: how many entries there are, or why there are none; what the one about an alias chain does, the one about the
-- values of a name, and the one about the uses of all listed definitions.
abbrev pub Answer : Type 0
Answer = Result ℕ Refusal

abbrev pub AliasAnswer : Type 0
AliasAnswer = Result Crossed Refusal

abbrev pub CountAnswer : Type 0
CountAnswer = Result Count Refusal

abbrev pub UseCountsAnswer : Type 0
UseCountsAnswer = Result UseCounts Refusal

-- How many entries there are, or why there are none.
unfoldable pub answer_of : {A : Type 0} → Outcome (List A) → Answer
answer_of (refused r) = Err r
answer_of (given l) = Ok (length l)

-- What the lent list holds afterwards: the entries in front, the rest as it was; all of it as it was where the question is refused.
unfoldable pub left_in : Outcome (List ℕ) → List ℕ → List ℕ
left_in (refused r) old = old
left_in (given l) old = l ++ drop (length l) old

-- The outcome o is handed over, as far as the lent list has room for it, and this is answered of what is handed over.
pub record HandsOver {R : Type 0} (answering : Outcome (List ℕ) → R) (o : Outcome (List ℕ)) (old new : List ℕ) (r : R) : Type 0 where
  pub answer : r ≡ answering (fit (length old) o)
  pub left : new ≡ left_in (fit (length old) o) old

-- How many entries there are is answered.
abbrev pub HandedAs : Outcome (List ℕ) → (old new : List ℕ) → Answer → Type 0
HandedAs = HandsOver answer_of

-- How many numbers there are, and their sum.
unfoldable pub use_counts_answer : Outcome (List ℕ) → UseCountsAnswer
use_counts_answer (refused r) = Err r
use_counts_answer (given l) = Ok (record { listed = length l; total = sum l })

abbrev pub UseCountsAs : Outcome (List ℕ) → (old new : List ℕ) → UseCountsAnswer → Type 0
UseCountsAs = HandsOver use_counts_answer

-- ---- Uses, whose entries take three places each

-- An entry of document 01: a method's position, or 65,535 for an argument of the actor's class; 0 argument or 1 result; an index.
pub record Use : Type 0 where
  pub method : ℕ
  pub result : ℕ
  pub index : ℕ

-- The three numbers of an entry.
unfoldable pub numbers : Use → List ℕ
numbers e = e.method ∷ e.result ∷ e.index ∷ []

-- The numbers of the entries in front, the rest as it was; all of it as it was where the question is refused.
unfoldable pub uses_left : Outcome (List Use) → List ℕ → List ℕ
uses_left (refused r) old = old
uses_left (given es) old = flat numbers es ++ drop (3 * length es) old

pub record UsesAs (o : Outcome (List Use)) (old new : List ℕ) (r : Answer) : Type 0 where
  pub answer : r ≡ answer_of (fit (length old / 3) o)
  pub left : new ≡ uses_left (fit (length old / 3) o) old

-- ---- What takes no list: an alias chain, a count

unfoldable pub alias_answer : Outcome Crossed → AliasAnswer
alias_answer (refused r) = Err r
alias_answer (given c) = Ok c

unfoldable pub count_answer : Outcome Count → CountAnswer
count_answer (refused r) = Err r
count_answer (given c) = Ok c
