-- What the questions' rooms share: the check before them, 17, 16, how many entries there are at most, a result of names, and what a refusal
-- names. Definitions; assumes nothing.
use Rattle.std.specs.Prelude.{◌≡◌, ◌↔◌, ◌⊎◌, true, false, cond, ℕ, ◌≤◌, ◌<◌, length}
use mathlib.Core.List.{List, Memᴰ}
use Rattle.refusals.specs.declared.Refusal.{Refusal}
use Rattle.refusals.specs.declared.Refusal.TheVariants.{Short, NoActor}
use Rattle.std.specs.Prelude.{Err}
use Rattle.refusals.specs.Verdict.{Verdict, passes, unless}
use Rattle.refusals.specs.Outcome.{Outcome, refused, given, fit}
use Rattle.format.specs.Forest.{Forest, end, no_trees}
use Rattle.format.specs.Node.{Node}
use Rattle.format.specs.Book.{Book}
use Rattle.format.specs.Distinct.{Distinct}
use Rattle.judgement.specs.Resolve.{resolve_actor}
use Rattle.judgement.specs.Check.{check}
use Rattle.judgement.specs.Rows.{NamesPlace}

-- The check comes before the question.
abbrev pub AfterCheck : {A : Type 0} → (Book → Outcome A) → Type 0
AfterCheck question = (b : Book) (r : Refusal) → check b ≡ Err r → question b ≡ refused r

-- 17: the question needs an actor.
unfoldable pub needs_actor : Forest Node → Verdict
needs_actor t = unless (cond (no_trees t) false true) NoActor

-- Its row: the book passes, and has no actor.
abbrev pub NoActorRow : Book → Type 0
NoActorRow b = (check b ≡ passes) × (resolve_actor b ≡ end)

-- 16: the places are fewer than the entries needed, and so many has the list that is given, which is the result asked for.
pub record ShortRow {A : Type 0} (places : ℕ) (answer : Outcome (List A)) (Result : List A → Type 0) (k : ℕ) : Type 0 where
  pub entries : List A
  pub is-given : answer ≡ given entries
  pub is-result : Result entries
  pub needed : length entries ≡ k
  pub short : places < k

-- The entries that are given, or needed, are no more than so many.
pub record Most {A : Type 0} (most : ℕ) (o : Outcome (List A)) : Type 0 where
  pub entries : (l : List A) → o ≡ given l → length l ≤ most
  pub needed : (k : ℕ) → o ≡ refused (Short k) → k ≤ most

-- A result of names: each of which P holds, once, and no other.
abbrev pub EachOnce : (ℕ → Type 0) → List ℕ → Type 0
EachOnce P l = Distinct l × ((n : ℕ) → Memᴰ n l ↔ P n)

-- Nothing is given.
abbrev pub NotGiven : {A : Type 0} → Outcome A → Type 0
NotGiven {A} o = (a : A) → o ≡ given a → ⊥

-- No list is given in so many places.
abbrev pub Unanswered : {A : Type 0} → ℕ → Outcome (List A) → Type 0
Unanswered {A} places o = (l : List A) → fit places o ≡ given l → ⊥

-- What a refusal names is a place in a table of so many names; or it is this refusal of a number that was asked with.
abbrev pub NamesAsked : (ℕ → Refusal) → ℕ → List ℕ → Refusal → Type 0
NamesAsked of names asked r = NamesPlace names r ⊎ ((n : ℕ) × (r ≡ of n) × Memᴰ n asked)
