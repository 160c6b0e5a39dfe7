-- What is found of repeated labels, by node numbers. Definitions; assumes nothing.
use Rattle.std.specs.Prelude.{◌≡◌, Option, ℕ, ◌≤◌, ◌<◌, MatchOption}
use Rattle.format.specs.Forest.{count}
use Rattle.format.specs.Node.{Labelled}
use Rattle.format.specs.Book.{Book, trees}
use Rattle.format.specs.Repeats.{RepeatAt, FirstRepeatAt}

-- A book has no repeat; node r is its first.
abbrev pub NoRepeat : Book → Type 0
NoRepeat b = (j : ℕ) (l : Labelled) → RepeatAt b.names (trees b) j l → ⊥

pub record FirstRepeat (b : Book) (r : ℕ) : Type 0 where
  pub inside : r < count (trees b)
  pub found : (l : Labelled) × FirstRepeatAt b.names (trees b) r l

-- The node of a book's first repeat, or none where there is none.
abbrev pub FoundAs : Book → Option ℕ → Type 0
FoundAs b found = MatchOption found (NoRepeat b) (λ r. FirstRepeat b r)

-- No repeat stands below node i; or node r is one, and no lower node is one below node i.
abbrev pub NoneBelow : Book → ℕ → Type 0
NoneBelow b i = (j : ℕ) (l : Labelled) (x : RepeatAt b.names (trees b) j l) → x.at ≡ i → ⊥

pub record FirstBelow (b : Book) (i r : ℕ) : Type 0 where
  pub is : (l : Labelled) × RepeatAt b.names (trees b) r l
  pub least : (j : ℕ) (l : Labelled) (x : RepeatAt b.names (trees b) j l) → x.at ≡ i → r ≤ j
