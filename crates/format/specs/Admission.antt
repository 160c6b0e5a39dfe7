-- What every question starts with: from bytes to a book, or a refusal. Definitions; assumes nothing.
use Rattle.std.specs.Prelude.{◌≡◌, ◌⊎◌, cond, List, [], ◌∷◌, ℕ}
use Rattle.refusals.specs.declared.Refusal.{Refusal}
use Rattle.refusals.specs.declared.Refusal.TheVariants.{Broken, Repeated, OverLimit}
use Rattle.refusals.specs.Outcome.{Outcome, refused, given, after, asked}
use Rattle.format.specs.declared.Limits.{Limits}
use Rattle.format.specs.Book.{Book}
use Rattle.format.specs.Layout.{Layout, broken, whole, layout}
use Rattle.format.specs.Within.{clamped, size_of, Within, within, Over}
use Rattle.format.specs.Repeats.{RepeatOf, labels_verdict}

infix 20 ◌under◌
-- What a question is asked of: bytes, under the limits of a terminal model.
pub record Source : Type 0 where
  pub bytes : List ℕ
  pub limits : Limits

abbrev pub ◌under◌ : List ℕ → Limits → Source
bs under l = record { bytes = bs; limits = l }

-- 1: a book whose layout is broken. 24: a whole one that has more of one than its limit. 18: one within them with a repeated label.
unfoldable pub admitted_by : Limits → Layout → Outcome Book
admitted_by l broken = refused Broken
admitted_by l (whole b) = cond (within (size_of b) (clamped l)) (after (labels_verdict b) (given b)) (refused OverLimit)

unfoldable pub admitted : Source → Outcome Book
admitted bs = admitted_by bs.limits (layout bs.bytes)

-- A question on bytes.
abbrev pub on_bytes : {A : Type 0} → (Book → Outcome A) → Source → Outcome A
on_bytes question bs = asked question (admitted bs)

-- The row of each refusal that admission gives, and the numbers of these rows.
abbrev pub BrokenRow : Source → Type 0
BrokenRow bs = layout bs.bytes ≡ broken

abbrev pub OverRow : Source → Type 0
OverRow bs = (b : Book) × (layout bs.bytes ≡ whole b) × Over (size_of b) (clamped bs.limits)

-- The bytes lay out a book within the limits of which P holds: what is known without a word of admission.
pub record LaidIn (bs : Source) (P : Book → Type 0) : Type 0 where
  pub book : Book
  pub laid_out : layout bs.bytes ≡ whole book
  pub within : Within (size_of book) bs.limits
  pub holds : P book

pub data AdmissionRow (bs : Source) : Refusal → Type 0 where
  is_broken : BrokenRow bs → AdmissionRow bs Broken
  is_over : OverRow bs → AdmissionRow bs OverLimit
  is_repeated : {n : ℕ} → LaidIn bs (λ b. RepeatOf b n) → AdmissionRow bs (Repeated n)

abbrev pub admission_rows : List ℕ
admission_rows = 1 ∷ 18 ∷ 24 ∷ []

-- The bytes are admitted as a book of which P holds.
pub record BookIn (bs : Source) (P : Book → Type 0) : Type 0 where
  pub book : Book
  pub laid_out : admitted bs ≡ given book
  pub holds : P book

-- Bytes are refused by admission, or are a book, and the refusal lies in its row.
abbrev pub InRow : Source → (Book → Refusal → Type 0) → Refusal → Type 0
InRow bs Row r = AdmissionRow bs r ⊎ BookIn bs (λ b. Row b r)

-- ---- What limits change, for the theorems of proofs/Raising

-- Admission without limits: what is not broken and has no repeated label is admitted.
abbrev pub unlimited : Layout → Outcome Book
unlimited broken = refused Broken
unlimited (whole b) = after (labels_verdict b) (given b)

-- An outcome under lower limits is 24 (`over`), or that under higher ones.
abbrev pub Raised : {A : Type 0} → A → A → A → Type 0
Raised over low high = (low ≡ over) ⊎ (low ≡ high)
