-- The stages of a book: what admission and the check find together. Definitions; assumes nothing.
use Rattle.std.specs.Prelude.{◌≡◌, Result, IfOk}
use Rattle.refusals.specs.declared.Refusal.{Refusal}
use Rattle.refusals.specs.Outcome.{given}
use Rattle.format.specs.Admission.{Source, admitted}
use Rattle.refusals.specs.Verdict.{verdict_of}
use Rattle.judgement.specs.Check.{check_bytes}
use Rattle.passed.specs.declared.CheckedBook.{CheckedBook}
use Rattle.passed.specs.Checked.{book_of}

-- A book that passed is what these bytes are, which were admitted.
pub record BookPassed (bs : Source) (b : CheckedBook) : Type 0 where
  pub bytes : b.book.bytes.now ≡ bs.bytes
  pub is : admitted bs ≡ given (book_of b)

-- The verdict is that of the check on bytes; where they pass, the book is theirs.
pub record PassAs (bs : Source) (r : Result CheckedBook Refusal) : Type 0 where
  pub verdict : verdict_of r ≡ check_bytes bs
  pub passed : IfOk r (BookPassed bs)
