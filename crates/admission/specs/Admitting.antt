-- Admission as the code answers it: a refusal, or the table of contents. Definitions; assumes nothing.
use Rattle.std.specs.Prelude.{Result, Ok, Err}
use Rattle.refusals.specs.declared.Refusal.{Refusal}
use Rattle.refusals.specs.Outcome.{Outcome, refused, given}
use Rattle.format.specs.Book.{Book}
use Rattle.book.specs.declared.kinds.Contents.{Contents}
use Rattle.book.specs.Reading.{contents_of}

unfoldable pub admission_of : Outcome Book → Result Contents Refusal
admission_of (refused r) = Err r
admission_of (given b) = Ok (contents_of b)
