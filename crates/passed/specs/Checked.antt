-- A book that passed, as the questions take it. Definitions; assumes nothing.
use Rattle.format.specs.Book.{Book}
use Rattle.passed.specs.declared.CheckedBook.{CheckedBook}

-- The book that its bytes are.
abbrev pub book_of : CheckedBook → Book
book_of b = b.passes.admitted.book
