-- Laws of the check of a book.
pub mod Laws
pub mod Book
