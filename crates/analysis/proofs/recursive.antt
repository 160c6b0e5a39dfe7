-- Laws of marks.
pub mod Rows
pub mod Laws
pub mod Answers
