-- Laws that the proofs of the functions cite; `Shown` is what they come to for a book that is passed.
mod Listed
pub mod Shown
mod Room
