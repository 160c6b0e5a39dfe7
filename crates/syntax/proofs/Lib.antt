-- Laws that the proofs of the functions cite.
pub mod Book
pub mod Put
pub mod Stored
