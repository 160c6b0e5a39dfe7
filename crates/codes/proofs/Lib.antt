-- Laws that the proofs of the functions cite.
pub mod Codes
pub mod Read
