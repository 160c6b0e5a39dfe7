-- Laws that the proofs of the functions cite.
pub mod Named
pub mod Shown
mod Listed
mod Answered
mod Room
