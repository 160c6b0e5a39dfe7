-- Laws that the proofs of the functions cite.
pub mod Small
pub mod Handed
pub mod Settled
