-- Laws that the proofs of several questions cite; `Asking` serves the crates above as well.
pub mod Asking
mod Walks
