-- Laws of the hashes of methods.
pub mod Gathering
pub mod Verdict
