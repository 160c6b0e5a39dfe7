-- What the contracts of this crate cite.
pub mod Duplicate
pub mod Tree
