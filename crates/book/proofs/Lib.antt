-- Laws that the proofs of the functions cite.
mod Tests
mod Entries
mod Trees
mod Names
mod Parts
pub mod Named
pub mod Opened
pub mod Blank
pub mod Placed
pub mod Walking
