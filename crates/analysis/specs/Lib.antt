-- What the contracts of the analysis cite. The definitions of what it answers are those of the crate `listing`.
pub mod Flags
pub mod Walking
pub mod Marking
pub mod Reaching
pub mod Places
pub mod Entries
pub mod Methods
pub mod Projecting
pub mod Tallies
