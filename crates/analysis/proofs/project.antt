-- Laws of projection.
pub mod Counts
pub mod Laws
