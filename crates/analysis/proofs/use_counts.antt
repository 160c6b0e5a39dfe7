-- Laws of the counts of uses.
pub mod Types
pub mod ByWalk
pub mod Used
pub mod Sites
pub mod Weights
pub mod Methods
pub mod Uses
