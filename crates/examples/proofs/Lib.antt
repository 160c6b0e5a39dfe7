-- What is proved of the table, and of P1 and P5 besides.
pub mod Computed
pub mod Theorems
pub mod Repeats
pub mod Chains
pub mod P1
pub mod P5
