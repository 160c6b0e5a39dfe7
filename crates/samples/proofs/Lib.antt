-- What is proved of the table.
pub mod Computed
pub mod Theorems
