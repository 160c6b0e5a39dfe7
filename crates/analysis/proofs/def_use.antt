-- Laws of the entries of uses.
pub mod Entries
pub mod Trees
pub mod Methods
