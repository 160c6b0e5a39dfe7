-- Laws of the names that reach a name, and of the rows that are one.
pub mod Near
pub mod Rows
pub mod Ownership
pub mod Links
pub mod Worklist
