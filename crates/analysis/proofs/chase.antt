-- Laws of the walk over names.
pub mod NewNames
pub mod Steps
pub mod Rows
pub mod Actor
