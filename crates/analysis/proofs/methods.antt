-- Laws of the positions of methods that use a name, and of the names of methods.
pub mod Positions
pub mod Names
