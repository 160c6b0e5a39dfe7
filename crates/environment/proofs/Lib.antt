-- Laws that the proofs of the functions cite; those that are public are for callers too.
pub mod Links
mod Names
pub mod BlankTable
mod RootTable
mod Ends
pub mod Definitions
pub mod FuncEnds
pub mod ChainEnds
pub mod Trees
pub mod Book
