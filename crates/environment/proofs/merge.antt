-- Laws of the merge; `Tables` is for callers too.
mod Labels
mod Lockstep
pub mod Tables
