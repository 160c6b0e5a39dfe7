-- Laws of how many values there are, in the order of the code.
mod Types
mod Waits
mod ByKind
mod Numbered
mod Counted
mod Uncounted
