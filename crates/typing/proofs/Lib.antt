-- Laws that the proofs of the functions cite.
mod Nodes
mod Modes
mod Walk
mod Fits
