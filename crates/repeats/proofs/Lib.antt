-- Laws that the proofs of the functions cite.
mod Tables
mod Keys
mod Child
mod Gathered
mod Labelled
mod Repeated
mod Searched
mod Verdict
