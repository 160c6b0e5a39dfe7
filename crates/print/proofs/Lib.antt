-- Laws that the proofs of the functions cite; `Laws`, `Laid` and `Lays` serve the crates above as well.
pub mod Laws
pub mod Laid
pub mod Lays
mod Refusals
mod Escapes
mod Digits
