-- What is handed over to C.
pub mod Handed
