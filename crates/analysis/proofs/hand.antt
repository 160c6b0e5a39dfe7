-- Laws of what is handed over.
pub mod Flags
pub mod Laws
