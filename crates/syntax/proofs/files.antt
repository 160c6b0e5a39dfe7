-- Laws of the files.
pub mod Laws
