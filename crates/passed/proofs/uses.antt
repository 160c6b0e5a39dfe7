-- Laws of the uses.
pub mod Sites
pub mod Laws
