-- Laws of definitions.
pub mod Laws
