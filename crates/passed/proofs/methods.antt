-- Laws of the methods that change.
pub mod Laws
